use Rattle.std.proofs.Common.{◌≡◌, ◌++◌, filter, take}
use Rattle.elab_scope.specs.Nets.{rows_seen, is_other}
use Rattle.elab_scope.proofs.nets.add_others.Given as goal

abbrev pub invariant-loop-first : goal.invariant-loop-first
invariant-loop-first l = rows_seen l.order.items ≡ rows_seen l.initial.order.items ++ filter (is_other l.header) (rows_seen (take l.first-index l.firsts))
