use Rattle.std.proofs.Common.{◌≡◌, drop}
use Rattle.vlog_check.specs.Scope.{value_of}
use Rattle.elab_count.proofs.items.amount.Given as goal

abbrev pub invariant-loop-param : goal.invariant-loop-param
invariant-loop-param l = value_of (drop l.param-index l.params) l.name ≡ value_of l.params l.name
