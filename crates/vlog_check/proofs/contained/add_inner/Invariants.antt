use Rattle.std.proofs.Common.{◌≡◌, ◌++◌, take, filter_map}
use Rattle.vlog_check.specs.Contained.{inner_number}
use Rattle.vlog_check.proofs.contained.add_inner.Given as goal

abbrev pub invariant-loop-item : goal.invariant-loop-item
invariant-loop-item l = l.inner.items ≡ l.initial.inner.items ++ filter_map (inner_number l.scope.tree.now) (take l.item-index l.item-items)
