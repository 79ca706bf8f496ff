use Rattle.vlog_check.specs.Found.{IsLeastFinding}
use Rattle.vlog_check.specs.Design.{FindsLateItem}
use Rattle.vlog_check.proofs.LeastLaws.{FindsBelow}
use Rattle.vlog_check.proofs.design.find_in_items.Given as goal

abbrev pub invariant-loop-item : goal.invariant-loop-item
invariant-loop-item l = IsLeastFinding (FindsBelow (FindsLateItem l.scope.tree.now l.names.module.now) l.names.module.now.items l.item-index) l.best
