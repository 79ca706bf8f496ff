use Rattle.std.proofs.Common.{◌≡◌, take, sum_by}
use Rattle.vlog_parse.specs.declared.tree.Module.{Module}
use Rattle.vlog_check.specs.Scope.{width_of}
use Rattle.elab_scope.specs.Nets.{AreNets}
use Rattle.elab_count.specs.Amounts.{saturated}
use Rattle.elab_count.proofs.exprs.+width_of.Given as goal

abbrev pub decreases-width_of : goal.decreases-width_of
decreases-width_of l = goal.size-width_of l

abbrev pub invariant-loop-part : goal.invariant-loop-part
invariant-loop-part l = (m : Module) → AreNets m l.nets → l.width ≡ saturated (sum_by (width_of m) (take l.part-index l.part-items))
