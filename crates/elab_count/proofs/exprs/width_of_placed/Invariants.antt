use Rattle.std.proofs.Common.{◌≡◌, take, sum_by}
use Rattle.vlog_parse.specs.declared.tree.Module.{Module}
use Rattle.vlog_check.specs.Scope.{width_of}
use Rattle.elab_scope.specs.Nets.{AreNets}
use Rattle.elab_count.specs.Amounts.{saturated}
use Rattle.elab_count.proofs.exprs.width_of_placed.Given as goal

abbrev pub invariant-loop-e : goal.invariant-loop-e
invariant-loop-e l = (m : Module) → AreNets m l.nets → l.width ≡ saturated (sum_by (width_of m) (take l.e-index l.given))
