use Rattle.std.proofs.Common.{◌≡◌, ℕ, List, take}
use Rattle.vlog_check.specs.Scope.{value_of}
use Rattle.elab_unfold.specs.Steps.{directions_of}
use Rattle.elab_unfold.proofs.plan.read_directions.Given as goal

abbrev pub invariant-loop-item : goal.invariant-loop-item
invariant-loop-item l = (name : List ℕ) → value_of l.directions name ≡ value_of (directions_of (take l.item-index l.m.items)) name
