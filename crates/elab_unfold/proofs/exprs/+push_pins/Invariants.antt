use Rattle.std.proofs.Common.{◌≡◌, ℕ, ◌++◌, map, take}
use Rattle.std.specs.List.{flat_map}
use Rattle.elab_design.specs.Design.{Path, Bit, sources}
use Rattle.elab_design.specs.Raw.{pin}
use Rattle.elab_unfold.specs.Places.{Fits}
use Rattle.elab_unfold.proofs.exprs.+push_pins.Given as goal

abbrev pub decreases-push_pins : goal.decreases-push_pins
decreases-push_pins l = goal.size-push_pins l

abbrev pub invariant-loop-part : goal.invariant-loop-part
invariant-loop-part l = (path : Path) (number : Bit → ℕ) → Fits (l.places.holder.now) path l.base number → l.out ≡ l.initial.out ++ map (pin number) (flat_map (sources (l.places.holder.now) path) (take l.part-index l.part-items))
