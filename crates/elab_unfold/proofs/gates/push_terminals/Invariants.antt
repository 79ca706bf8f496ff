use Rattle.std.proofs.Common.{◌≡◌, ℕ, ◌++◌, map, take}
use Rattle.std.specs.List.{flat_map}
use Rattle.elab_design.specs.Design.{Path, Bit, sources}
use Rattle.elab_design.specs.Raw.{pin}
use Rattle.elab_unfold.specs.Places.{Fits}
use Rattle.elab_unfold.proofs.gates.push_terminals.Given as goal

abbrev pub invariant-loop-e : goal.invariant-loop-e
invariant-loop-e l = (path : Path) (number : Bit → ℕ) → Fits (l.places.holder.now) path l.base number → l.out ≡ l.initial.out ++ map (pin number) (flat_map (sources (l.places.holder.now) path) (take l.e-index l.args))
