use Rattle.std.proofs.Common.{◌≡◌, ℕ, ◌++◌, ◌∷◌, map, take}
use Rattle.std.specs.List.{flat_map}
use Rattle.vlog_check.specs.Scope.{numbered_from}
use Rattle.elab_design.specs.Design.{Path, Bit}
use Rattle.elab_design.specs.Order.{port_links}
use Rattle.elab_design.specs.Raw.{raw_cell}
use Rattle.elab_unfold.specs.Places.{Fits}
use Rattle.elab_unfold.proofs.ports.push_all.Given as goal

abbrev pub invariant-loop-k : goal.invariant-loop-k
invariant-loop-k l = (path : Path) (number : Bit → ℕ) → Fits (l.outer.holder.now) path l.base number → Fits (l.inner.places.holder.now) (l.inst.name ∷ path) l.next number
    → l.cells ≡ l.initial.cells ++ map (raw_cell number) (flat_map (port_links (l.outer.holder.now) path l.inst (l.inner.places.holder.now)) (take l.k (numbered_from 0 (l.inner.places.holder.now).ports)))
