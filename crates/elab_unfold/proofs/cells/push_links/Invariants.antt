use Rattle.std.proofs.Common.{◌≡◌, ◌++◌, take}
use Rattle.elab_unfold.specs.Places.{link_cells}
use Rattle.elab_unfold.proofs.cells.push_links.Given as goal

abbrev pub invariant-loop-k : goal.invariant-loop-k
invariant-loop-k l = l.cells ≡ l.initial.cells ++ link_cells (take l.k l.from) (take l.k l.to)
