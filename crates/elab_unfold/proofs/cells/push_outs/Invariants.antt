use Rattle.std.proofs.Common.{◌≡◌, ◌++◌, map, take}
use Rattle.elab_unfold.specs.Places.{pin_net}
use Rattle.elab_unfold.proofs.cells.push_outs.Given as goal

abbrev pub invariant-loop-pin : goal.invariant-loop-pin
invariant-loop-pin l = l.out ≡ l.initial.out ++ map pin_net (take l.pin-index l.pins)
