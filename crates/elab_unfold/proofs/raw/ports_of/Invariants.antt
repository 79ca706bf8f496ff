use Rattle.std.proofs.Common.{◌≡◌, take}
use Rattle.elab_unfold.specs.Parts.{ports_of}
use Rattle.elab_unfold.proofs.raw.ports_of.Given as goal

abbrev pub invariant-loop-k : goal.invariant-loop-k
invariant-loop-k l = l.out ≡ ports_of 0 (take l.k l.ports)
