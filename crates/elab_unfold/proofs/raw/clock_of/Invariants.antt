use Rattle.std.proofs.Common.{◌≡◌, drop}
use Rattle.elab_unfold.specs.Parts.{clock_of}
use Rattle.elab_unfold.proofs.raw.clock_of.Given as goal

abbrev pub invariant-loop-port : goal.invariant-loop-port
invariant-loop-port l = clock_of (drop l.port-index l.ports) l.name ≡ clock_of l.ports l.name
