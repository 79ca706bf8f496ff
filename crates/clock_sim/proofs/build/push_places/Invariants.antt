use Rattle.std.proofs.Common.{◌≡◌, ◌++◌, take}
use Rattle.clock_sim.specs.Reading.{places_of}
use Rattle.clock_sim.proofs.build.push_places.Given as goal

abbrev pub invariant-loop-pin : goal.invariant-loop-pin
invariant-loop-pin l = l.places.items ≡ l.initial.places.items ++ places_of (take l.pin-index l.ins)
