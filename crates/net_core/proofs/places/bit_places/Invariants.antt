use Rattle.net_core.specs.Places.{ArePlaces}
use Rattle.net_core.proofs.places.bit_places.Given as goal

abbrev pub invariant-loop-number : goal.invariant-loop-number
invariant-loop-number l = ArePlaces l.groups l.number l.table
