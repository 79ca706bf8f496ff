use Rattle.std.proofs.Common.{◌≡◌, take}
use Rattle.ila_base.specs.Places.{place_behind}
use Rattle.ila_base.proofs.place.Place.further.Given as goal

abbrev pub invariant-loop-at : goal.invariant-loop-at
invariant-loop-at l = l.place ≡ place_behind (take l.at l.text)
