use Rattle.std.proofs.Common.{◌≡◌, ◌++◌}
use Rattle.net_core.specs.Places.{group_places}
use Rattle.net_core.proofs.places.push_places.Given as goal

abbrev pub invariant-loop-place : goal.invariant-loop-place
invariant-loop-place l = l.table ≡ l.initial.table ++ group_places l.group l.place
