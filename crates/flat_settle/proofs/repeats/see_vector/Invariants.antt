use Rattle.std.proofs.Common.{◌≡◌, ◌≤◌, ◌<◌, ◌^◌, List, ◌++◌, map, take, length, slice_get, Some}
use Rattle.net_core.specs.WellFormed.{range_indices, indexed_name}
use Rattle.flat_settle.specs.Refusals.{Named, BitName}
use Rattle.flat_settle.specs.Naming.{AreSeen}
use Rattle.flat_settle.proofs.repeats.see_vector.Given as goal

abbrev pub invariant-loop-place : goal.invariant-loop-place
invariant-loop-place l =
    (slice_get l.seen.fronts l.number ≡ Some l.front) × (length l.seen.fronts < 2 ^ 30) × (l.place ≤ l.count)
    × ((names : List Named) → AreSeen l.fn.seen names → AreSeen l.seen (names ++ take l.place (map BitName (map (indexed_name l.front) (range_indices l.left l.right)))))
