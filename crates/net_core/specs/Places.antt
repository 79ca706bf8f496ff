-- Where the net bits stand in their groups.
use Rattle.std.specs.Prelude.{◌≡◌, ℕ, ◌+◌, ◌<◌, List, map, take, length, slice_get, Some}
use Rattle.std.specs.List.{range_with_len}
use Rattle.net_core.specs.declared.parts.Group.{Group}
use Rattle.net_core.specs.Netlist.{net_count}
use Rattle.net_core.specs.declared.places.BitPlace.{BitPlace}

-- the net bit n stands here: the bits of the groups before its own, and those to its left, are n
pub record IsPlaceOf (groups : List Group) (n : ℕ) (own : BitPlace) : Type 0 where
  pub group : Group
  pub at : slice_get groups own.group ≡ Some group
  pub within : own.place < length group.bits
  pub before : net_count (take own.group groups) + own.place ≡ n

-- the table has the place of each net bit of the groups below the bound
pub record ArePlaces (groups : List Group) (bound : ℕ) (table : List BitPlace) : Type 0 where
  pub size : length table ≡ net_count (take bound groups)
  pub each : (n : ℕ) (own : BitPlace) → slice_get table n ≡ Some own → IsPlaceOf groups n own

-- the places of a group's bits, the leftmost first
abbrev pub group_places : ℕ → ℕ → List BitPlace
group_places group count = map (λ place. record { group = group; place = place }) (range_with_len 0 count)
