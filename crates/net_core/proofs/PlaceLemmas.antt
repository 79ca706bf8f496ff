-- How the table of places is made, and what it tells of the names.
use Rattle.std.proofs.Common.{◌≡◌, ℕ, ◌+◌, ◌<◌, List, ◌++◌, map, length, slice_get, get_or, Some, ap, sym, ◌∙◌, subst, arith, inl, inr, length-append}
use Rattle.std.specs.List.{range_with_len}
use Rattle.std.specs.Option.{option_map}
use Rattle.std.proofs.lemmas.List.{take_all}
use Rattle.std.proofs.lemmas.List.FromFn.{length-map-range_with_len}
use Rattle.std.proofs.lemmas.Option.{slice_get-map, slice_get-get_or, slice_get_within, same_Some}
use Rattle.net_core.specs.declared.parts.NetId.{NetId}
use Rattle.net_core.specs.declared.parts.Group.{Group}
use Rattle.net_core.specs.Netlist.{net_count, numbers}
use Rattle.net_core.specs.WellFormed.{Each, HasRange, bit_names, net_names}
use Rattle.net_core.proofs.ListLemmas.{option_map_some, slice_get_append}
use Rattle.net_core.proofs.NetNameLemmas.{range_number}
use Rattle.net_core.specs.declared.places.BitPlace.{BitPlace}
use Rattle.net_core.specs.Places.{IsPlaceOf, ArePlaces, group_places}
use Rattle.net_core.proofs.NameLemmas.{name_at, count_more}

mapped : {X : Type 0} (f : ℕ → X) (xs : List ℕ) (m : ℕ) (x : X) → slice_get (map f xs) m ≡ Some x → (k : ℕ) × (slice_get xs m ≡ Some k) × (f k ≡ x)
mapped f xs m x at = option_map_some f (slice_get xs m) x (sym (slice_get-map f xs m) ∙ at)

-- what stands among the places of a group's bits
group_place : (number count m : ℕ) (own : BitPlace) → slice_get (group_places number count) m ≡ Some own → (m < count) × (record { group = number; place = m } ≡ own)
group_place number count m own at =
    let found = mapped (λ (k : ℕ). record { group = number; place = k }) (range_with_len 0 count) m own at in
    let place = range_number 0 count m found.0 found.1 in
    let e : m ≡ found.0 = omega (arith, place.0) in
    (place.1, ap (λ (k : ℕ). record { group = number; place = k }) e ∙ found.2)

-- one group more has its places behind the table
pub places_more : (groups : List Group) (i : ℕ) (group : Group) (table : List BitPlace) → slice_get groups i ≡ Some group → ArePlaces groups i table
    → ArePlaces groups (i + 1) (table ++ group_places i (length group.bits))
places_more groups i group table at before = record {
  size =
      let more : length (group_places i (length group.bits)) ≡ length group.bits = length-map-range_with_len (λ (k : ℕ). record { group = i; place = k }) 0 (length group.bits) in
      omega (arith, before.size, length-append table (group_places i (length group.bits)), more, count_more groups i group at);
  each = each;
}
  where
    each : (n : ℕ) (own : BitPlace) → slice_get (table ++ group_places i (length group.bits)) n ≡ Some own → IsPlaceOf groups n own
    each n own there = elim (slice_get_append table (group_places i (length group.bits)) n own there) [
      | inl first ↦ before.each n own first
      | inr last ↦ (
          let found = group_place i (length group.bits) last.0 own last.2 in
          subst (IsPlaceOf groups n) found.1 (record { group = group; at = at; within = found.0; before = omega (arith, before.size, last.1) }))
    ]

-- after the last group the table is as long as the groups have bits
pub places_size : (groups : List Group) (table : List BitPlace) → ArePlaces groups (length groups) table → length table ≡ net_count groups
places_size groups table places = places.size ∙ ap net_count (take_all (length groups) groups (omega arith))

-- so each net bit has its place in it
pub place_found : (groups : List Group) (table : List BitPlace) (n : ℕ) (d : BitPlace) → ArePlaces groups (length groups) table → n < net_count groups → IsPlaceOf groups n (get_or table n d)
place_found groups table n d places low = places.each n (get_or table n d) (slice_get-get_or table n d (omega (arith, low, places_size groups table places)))

pub place_low : (groups : List Group) (n : ℕ) (own : BitPlace) → IsPlaceOf groups n own → own.group < length groups
place_low groups n own is = slice_get_within groups own.group is.group is.at

pub place_within : (groups : List Group) (n : ℕ) (own : BitPlace) (group : Group) → IsPlaceOf groups n own → slice_get groups own.group ≡ Some group → own.place < length group.bits
place_within groups n own group is at = let e = ap (λ (g : Group). length g.bits) (same_Some is.group group (sym is.at ∙ at)) in omega (arith, e, is.within)

-- the name at a place is that of its net bit
pub place_name : (groups : List Group) (n : ℕ) (own : BitPlace) (group : Group) (name : List ℕ) → Each HasRange groups → IsPlaceOf groups n own → slice_get groups own.group ≡ Some group
    → slice_get (bit_names group) own.place ≡ Some name → slice_get (net_names groups) n ≡ Some name
place_name groups n own group name ranges is at called = ap (slice_get (net_names groups)) (sym is.before) ∙ name_at groups own.group group own.place name ranges at called

-- the number of a net of the list is among the numbers
pub net_low : (bound : ℕ) (nets : List NetId) (i : ℕ) (net : NetId) → Each (λ n. n < bound) (numbers nets) → slice_get nets i ≡ Some net → net.0 < bound
net_low bound nets i net low at = low i net.0 (slice_get-map (λ (o : NetId). o.0) nets i ∙ ap (option_map (λ (o : NetId). o.0)) at)
