-- The names of net bits by their numbers.
use Rattle.std.proofs.Common.{◌≡◌, ℕ, zero, suc, ◌+◌, ◌-◌, true, false, List, [], ◌∷◌, map, reverse, length, take, slice_get, Option, Some, None, nat_le, if◌then◌else◌, refl, ap, ◌∙◌, arith, inl, inr}
use Rattle.std.specs.List.{range_with_len}
use Rattle.std.specs.Option.{option_map, option_map_or}
use Rattle.std.proofs.lemmas.Bool.{cases_lt}
use Rattle.std.proofs.lemmas.Bool.Decides.{nat_tests}
use Rattle.std.proofs.lemmas.List.{length-map, length-reverse}
use Rattle.std.proofs.lemmas.List.FromFn.{length-range_with_len}
use Rattle.std.proofs.lemmas.List.Sums.{sum_by-cons}
use Rattle.std.proofs.lemmas.Option.{slice_get-map, same_Some}
use Rattle.net_core.specs.declared.parts.Group.{Group}
use Rattle.net_core.specs.Netlist.{net_count}
use Rattle.net_core.specs.WellFormed.{Each, HasRange, bit_names, net_names, range_indices, indexed_name}
use Rattle.net_core.proofs.ListLemmas.{slice_get_left, slice_get_right}

-- how many indices a range has
pub range_width : (left right : ℕ) → length (range_indices left right) ≡ (left - right) + (right - left) + 1
range_width left right = elim (cases_lt left right) [
  | inl up ↦ (
      let test : nat_le right left ≡ false = grind (arith, nat_tests) in
      ap (λ b. length (if b then reverse (range_with_len right (left - right + 1)) else range_with_len left (right - left + 1))) test
      ∙ (let e = length-range_with_len left (right - left + 1) in omega (arith, e, up)))
  | inr down ↦ (
      let test : nat_le right left ≡ true = grind (arith, nat_tests) in
      ap (λ b. length (if b then reverse (range_with_len right (left - right + 1)) else range_with_len left (right - left + 1))) test
      ∙ (let e = length-range_with_len right (left - right + 1) in let f = length-reverse (range_with_len right (left - right + 1)) in omega (arith, e, f, down)))
]

-- the names of a vector's bits
pub vector_names : (group : Group) (left right : ℕ) → group.range ≡ Some (left, right) → bit_names group ≡ map (indexed_name group.name) (range_indices left right)
vector_names group left right range = ap (λ (ends : Option (ℕ × ℕ)). option_map_or (λ (ends : ℕ × ℕ). map (indexed_name group.name) (range_indices ends.0 ends.1)) ends (group.name ∷ [])) range

pub scalar_names : (group : Group) → group.range ≡ None → bit_names group ≡ group.name ∷ []
scalar_names group range = ap (λ (ends : Option (ℕ × ℕ)). option_map_or (λ (ends : ℕ × ℕ). map (indexed_name group.name) (range_indices ends.0 ends.1)) ends (group.name ∷ [])) range

pub vector_width : (group : Group) (left right : ℕ) → HasRange group → group.range ≡ Some (left, right) → length group.bits ≡ (left - right) + (right - left) + 1
vector_width group left right own range = own.width ∙ ap length (vector_names group left right range) ∙ length-map (range_indices left right) (indexed_name group.name) ∙ range_width left right

pub vector_name : (group : Group) (left right place index : ℕ) → group.range ≡ Some (left, right) → slice_get (range_indices left right) place ≡ Some index → slice_get (bit_names group) place ≡ Some (indexed_name group.name index)
vector_name group left right place index range at =
    ap (λ names. slice_get names place) (vector_names group left right range) ∙ slice_get-map (indexed_name group.name) (range_indices left right) place ∙ ap (option_map (indexed_name group.name)) at

-- the names of a group's bits stand behind those of the groups before it
pub name_at : (groups : List Group) (i : ℕ) (group : Group) (place : ℕ) (name : List ℕ) → Each HasRange groups → slice_get groups i ≡ Some group → slice_get (bit_names group) place ≡ Some name
    → slice_get (net_names groups) (net_count (take i groups) + place) ≡ Some name
name_at [] i group place name ranges at own = absurd (cc at)
name_at (first ∷ groups) zero group place name ranges at own =
    let e : 0 + place ≡ place = omega arith in
    ap (slice_get (net_names (first ∷ groups))) e ∙ slice_get_left (bit_names first) (net_names groups) place name (ap (λ (g : Group). slice_get (bit_names g) place) (same_Some first group at) ∙ own)
name_at (first ∷ groups) (suc i) group place name ranges at own =
    slice_get_right (bit_names first) (net_names groups) (net_count (take (suc i) (first ∷ groups)) + place) (net_count (take i groups) + place) name
    (let e = sum_by-cons (λ (g : Group). length g.bits) first (take i groups) in omega (arith, e, (ranges 0 first refl).width)) (name_at groups i group place name (λ k. ranges (suc k)) at own)

-- one group more has its bits more
pub count_more : (groups : List Group) (i : ℕ) (group : Group) → slice_get groups i ≡ Some group → net_count (take (i + 1) groups) ≡ net_count (take i groups) + length group.bits
count_more [] i group at = absurd (cc at)
count_more (first ∷ groups) zero group at =
    let e = sum_by-cons (λ (g : Group). length g.bits) first [] in let f : length first.bits ≡ length group.bits = ap (λ (g : Group). length g.bits) (same_Some first group at) in omega (arith, e, f)
count_more (first ∷ groups) (suc i) group at =
    let next : suc i + 1 ≡ suc (i + 1) = omega arith in
    ap (λ k. net_count (take k (first ∷ groups))) next
    ∙ (let e = sum_by-cons (λ (g : Group). length g.bits) first (take (i + 1) groups) in let f = sum_by-cons (λ (g : Group). length g.bits) first (take i groups) in omega (arith, e, f, count_more groups i group at))
