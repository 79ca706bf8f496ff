-- The name of each net bit, and the one net bit that a name has.
use Rattle.std.proofs.Common.{◌≡◌, ◌≢◌, ℕ, zero, suc, ◌+◌, ◌-◌, ◌<◌, ◌≤◌, ◌^◌, true, false, List, [], ◌∷◌, ◌++◌, map, length, reverse, slice_get, Option, Some, None, IfSome, IfNone, IsSome, refl, ap, sym, subst, ◌∙◌, arith, ◌⊎◌, inl, inr, nat_le, if◌then◌else◌, filter_map, true≢false, is_some, decimal, append_assoc}
use Rattle.std.proofs.lemmas.List.{get_or-reverse, length-reverse, length-map, append_cancel_right}
use Rattle.std.proofs.lemmas.Fmt.{decimal_is_IsNumeral}
use Rattle.std.specs.Str.Parse.{digits_value}
use Rattle.std.proofs.lemmas.Bool.{cases_lt}
use Rattle.std.proofs.lemmas.List.FromFn.{get_or-range_with_len, length-range_with_len}
use Rattle.std.proofs.lemmas.Option.{slice_get-get_or, slice_get-map, slice_get_within, same_Some, none-some}
use Rattle.std.proofs.lemmas.Bool.Decides.{nat_tests}
use Rattle.std.specs.List.{range_with_len, flat_map}
use Rattle.std.specs.Option.{option_map, option_map_or}
use Rattle.net_core.specs.declared.parts.NetId.{NetId}
use Rattle.net_core.specs.declared.parts.Group.{Group}
use Rattle.net_core.specs.declared.parts.Cell.{Cell}
use Rattle.net_core.specs.Netlist.{Netlist, parts_of, group_nets, net_count, IsIn}
use Rattle.net_core.specs.WellFormed.{IsFlat, identifiers, bit_names, net_names, range_indices, indexed_name}
use Rattle.net_core.specs.Lookup.{IsGroupNamed, IsNetNamed}
use Rattle.net_core.proofs.ListLemmas.{option_map_some, slice_get_left, slice_get_right, flat_map_some}
use Rattle.net_core.proofs.BitNameLemmas.{same_last, lacks_bracket}

-- Ranges

pub range_at : (a n i : ℕ) → i < n → slice_get (range_with_len a n) i ≡ Some (a + i)
range_at a n i within =
    slice_get-get_or (range_with_len a n) i 0 (omega (arith, length-range_with_len a n)) ∙ ap (λ v. Some v) (get_or-range_with_len a n i 0 within)

pub range_number : (a n i v : ℕ) → slice_get (range_with_len a n) i ≡ Some v → (v ≡ a + i) × (i < n)
range_number a n i v at =
    let within : i < n = omega (arith, slice_get_within (range_with_len a n) i v at, length-range_with_len a n) in
    (same_Some _ _ (sym at ∙ range_at a n i within), within)

reverse_at : (xs : List ℕ) (i : ℕ) → i < length xs → slice_get (reverse xs) i ≡ slice_get xs (length xs - 1 - i)
reverse_at xs i within =
    slice_get-get_or (reverse xs) i 0 (omega (arith, length-reverse xs)) ∙ ap (λ v. Some v) (get_or-reverse xs i 0 within)
    ∙ sym (slice_get-get_or xs (length xs - 1 - i) 0 (omega arith))

range_down : (left right : ℕ) → right ≤ left → range_indices left right ≡ reverse (range_with_len right (left - right + 1))
range_down left right low =
    let test : nat_le right left ≡ true = grind (arith, nat_tests) in
    ap (λ b. if b then reverse (range_with_len right (left - right + 1)) else range_with_len left (right - left + 1)) test

range_up : (left right : ℕ) → left < right → range_indices left right ≡ range_with_len left (right - left + 1)
range_up left right low =
    let test : nat_le right left ≡ false = grind (arith, nat_tests) in
    ap (λ b. if b then reverse (range_with_len right (left - right + 1)) else range_with_len left (right - left + 1)) test

-- where an index of a range stands
pub index_from_left : (left right index : ℕ) → right ≤ index → index ≤ left → slice_get (range_indices left right) (left - index) ≡ Some index
index_from_left left right index low high =
    let n = left - right + 1 in
    let size : length (range_with_len right n) ≡ n = length-range_with_len right n in
    let place : length (range_with_len right n) - 1 - (left - index) ≡ index - right = omega (arith, size) in
    let number : right + (index - right) ≡ index = omega arith in
    ap (λ xs. slice_get xs (left - index)) (range_down left right (omega arith))
    ∙ reverse_at (range_with_len right n) (left - index) (omega (arith, size))
    ∙ ap (slice_get (range_with_len right n)) place
    ∙ range_at right n (index - right) (omega arith)
    ∙ ap (λ v. Some v) number

pub index_from_right : (left right index : ℕ) → left ≤ index → index ≤ right → slice_get (range_indices left right) (index - left) ≡ Some index
index_from_right left right index low high =
    elim (cases_lt left right) [
      | inl up ↦ (let number : left + (index - left) ≡ index = omega arith in
          ap (λ xs. slice_get xs (index - left)) (range_up left right up) ∙ range_at left (right - left + 1) (index - left) (omega arith) ∙ ap (λ v. Some v) number)
      | inr down ↦ (let place : index - left ≡ left - index = omega arith in
          ap (slice_get (range_indices left right)) place ∙ index_from_left left right index (omega arith) (omega arith))
    ]

pub index_within : (left right i index : ℕ) → slice_get (range_indices left right) i ≡ Some index → ((right ≤ index) × (index ≤ left)) ⊎ ((left ≤ index) × (index ≤ right))
index_within left right i index at =
    elim (cases_lt left right) [
      | inl up ↦ (let n = right - left + 1 in
          let own = range_number left n i index (sym (ap (λ xs. slice_get xs i) (range_up left right up)) ∙ at) in
          inr (omega (arith, own.0), omega (arith, own.0, own.1)))
      | inr down ↦ (let n = left - right + 1 in
          let size : length (range_with_len right n) ≡ n = length-range_with_len right n in
          let turned : slice_get (reverse (range_with_len right n)) i ≡ Some index = sym (ap (λ xs. slice_get xs i) (range_down left right down)) ∙ at in
          let within : i < length (range_with_len right n) = omega (arith, slice_get_within (reverse (range_with_len right n)) i index turned, length-reverse (range_with_len right n)) in
          let own = range_number right n (length (range_with_len right n) - 1 - i) index (sym (reverse_at (range_with_len right n) i within) ∙ turned) in
          inl (omega (arith, own.0), omega (arith, own.0, own.1)))
    ]

pub index_outside : (left right index : ℕ) → ((right ≤ index) × (left < index)) ⊎ (index < right) → ((left ≤ index) × (right < index)) ⊎ (index < left) → ¬ IsIn (range_indices left right) index
index_outside left right index down up (i, at) =
    elim (index_within left right i index at) [
      | inl own ↦ elim down [ inl high ↦ omega (arith, own.1, high.1) | inr low ↦ omega (arith, own.0, low) ]
      | inr own ↦ elim up [ inl high ↦ omega (arith, own.1, high.1) | inr low ↦ omega (arith, own.0, low) ]
    ]

-- Names

-- two lists made of the same pieces, where the pieces have the same lengths, have their elements at the same places
joined_at : {X A B : Type 0} (f : X → List A) (g : X → List B) (xs : List X) → ((j : ℕ) (x : X) → slice_get xs j ≡ Some x → length (f x) ≡ length (g x))
    → (j i : ℕ) (x : X) (a : A) (b : B) → slice_get xs j ≡ Some x → slice_get (f x) i ≡ Some a → slice_get (g x) i ≡ Some b
    → (n : ℕ) × (slice_get (flat_map f xs) n ≡ Some a) × (slice_get (flat_map g xs) n ≡ Some b)
joined_at f g [] same j i x a b at left right = absurd (cc at)
joined_at {X} f g (z ∷ zs) same zero i x a b at left right =
    let is : x ≡ z = cc at in
    (i, slice_get_left (f z) (flat_map f zs) i a (sym (ap (λ (o : X). slice_get (f o) i) is) ∙ left), slice_get_left (g z) (flat_map g zs) i b (sym (ap (λ (o : X). slice_get (g o) i) is) ∙ right))
joined_at f g (z ∷ zs) same (suc j) i x a b at left right =
    let rest = joined_at f g zs (λ k. same (suc k)) j i x a b at left right in (
      length (f z) + rest.0,
      slice_get_right (f z) (flat_map f zs) (length (f z) + rest.0) rest.0 a refl rest.1,
      slice_get_right (g z) (flat_map g zs) (length (f z) + rest.0) rest.0 b (ap (λ k. k + rest.0) (same 0 z refl)) rest.2,
    )

only_name : (own : List ℕ) (i : ℕ) (name : List ℕ) → slice_get (own ∷ []) i ≡ Some name → own ≡ name
only_name own zero name at = same_Some _ _ at
only_name own (suc i) name at = absurd (cc at)

at_some : {A : Type 0} (P : A → Type 0) (o : Option A) (x : A) → IfSome o P → o ≡ Some x → P x
at_some P o x holds is = rw is at holds

pub none_then : {A : Type 0} (o : Option A) (P Q : Type 0) → (P → Q) → IfNone o P → IfNone o Q
none_then None P Q follows holds = follows holds
none_then (Some x) P Q follows holds = tt

-- what holds where an answer is none
pub at_none : {A : Type 0} (o : Option A) (P : Type 0) → is_some o ≡ false → IfNone o P → P
at_none None P e holds = holds
at_none (Some x) P e holds = absurd (true≢false e)

-- an index between two that are within the limit is within 32 bits
index_small : (left right i index : ℕ) → slice_get (range_indices left right) i ≡ Some index → left ≤ 1048575 → right ≤ 1048575 → index < 2 ^ 32
index_small left right i index at low high =
    elim (index_within left right i index at) [ inl own ↦ omega (arith, own.1) | inr own ↦ omega (arith, own.1) ]

-- two names of the form `front[index]` are equal only where their parts are
same_form : (a b : List ℕ) (i j : ℕ) → i < 2 ^ 32 → j < 2 ^ 32 → indexed_name a i ≡ indexed_name b j → (a ≡ b) × (i ≡ j)
same_form a b i j small small' is =
    let opened : (a ++ 91 ∷ []) ++ decimal i ≡ (b ++ 91 ∷ []) ++ decimal j = append_cancel_right ((a ++ 91 ∷ []) ++ decimal i) ((b ++ 91 ∷ []) ++ decimal j) (93 ∷ []) is in
    let parts = same_last 91 a (decimal i) b (decimal j) (lacks_bracket i small) (lacks_bracket j small')
    (sym (append_assoc a (91 ∷ []) (decimal i)) ∙ opened ∙ append_assoc b (91 ∷ []) (decimal j)) in
    (parts.0, sym (decimal_is_IsNumeral i (omega arith)).1 ∙ ap (digits_value 10) parts.1 ∙ (decimal_is_IsNumeral j (omega arith)).1)

module _ (net : Netlist) (flat : IsFlat net) where
  -- the net number of a bit is the place of its name
  pub named_at : (j i : ℕ) (group : Group) (bit : NetId) (name : List ℕ) → slice_get net.groups j ≡ Some group → slice_get group.bits i ≡ Some bit
      → slice_get (bit_names group) i ≡ Some name → IsNetNamed net name bit.0
  named_at j i group bit name at own named =
      let both = joined_at group_nets bit_names net.groups (λ k g there. length-map g.bits (λ (b : NetId). b.0) ∙ (flat.formed.ranges k g there).width) j i group bit.0 name at
      (slice_get-map (λ (b : NetId). b.0) group.bits i ∙ ap (option_map (λ (b : NetId). b.0)) own) named in
      let number = range_number 0 (net_count net.groups) both.0 bit.0 (sym (ap (λ nets. slice_get nets both.0) flat.formed.numbering) ∙ both.1) in
      let place : bit.0 ≡ both.0 = number.0 ∙ (let e : 0 + both.0 ≡ both.0 = omega arith in e) in
      ap (slice_get (net_names net.groups)) place ∙ both.2

  -- a name has one group
  pub same_group : (name : List ℕ) (a b : Group) → IsGroupNamed net name a → IsGroupNamed net name b → a ≡ b
  same_group name a b is other =
      let place : is.number ≡ other.number = flat.formed.identifiers_differ is.number other.number name (listed a is) (listed b other) in
      same_Some _ _ (sym is.at ∙ ap (slice_get net.groups) place ∙ other.at)
    where
      listed : (group : Group) → (named : IsGroupNamed net name group) → slice_get (identifiers (parts_of net)) named.number ≡ Some name
      listed group named =
          slice_get_left (map (λ (g : Group). g.name) net.groups) (filter_map (λ (cell : Cell). cell.name) net.cells) named.number name
          (slice_get-map (λ (g : Group). g.name) net.groups named.number ∙ ap (option_map (λ (g : Group). g.name)) named.at ∙ ap (λ n. Some n) named.named)

  -- a scalar has its group's name
  pub scalar_found : (name : List ℕ) (group : Group) (r : Option NetId) → IsGroupNamed net name group → group.range ≡ None → r ≡ slice_get group.bits 0 → IfSome r (λ bit. IsNetNamed net name bit.0)
  scalar_found name group None named scalar is = tt
  scalar_found name group (Some bit) named scalar is =
      named_at named.number 0 group bit name named.at (sym is)
      (ap (λ range. slice_get (option_map_or (λ (ends : ℕ × ℕ). map (indexed_name group.name) (range_indices ends.0 ends.1)) range (group.name ∷ [])) 0) scalar ∙ ap (λ n. Some n) named.named)

  -- and one bit
  pub scalar_there : (name : List ℕ) (group : Group) (r : Option NetId) (P : Type 0) → IsGroupNamed net name group → group.range ≡ None → r ≡ slice_get group.bits 0 → IfNone r P
  scalar_there name group None P named scalar is =
      let width : length group.bits ≡ 1 = (flat.formed.ranges named.number group named.at).width
      ∙ ap (λ range. length (option_map_or (λ (ends : ℕ × ℕ). map (indexed_name group.name) (range_indices ends.0 ends.1)) range (group.name ∷ []))) scalar in
      absurd (none-some _ (is ∙ slice_get-get_or group.bits 0 (record { 0 = 0 }) (omega (arith, width))))
  scalar_there name group (Some bit) P named scalar is = tt

  -- a vector's bit has its group's name with the index
  pub vector_found : (front : List ℕ) (group : Group) (left right place index : ℕ) (r : Option NetId) → IsGroupNamed net front group → group.range ≡ Some (left, right)
      → slice_get (range_indices left right) place ≡ Some index → r ≡ slice_get group.bits place → IfSome r (λ bit. IsNetNamed net (indexed_name front index) bit.0)
  vector_found front group left right place index None named range at is = tt
  vector_found front group left right place index (Some bit) named range at is =
      named_at named.number place group bit (indexed_name front index) named.at (sym is)
      (ap (λ (ends : Option (ℕ × ℕ)). slice_get (option_map_or (λ (ends : ℕ × ℕ). map (indexed_name group.name) (range_indices ends.0 ends.1)) ends (group.name ∷ [])) place) range
      ∙ slice_get-map (indexed_name group.name) (range_indices left right) place ∙ ap (option_map (indexed_name group.name)) at ∙ ap (λ n. Some (indexed_name n index)) named.named)

  pub vector_there : (front : List ℕ) (group : Group) (left right place index : ℕ) (r : Option NetId) (P : Type 0) → IsGroupNamed net front group → group.range ≡ Some (left, right)
      → slice_get (range_indices left right) place ≡ Some index → r ≡ slice_get group.bits place → IfNone r P
  vector_there front group left right place index None P named range at is =
      let width : length group.bits ≡ length (range_indices left right) = (flat.formed.ranges named.number group named.at).width
      ∙ ap (λ (ends : Option (ℕ × ℕ)). length (option_map_or (λ (ends : ℕ × ℕ). map (indexed_name group.name) (range_indices ends.0 ends.1)) ends (group.name ∷ []))) range
      ∙ length-map (range_indices left right) (indexed_name group.name) in
      absurd (none-some _ (is ∙ slice_get-get_or group.bits place (record { 0 = 0 }) (omega (arith, width, slice_get_within (range_indices left right) place index at))))
  vector_there front group left right place index (Some bit) P named range at is = tt

  -- the bit with a name is a scalar's, or a vector's with an index that 32 bits hold
  pub bit_cases : (name : List ℕ) (number : ℕ) → IsNetNamed net name number
      → ((group : Group) × IsGroupNamed net name group × (group.range ≡ None))
      ⊎ ((group : Group) × (range : ℕ × ℕ) × (index : ℕ) × IsGroupNamed net group.name group × (group.range ≡ Some range) × IsIn (range_indices range.0 range.1) index × (index < 2 ^ 32) × (name ≡ indexed_name group.name index))
  bit_cases name number is =
      let own = flat_map_some bit_names net.groups number name is in
      by own.0 own.1 own.1.range own.2 own.3 own.4 refl
    where
      by : (j : ℕ) (group : Group) (range : Option (ℕ × ℕ)) (i : ℕ) → slice_get net.groups j ≡ Some group → slice_get (bit_names group) i ≡ Some name → group.range ≡ range
          → ((group : Group) × IsGroupNamed net name group × (group.range ≡ None))
          ⊎ ((group : Group) × (range : ℕ × ℕ) × (index : ℕ) × IsGroupNamed net group.name group × (group.range ≡ Some range) × IsIn (range_indices range.0 range.1) index × (index < 2 ^ 32) × (name ≡ indexed_name group.name index))
      by j group None i at named range =
          let only : slice_get (group.name ∷ []) i ≡ Some name =
          sym (ap (λ (ends : Option (ℕ × ℕ)). slice_get (option_map_or (λ (ends : ℕ × ℕ). map (indexed_name group.name) (range_indices ends.0 ends.1)) ends (group.name ∷ [])) i) range) ∙ named in
          inl (group, record { number = j; at = at; named = only_name group.name i name only }, range)
      by j group (Some ends) i at named range =
          let listed : slice_get (map (indexed_name group.name) (range_indices ends.0 ends.1)) i ≡ Some name =
          sym (ap (λ (ends : Option (ℕ × ℕ)). slice_get (option_map_or (λ (ends : ℕ × ℕ). map (indexed_name group.name) (range_indices ends.0 ends.1)) ends (group.name ∷ [])) i) range) ∙ named in
          let own = option_map_some (indexed_name group.name) (slice_get (range_indices ends.0 ends.1) i) name (sym (slice_get-map (indexed_name group.name) (range_indices ends.0 ends.1) i) ∙ listed) in
          let limits = at_some (λ (r : ℕ × ℕ). (r.0 ≤ 1048575) × (r.1 ≤ 1048575)) group.range ends (flat.formed.ranges j group at).indices range in
          inr (group, ends, own.0, record { number = j; at = at; named = refl }, range, (i, own.1), index_small ends.0 ends.1 i own.0 own.1 limits.0 limits.1, sym own.2)

  pub no_net_whole : (name : List ℕ) (number : ℕ) → ((group : Group) → IsGroupNamed net name group → IsSome group.range)
      → ((front : List ℕ) (index : ℕ) → index < 2 ^ 32 → name ≢ indexed_name front index) → ¬ IsNetNamed net name number
  no_net_whole name number vectors whole is =
      elim (bit_cases name number is) [
        | inl own ↦ true≢false (sym (vectors own.0 own.1) ∙ ap is_some own.2)
        | inr own ↦ whole own.0.name own.2 own.6 own.7
      ]

  pub no_net_bit : (name front : List ℕ) (index number : ℕ) → index < 2 ^ 32 → ((group : Group) → IsGroupNamed net name group → IsSome group.range)
      → name ≡ indexed_name front index → ((group : Group) (range : ℕ × ℕ) → IsGroupNamed net front group → group.range ≡ Some range → ¬ IsIn (range_indices range.0 range.1) index)
      → ¬ IsNetNamed net name number
  no_net_bit name front index number small vectors split missing is =
      elim (bit_cases name number is) [
        | inl own ↦ true≢false (sym (vectors own.0 own.1) ∙ ap is_some own.2)
        | inr own ↦ (
            let same = same_form front own.0.name index own.2 small own.6 (sym split ∙ own.7) in
            missing own.0 own.1 (record { number = own.3.number; at = own.3.at; named = sym same.0 }) own.4 (subst (IsIn (range_indices own.1.0 own.1.1)) (sym same.1) own.5))
      ]
