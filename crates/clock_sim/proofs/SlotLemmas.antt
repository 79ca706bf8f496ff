-- The slots are the data outputs, each once.
use Rattle.std.proofs.Common.{◌≡◌, ℕ, zero, suc, ◌+◌, ◌≤◌, Bool, true, false, List, [], ◌∷◌, length, sum_by, slice_get, slice_index, Option, Some, None, refl, ap, sym, ◌∙◌, subst, arith, inl, inr, ◌⊎◌, if◌then◌else◌, ◌==◌, Contains}
use Rattle.std.specs.List.Sorted.{IsPermutation, IsNonDecreasingBy}
use Rattle.std.proofs.lemmas.Bool.Decides.{Decides-eqb}
use Rattle.std.proofs.lemmas.List.Sums.{sum_by-cons, sum_by-append}
use Rattle.std.proofs.lemmas.List.Sorted.{IsPermutation-sym, Contains-permutation, sum_by-IsPermutation}
use Rattle.std.proofs.lemmas.Option.{same_Some, slice_get_within, slice_get-get_or, get_or_from_slice_get}
use Rattle.net_core.specs.declared.parts.NetId.{NetId}
use Rattle.net_core.specs.declared.parts.Cell.{Cell}
use Rattle.net_core.specs.Netlist.{Netlist, is_clock}
use Rattle.net_core.specs.WellFormed.{IsFlat}
use Rattle.net_core.proofs.ListLemmas.{slice_get_append, slice_get_left, slice_get_right}
use Rattle.clock_sim.specs.declared.plan.Slot.{Slot}
use Rattle.clock_sim.specs.Plan.{cell_slots, all_slots, AreSlots}

-- how many slots are on a net

abbrev hit : ℕ → Slot → ℕ
hit n slot = if slot.net == n then 1 else 0

abbrev hits : ℕ → List Slot → ℕ
hits n slots = sum_by (hit n) slots

hit_one : (n : ℕ) (slot : Slot) → slot.net ≡ n → hit n slot ≡ 1
hit_one n slot is = let one : Bool → ℕ = λ (b : Bool). if b then 1 else 0 in ap one ((Decides-eqb slot.net n).1 is)

hit_or_not : (n : ℕ) (slot : Slot) → (slot.net ≡ n) ⊎ (hit n slot ≡ 0)
hit_or_not n slot = by (slot.net == n) refl
  where
    by : (b : Bool) → (slot.net == n) ≡ b → (slot.net ≡ n) ⊎ (hit n slot ≡ 0)
    by true t = inl ((Decides-eqb slot.net n).0 t)
    by false t = inr (let one : Bool → ℕ = λ (b : Bool). if b then 1 else 0 in ap one t)

hits_some : (n : ℕ) (slots : List Slot) (i : ℕ) (slot : Slot) → slice_get slots i ≡ Some slot → slot.net ≡ n → 1 ≤ hits n slots
hits_some n [] i slot at is = absurd (cc at)
hits_some n (first ∷ slots) zero slot at is =
    omega (arith, hit_one n first (ap (λ (s : Slot). s.net) (same_Some first slot at) ∙ is), sum_by-cons (hit n) first slots)
hits_some n (first ∷ slots) (suc i) slot at is =
    omega (arith, hits_some n slots i slot at is, sum_by-cons (hit n) first slots)

-- slots of which each net has one at most are apart
apart_from_hits : (slots : List Slot) → ((n : ℕ) → hits n slots ≤ 1) → (j i : ℕ) (a b : Slot) → slice_get slots j ≡ Some a → slice_get slots i ≡ Some b → a.net ≡ b.net → j ≡ i
apart_from_hits [] once j i a b at there same = absurd (cc at)
apart_from_hits (first ∷ slots) once zero zero a b at there same = refl
apart_from_hits (first ∷ slots) once zero (suc i) a b at there same =
    absurd (omega (arith, once b.net, sum_by-cons (hit b.net) first slots, hit_one b.net first (ap (λ (s : Slot). s.net) (same_Some first a at) ∙ same), hits_some b.net slots i b there refl))
apart_from_hits (first ∷ slots) once (suc j) zero a b at there same =
    absurd (omega (arith, once a.net, sum_by-cons (hit a.net) first slots, hit_one a.net first (ap (λ (s : Slot). s.net) (same_Some first b there) ∙ sym same), hits_some a.net slots j a at refl))
apart_from_hits (first ∷ slots) once (suc j) (suc i) a b at there same =
    ap (λ (k : ℕ). suc k) (apart_from_hits slots (λ n. omega (arith, once n, sum_by-cons (hit n) first slots)) j i a b at there same)

module _ (net : Netlist) (numbers : List ℕ) where
  -- The slots of a cell

  cell_sound : (c k : ℕ) (outs : List (Option NetId)) (j : ℕ) (slot : Slot) → slice_get (cell_slots net numbers c k outs) j ≡ Some slot
      → (i : ℕ) × (slot.cell ≡ c) × (slot.out ≡ k + i) × (slice_get outs i ≡ Some (Some (record { 0 = slot.net }))) × (is_clock net slot.net ≡ false) × (slot.level ≡ slice_index numbers slot.net)
  cell_sound c k [] j slot at = absurd (cc at)
  cell_sound c k (None ∷ outs) j slot at =
      let rest = cell_sound c (k + 1) outs j slot at in
      (suc rest.0, rest.1, omega (arith, rest.2), rest.3, rest.4, rest.5)
  cell_sound c k (Some own ∷ outs) j slot at = by (λ j at. cell_sound c (k + 1) outs j slot at) (is_clock net own.0) refl j at
    where
      by : ((j : ℕ) → slice_get (cell_slots net numbers c (k + 1) outs) j ≡ Some slot
          → (i : ℕ) × (slot.cell ≡ c) × (slot.out ≡ k + 1 + i) × (slice_get outs i ≡ Some (Some (record { 0 = slot.net }))) × (is_clock net slot.net ≡ false) × (slot.level ≡ slice_index numbers slot.net))
          → (b : Bool) → is_clock net own.0 ≡ b → (j : ℕ)
          → slice_get (if b then cell_slots net numbers c (k + 1) outs else record { level = slice_index numbers own.0; cell = c; out = k; net = own.0 } ∷ cell_slots net numbers c (k + 1) outs) j ≡ Some slot
          → (i : ℕ) × (slot.cell ≡ c) × (slot.out ≡ k + i) × (slice_get (Some own ∷ outs) i ≡ Some (Some (record { 0 = slot.net }))) × (is_clock net slot.net ≡ false) × (slot.level ≡ slice_index numbers slot.net)
      by later true clock j at = let rest = later j at in (suc rest.0, rest.1, omega (arith, rest.2), rest.3, rest.4, rest.5)
      by later false clock (suc j) at = let rest = later j at in (suc rest.0, rest.1, omega (arith, rest.2), rest.3, rest.4, rest.5)
      by later false clock zero at =
          let is = same_Some _ slot at in (
            0,
            sym (ap (λ (s : Slot). s.cell) is),
            (let e : k ≡ slot.out = ap (λ (s : Slot). s.out) is in omega (arith, e)),
            ap (λ (s : Slot). Some (Some (record { 0 = s.net }))) is,
            sym (ap (λ (s : Slot). is_clock net s.net) is) ∙ clock,
            sym (ap (λ (s : Slot). s.level) is) ∙ ap (λ (s : Slot). slice_index numbers s.net) is,
          )

  cell_complete : (c k : ℕ) (outs : List (Option NetId)) (i n : ℕ) → slice_get outs i ≡ Some (Some (record { 0 = n })) → is_clock net n ≡ false
      → (j : ℕ) × (slice_get (cell_slots net numbers c k outs) j ≡ Some (record { level = slice_index numbers n; cell = c; out = k + i; net = n }))
  cell_complete c k [] i n at data_net = absurd (cc at)
  cell_complete c k (None ∷ outs) zero n at data_net = absurd (cc at)
  cell_complete c k (None ∷ outs) (suc i) n at data_net =
      let rest = cell_complete c (k + 1) outs i n at data_net in
      let place : k + 1 + i ≡ k + suc i = omega arith in
      (rest.0, rest.1 ∙ ap (λ (o : ℕ). Some (record { level = slice_index numbers n; cell = c; out = o; net = n })) place)
  cell_complete c k (Some own ∷ outs) zero n at data_net =
      let is : own ≡ record { 0 = n } = same_Some _ _ (same_Some _ _ at) in
      let test : is_clock net own.0 ≡ false = ap (λ (o : NetId). is_clock net o.0) is ∙ data_net in
      let place : k ≡ k + 0 = omega arith in (
        0,
        ap (λ (b : Bool). slice_get (if b then cell_slots net numbers c (k + 1) outs else record { level = slice_index numbers own.0; cell = c; out = k; net = own.0 } ∷ cell_slots net numbers c (k + 1) outs) 0) test
            ∙ ap (λ (o : NetId). Some (record { level = slice_index numbers o.0; cell = c; out = k; net = o.0 })) is
            ∙ ap (λ (o : ℕ). Some (record { level = slice_index numbers n; cell = c; out = o; net = n })) place,
      )
  cell_complete c k (Some own ∷ outs) (suc i) n at data_net =
      let rest = cell_complete c (k + 1) outs i n at data_net in
      let place : k + 1 + i ≡ k + suc i = omega arith in
      by (rest.0, rest.1 ∙ ap (λ (o : ℕ). Some (record { level = slice_index numbers n; cell = c; out = o; net = n })) place) (is_clock net own.0)
    where
      by : (j : ℕ) × (slice_get (cell_slots net numbers c (k + 1) outs) j ≡ Some (record { level = slice_index numbers n; cell = c; out = k + suc i; net = n })) → (b : Bool)
          → (j : ℕ) × (slice_get (if b then cell_slots net numbers c (k + 1) outs else record { level = slice_index numbers own.0; cell = c; out = k; net = own.0 } ∷ cell_slots net numbers c (k + 1) outs) j ≡ Some (record { level = slice_index numbers n; cell = c; out = k + suc i; net = n }))
      by rest true = rest
      by rest false = (suc rest.0, rest.1)

  -- a net of no slot has no hits, else a slot is on it
  any_slot : (n : ℕ) (slots : List Slot) → ((i : ℕ) × (slot : Slot) × (slice_get slots i ≡ Some slot) × (slot.net ≡ n)) ⊎ (hits n slots ≡ 0)
  any_slot n [] = inr refl
  any_slot n (slot ∷ slots) = elim (hit_or_not n slot) [
    | inl is ↦ inl (0, slot, refl, is)
    | inr not_it ↦ (elim (any_slot n slots) [ inl own ↦ inl (suc own.0, own.1, own.2, own.3) | inr none ↦ inr (omega (arith, not_it, none, sum_by-cons (hit n) slot slots)) ])
  ]

  -- The slots of all cells

  all_sound : (c : ℕ) (cells : List Cell) (j : ℕ) (slot : Slot) → slice_get (all_slots net numbers c cells) j ≡ Some slot
      → (d : ℕ) × (cell : Cell) × (slot.cell ≡ c + d) × (slice_get cells d ≡ Some cell) × (slice_get cell.outs slot.out ≡ Some (Some (record { 0 = slot.net }))) × (is_clock net slot.net ≡ false) × (slot.level ≡ slice_index numbers slot.net)
  all_sound c [] j slot at = absurd (cc at)
  all_sound c (cell ∷ cells) j slot at = elim (slice_get_append (cell_slots net numbers c 0 cell.outs) (all_slots net numbers (c + 1) cells) j slot at) [
    | inl here ↦ (
        let own = cell_sound c 0 cell.outs j slot here in
        let place : slot.out ≡ own.0 = omega (arith, own.2) in
        (0, cell, omega (arith, own.1), refl, ap (slice_get cell.outs) place ∙ own.3, own.4, own.5))
    | inr later ↦ (
        let rest = all_sound (c + 1) cells later.0 slot later.2 in
        (suc rest.0, rest.1, omega (arith, rest.2), rest.3, rest.4, rest.5, rest.6))
  ]

  all_complete : (c : ℕ) (cells : List Cell) (d : ℕ) (cell : Cell) (k n : ℕ) → slice_get cells d ≡ Some cell → slice_get cell.outs k ≡ Some (Some (record { 0 = n })) → is_clock net n ≡ false
      → (j : ℕ) × (slot : Slot) × (slice_get (all_slots net numbers c cells) j ≡ Some slot) × (slot.cell ≡ c + d) × (slot.out ≡ k) × (slot.net ≡ n)
  all_complete c [] d cell k n at on data_net = absurd (cc at)
  all_complete c (first ∷ cells) zero cell k n at on data_net =
      let is : first ≡ cell = same_Some _ _ at in
      let own = cell_complete c 0 first.outs k n (ap (λ (o : Cell). slice_get o.outs k) is ∙ on) data_net in
      (own.0, record { level = slice_index numbers n; cell = c; out = 0 + k; net = n }, slice_get_left (cell_slots net numbers c 0 first.outs) (all_slots net numbers (c + 1) cells) own.0 _ own.1, omega arith, omega arith, refl)
  all_complete c (first ∷ cells) (suc d) cell k n at on data_net =
      let rest = all_complete (c + 1) cells d cell k n at on data_net in (
        length (cell_slots net numbers c 0 first.outs) + rest.0,
        rest.1,
        slice_get_right (cell_slots net numbers c 0 first.outs) (all_slots net numbers (c + 1) cells) _ rest.0 rest.1 refl rest.2,
        omega (arith, rest.3),
        rest.4,
        rest.5,
      )

  cell_once : (c k : ℕ) (outs : List (Option NetId)) (n : ℕ) → ((i j : ℕ) → slice_get outs i ≡ Some (Some (record { 0 = n })) → slice_get outs j ≡ Some (Some (record { 0 = n })) → i ≡ j) → hits n (cell_slots net numbers c k outs) ≤ 1
  cell_once c k [] n once = omega arith
  cell_once c k (None ∷ outs) n once = cell_once c (k + 1) outs n (λ i j at there. (let e : suc i ≡ suc j = once (suc i) (suc j) at there in omega arith))
  cell_once c k (Some own ∷ outs) n once =
      by (cell_once c (k + 1) outs n (λ i j at there. (let e : suc i ≡ suc j = once (suc i) (suc j) at there in omega arith))) (is_clock net own.0)
    where
      slot : Slot
      slot = record { level = slice_index numbers own.0; cell = c; out = k; net = own.0 }

      by : hits n (cell_slots net numbers c (k + 1) outs) ≤ 1 → (b : Bool)
          → hits n (if b then cell_slots net numbers c (k + 1) outs else record { level = slice_index numbers own.0; cell = c; out = k; net = own.0 } ∷ cell_slots net numbers c (k + 1) outs) ≤ 1
      by rest true = rest
      by rest false = elim (any_slot n (cell_slots net numbers c (k + 1) outs)) [
        | inl other ↦ (elim (hit_or_not n (record { level = slice_index numbers own.0; cell = c; out = k; net = own.0 })) [
          | inl is ↦ absurd (
              let there = cell_sound c (k + 1) outs other.0 other.1 other.2 in
              let e : 0 ≡ suc there.0 = once 0 (suc there.0) (ap (λ (m : ℕ). Some (Some (record { 0 = m }))) is) (there.3 ∙ ap (λ (m : ℕ). Some (Some (record { 0 = m }))) other.3) in omega arith)
          | inr none ↦ omega (arith, rest, none, sum_by-cons (hit n) (record { level = slice_index numbers own.0; cell = c; out = k; net = own.0 }) (cell_slots net numbers c (k + 1) outs))
        ])
        | inr none ↦ (elim (hit_or_not n (record { level = slice_index numbers own.0; cell = c; out = k; net = own.0 })) [
          | inl is ↦ omega (arith, none, hit_one n (record { level = slice_index numbers own.0; cell = c; out = k; net = own.0 }) is, sum_by-cons (hit n) (record { level = slice_index numbers own.0; cell = c; out = k; net = own.0 }) (cell_slots net numbers c (k + 1) outs))
          | inr no_hit ↦ omega (arith, none, no_hit, sum_by-cons (hit n) (record { level = slice_index numbers own.0; cell = c; out = k; net = own.0 }) (cell_slots net numbers c (k + 1) outs))
        ])
      ]

  all_once : (c : ℕ) (cells : List Cell) (n : ℕ)
      → ((d e : ℕ) (a b : Cell) (i j : ℕ) → slice_get cells d ≡ Some a → slice_get cells e ≡ Some b → slice_get a.outs i ≡ Some (Some (record { 0 = n })) → slice_get b.outs j ≡ Some (Some (record { 0 = n })) → (d ≡ e) × (i ≡ j))
      → hits n (all_slots net numbers c cells) ≤ 1
  all_once c [] n once = omega arith
  all_once c (cell ∷ cells) n once =
      let own = cell_once c 0 cell.outs n (λ i j at there. (once 0 0 cell cell i j refl refl at there).1) in
      let rest = all_once (c + 1) cells n (λ d e a b i j at there on too. (let same = once (suc d) (suc e) a b i j at there on too in let s : suc d ≡ suc e = same.0 in (omega arith, same.1))) in
      let sum = sum_by-append (hit n) (cell_slots net numbers c 0 cell.outs) (all_slots net numbers (c + 1) cells) in
      elim (any_slot n (cell_slots net numbers c 0 cell.outs)) [
        | inl one ↦ (elim (any_slot n (all_slots net numbers (c + 1) cells)) [
          | inl two ↦ absurd (
              let a = cell_sound c 0 cell.outs one.0 one.1 one.2 in
              let b = all_sound (c + 1) cells two.0 two.1 two.2 in
              let same = once 0 (suc b.0) cell b.1 a.0 two.1.out refl b.3 (a.3 ∙ ap (λ (m : ℕ). Some (Some (record { 0 = m }))) one.3) (b.4 ∙ ap (λ (m : ℕ). Some (Some (record { 0 = m }))) two.3) in
              let s : 0 ≡ suc b.0 = same.0 in omega arith)
          | inr none ↦ omega (arith, own, none, sum)
        ])
        | inr none ↦ omega (arith, rest, none, sum)
      ]

-- The slots in their order

contains_at : {A : Type 0} (xs : List A) (x : A) → Contains xs x → (k : ℕ) × (slice_get xs k ≡ Some x)
contains_at xs x own = (own.0, slice_get-get_or xs own.0 x own.1 ∙ ap (λ o. Some o) own.2)

at_contains : {A : Type 0} (xs : List A) (k : ℕ) (x : A) → slice_get xs k ≡ Some x → Contains xs x
at_contains xs k x at = (k, slice_get_within xs k x at, get_or_from_slice_get xs k x x at)

levels_rise : (slots : List Slot) → IsNonDecreasingBy (λ (slot : Slot). slot.level) slots → (j i : ℕ) (a b : Slot) → slice_get slots j ≡ Some a → slice_get slots i ≡ Some b → j ≤ i → a.level ≤ b.level
levels_rise slots sorted j i a b at there order =
    let level : Slot → ℕ = λ (slot : Slot). slot.level in
    omega (arith, sorted j i a order (slice_get_within slots i b there), ap level (get_or_from_slice_get slots j a a at), ap level (get_or_from_slice_get slots i b a there))

pub slots_ordered : (net : Netlist) (numbers : List ℕ) (made slots : List Slot) → IsFlat net → made ≡ all_slots net numbers 0 net.cells → IsPermutation made slots → IsNonDecreasingBy (λ (slot : Slot). slot.level) slots
    → AreSlots net (slice_index numbers) slots
slots_ordered net numbers made slots flat is moved sorted = record {
  sound = λ j slot at.
      let own = back j slot at in (
        own.1,
        record { at = ap (slice_get net.cells) (let e : slot.cell ≡ own.0 = omega (arith, own.2) in e) ∙ own.3; on = own.4 },
        record { driven = (flat.tables.driven slot.net).1 (inr (slot.cell, own.1, slot.out, record { at = ap (slice_get net.cells) (let e : slot.cell ≡ own.0 = omega (arith, own.2) in e) ∙ own.3; on = own.4 })); no_clock = own.5 },
      );
  complete = λ c cell k n drives data_net.
      let own = all_complete net numbers 0 net.cells c cell k n drives.at drives.on data_net.no_clock in
      let there = contains_at slots own.1 (Contains-permutation made slots own.1 moved (subst (λ (xs : List Slot). Contains xs own.1) (sym is) (at_contains (all_slots net numbers 0 net.cells) own.0 own.1 own.2))) in
      (there.0, own.1, there.1, omega (arith, own.3), own.4, own.5);
  apart = apart_from_hits slots (λ n. omega (
    arith,
    sum_by-IsPermutation (hit n) made slots moved,
    ap (hits n) is,
    all_once net numbers 0 net.cells n (λ d e a b i j at there on too. flat.formed.sources.one_driver d e a b i j n (record { at = at; on = on }) (record { at = there; on = too })),
  ));
  ordered = λ j i a b at there order.
      let own = back j a at in let other = back i b there in
      omega (arith, levels_rise slots sorted j i a b at there order, own.6, other.6);
}
  where
    back : (j : ℕ) (slot : Slot) → slice_get slots j ≡ Some slot
        → (d : ℕ) × (cell : Cell) × (slot.cell ≡ 0 + d) × (slice_get net.cells d ≡ Some cell) × (slice_get cell.outs slot.out ≡ Some (Some (record { 0 = slot.net }))) × (is_clock net slot.net ≡ false) × (slot.level ≡ slice_index numbers slot.net)
    back j slot at =
        let own = contains_at made slot (Contains-permutation slots made slot (IsPermutation-sym made slots moved) (at_contains slots j slot at)) in
        all_sound net numbers 0 net.cells own.0 slot (sym (ap (λ xs. slice_get xs own.0) is) ∙ own.1)
