-- The plan as it is made.
use Rattle.std.proofs.Common.{◌≡◌, ℕ, zero, suc, ◌+◌, ◌-◌, ◌*◌, ◌^◌, ◌<◌, ◌≤◌, List, [], ◌∷◌, ◌++◌, length, take, drop, sum_by, slice_get, slice_range, Some, refl, ap, sym, ◌∙◌, subst, arith, inl, inr, ◌⊎◌, pow_mono}
use Rattle.std.proofs.lemmas.List.{length-map, length-append, take-append-le, length-drop}
use Rattle.std.proofs.lemmas.List.Sums.{sum_by-cons, sum_by_push}
use Rattle.std.proofs.lemmas.Option.{same_Some, slice_get_within}
use Rattle.std.proofs.Math.Nat.{mul-le-mul_left, mul_comm}
use Rattle.std.proofs.Math.Seq.{drop-append_seam}
use Rattle.ila_base.specs.declared.limits.TheConstants.{CELLS}
use Rattle.net_core.specs.declared.kind.CellKind.{CellKind}
use Rattle.net_core.specs.declared.kind.CellKind.TheVariants.{Gate, Lut, Inv, Ibuf, Obuf, Bufg, Gnd, Vcc, Muxf7, Muxf8, Carry4, Fdre, Fdse, Fdce, Fdpe, Mem}
use Rattle.net_core.specs.declared.parts.Cell.{Cell}
use Rattle.net_core.specs.CellTable.{content_size, IsAllowed}
use Rattle.net_core.proofs.ListLemmas.{slice_get_append}
use Rattle.net_core.proofs.NumberLemmas.{take_one_more}
use Rattle.clock_sim.specs.declared.plan.Row.{Row}
use Rattle.clock_sim.specs.declared.plan.Slot.{Slot}
use Rattle.clock_sim.specs.declared.plan.Formula.{Formula}
use Rattle.clock_sim.specs.Reading.{place_of, places_of}
use Rattle.clock_sim.specs.Plan.{base_of, row_of, IsRow, AreRowsTo, AreFormulasTo}
use Rattle.clock_sim.proofs.AdvanceLemmas.{base_more}

size_small : (kind : CellKind) → IsAllowed kind → content_size kind ≤ 2 ^ 27
size_small (Fdre init) allowed = omega arith
size_small (Fdse init) allowed = omega arith
size_small (Fdce init) allowed = omega arith
size_small (Fdpe init) allowed = omega arith
size_small (Mem aw dw) allowed =
    let rows : 2 ^ aw ≤ 2 ^ 17 = pow_mono allowed.1 in
    let one : dw * 2 ^ aw ≤ dw * 2 ^ 17 = mul-le-mul_left dw rows in
    omega (arith, one, allowed.3, mul_comm dw (2 ^ aw))
size_small (Gate code) allowed = omega arith
size_small (Lut n init) allowed = omega arith
size_small Inv allowed = omega arith
size_small Ibuf allowed = omega arith
size_small Obuf allowed = omega arith
size_small Bufg allowed = omega arith
size_small Gnd allowed = omega arith
size_small Vcc allowed = omega arith
size_small Muxf7 allowed = omega arith
size_small Muxf8 allowed = omega arith
size_small Carry4 allowed = omega arith

-- all stored bits are few enough to number
base_small : (cells : List Cell) (i : ℕ) → ((c : ℕ) (cell : Cell) → slice_get cells c ≡ Some cell → IsAllowed cell.kind) → base_of cells i ≤ i * 2 ^ 27
base_small [] zero allowed = omega arith
base_small [] (suc i) allowed = omega arith
base_small (cell ∷ cells) zero allowed = omega arith
base_small (cell ∷ cells) (suc i) allowed =
    omega (arith, base_small cells i (λ c. allowed (suc c)), size_small cell.kind (allowed 0 cell refl), sum_by-cons (λ (cell : Cell). content_size cell.kind) cell (take i cells))

pub base_fits : (cells : List Cell) (i : ℕ) (cell : Cell) → ((c : ℕ) (cell : Cell) → slice_get cells c ≡ Some cell → IsAllowed cell.kind) → i ≤ CELLS → slice_get cells i ≡ Some cell
    → base_of cells i + content_size cell.kind < 2 ^ 64
base_fits cells i cell allowed few at = omega (arith, base_small cells i allowed, size_small cell.kind (allowed i cell at), few)

pub bases_fit : (cells : List Cell) (i : ℕ) → ((c : ℕ) (cell : Cell) → slice_get cells c ≡ Some cell → IsAllowed cell.kind) → i ≤ CELLS → base_of cells i < 2 ^ 64
bases_fit cells i allowed few = omega (arith, base_small cells i allowed, few)

-- a part of a list stays when the list grows
drop_append : {A : Type 0} (n : ℕ) (xs ys : List A) → n ≤ length xs → drop n (xs ++ ys) ≡ drop n xs ++ ys
drop_append zero xs ys low = refl
drop_append (suc n) [] ys low = absurd (omega (arith, low))
drop_append (suc n) (x ∷ xs) ys low = drop_append n xs ys (omega (arith, low))

range_stays : {A : Type 0} (xs ys : List A) (a b : ℕ) → a ≤ b → b ≤ length xs → slice_range (xs ++ ys) a b ≡ slice_range xs a b
range_stays xs ys a b order low =
    ap (take (b - a)) (drop_append a xs ys (omega (arith, order, low))) ∙ take-append-le (b - a) (drop a xs) ys (omega (arith, order, low, length-drop a xs))

take_whole : {A : Type 0} (n : ℕ) (xs : List A) → n ≡ length xs → take n xs ≡ xs
take_whole zero [] is = refl
take_whole zero (x ∷ xs) is = absurd (omega (arith, is))
take_whole (suc n) [] is = refl
take_whole (suc n) (x ∷ xs) is = ap (λ rest. x ∷ rest) (take_whole n xs (omega (arith, is)))

range_new : {A : Type 0} (xs ys : List A) (a b : ℕ) → a ≡ length xs → b ≡ length xs + length ys → slice_range (xs ++ ys) a b ≡ ys
range_new xs ys a b start end =
    ap (λ n. take (b - n) (drop n (xs ++ ys))) start ∙ ap (take (b - length xs)) (drop-append_seam xs ys) ∙ take_whole (b - length xs) ys (omega (arith, end))

-- an element of a list that has grown by one is of the list, or the last
pub grown_by_one : {A : Type 0} (xs more : List A) (last : A) (n : ℕ) (x : A) → more ≡ xs ++ last ∷ [] → slice_get more n ≡ Some x → (slice_get xs n ≡ Some x) ⊎ ((n ≡ length xs) × (last ≡ x))
grown_by_one xs more last n x grows at = elim (slice_get_append xs (last ∷ []) n x (sym (ap (λ ys. slice_get ys n) grows) ∙ at)) [
  | inl here ↦ inl here
  | inr later ↦ (
      let none : later.0 ≡ 0 = omega (arith, slice_get_within (last ∷ []) later.0 x later.2) in
      inr (omega (arith, later.1, none), same_Some _ _ (sym (ap (slice_get (last ∷ [])) none) ∙ later.2)))
]

-- a row of a cell still tells it when the list of pins grows
pub row_stays : (cells : List Cell) (places more : List ℕ) (c : ℕ) (cell : Cell) (row : Row) → IsRow cells places c cell row → IsRow cells (places ++ more) c cell row
row_stays cells places more c cell row is = record {
  kind = is.kind;
  places = range_stays places more row.first row.last is.order is.room ∙ is.places;
  base = is.base;
  order = is.order;
  room = omega (arith, is.room, length-append places more);
}

pub row_new : (cells : List Cell) (places : List ℕ) (c : ℕ) (cell : Cell) (base : ℕ) → base ≡ base_of cells c → IsRow cells (places ++ places_of cell.ins) c cell (row_of cell (length places) base)
row_new cells places c cell base at = record {
  kind = refl;
  places = range_new places (places_of cell.ins) (length places) (length places + length cell.ins) refl (omega (arith, length-map cell.ins place_of));
  base = at;
  order = omega arith;
  room = omega (arith, length-append places (places_of cell.ins), length-map cell.ins place_of);
}

pub pins_more : (cells : List Cell) (i : ℕ) (cell : Cell) → slice_get cells i ≡ Some cell
    → sum_by (λ (cell : Cell). length cell.ins) (take (i + 1) cells) ≡ sum_by (λ (cell : Cell). length cell.ins) (take i cells) + length cell.ins
pins_more cells i cell at = ap (sum_by (λ (cell : Cell). length cell.ins)) (take_one_more cells i cell at) ∙ sum_by_push (λ (cell : Cell). length cell.ins) (take i cells) cell

pub rows_more : (cells : List Cell) (i : ℕ) (cell : Cell) (places grown : List ℕ) (rows more : List Row) (base next : ℕ) → slice_get cells i ≡ Some cell → AreRowsTo cells i places rows base
    → grown ≡ places ++ places_of cell.ins → more ≡ rows ++ row_of cell (length places) base ∷ [] → next ≡ base + content_size cell.kind → AreRowsTo cells (i + 1) grown more next
rows_more cells i cell places grown rows more base next at so_far grows pushed after = record {
  size = ap length pushed ∙ (let e = length-append rows (row_of cell (length places) base ∷ []) in omega (arith, e, so_far.size));
  place_count = ap length grows ∙ (let e = length-append places (places_of cell.ins) in let f = length-map cell.ins place_of in omega (arith, e, f, so_far.place_count, pins_more cells i cell at));
  next_base = after ∙ (let e = base_more cells i cell at in omega (arith, e, so_far.next_base));
  each = each;
}
  where
    each : (c : ℕ) (o : Cell) (r : Row) → slice_get cells c ≡ Some o → slice_get more c ≡ Some r → IsRow cells grown c o r
    each c o r there own = subst (λ (pins : List ℕ). IsRow cells pins c o r) (sym grows) (elim (grown_by_one rows more (row_of cell (length places) base) c r pushed own) [
      | inl here ↦ row_stays cells places (places_of cell.ins) c o r (so_far.each c o r there here)
      | inr last ↦ (
          let place : c ≡ i = last.0 ∙ so_far.size in
          let is_cell : cell ≡ o = same_Some _ _ (sym at ∙ ap (slice_get cells) (sym place) ∙ there) in
          subst (λ (r : Row). IsRow cells (places ++ places_of cell.ins) c o r) last.1
          (subst (λ (o : Cell). IsRow cells (places ++ places_of cell.ins) c o (row_of cell (length places) base)) is_cell
          (row_new cells places c cell base (so_far.next_base ∙ ap (base_of cells) (sym place)))))
    ])

pub formulas_more : (pins : List ℕ) (rows : List Row) (slots : List Slot) (i : ℕ) (slot : Slot) (row : Row) (places grown : List ℕ) (formulas more : List Formula) (formula : Formula)
    → slice_get slots i ≡ Some slot → slice_get rows slot.cell ≡ Some row → AreFormulasTo pins rows slots i places formulas
    → grown ≡ places ++ slice_range pins row.first row.last → more ≡ formulas ++ formula ∷ []
    → formula.kind ≡ row.kind → formula.first ≡ length places → formula.last ≡ length grown → formula.base ≡ row.base → formula.out ≡ slot.out → formula.net ≡ slot.net
    → AreFormulasTo pins rows slots (i + 1) grown more
formulas_more pins rows slots i slot row places grown formulas more formula at row_at so_far grows pushed kind first last base on_pin on_net = record {
  size = ap length pushed ∙ (let e = length-append formulas (formula ∷ []) in omega (arith, e, so_far.size));
  each = each;
}
  where
    size : length grown ≡ length places + length (slice_range pins row.first row.last)
    size = ap length grows ∙ length-append places (slice_range pins row.first row.last)

    each : (j : ℕ) (s : Slot) (r : Row) (f : Formula) → slice_get slots j ≡ Some s → slice_get rows s.cell ≡ Some r → slice_get more j ≡ Some f
        → (f.kind ≡ r.kind) × (slice_range grown f.first f.last ≡ slice_range pins r.first r.last) × (f.base ≡ r.base) × (f.out ≡ s.out) × (f.net ≡ s.net) × (f.first ≤ f.last) × (f.last ≤ length grown)
    each j s r f there on own = elim (grown_by_one formulas more formula j f pushed own) [
      | inl here ↦ (
          let before = so_far.each j s r f there on here in
          (before.0, ap (λ xs. slice_range xs f.first f.last) grows ∙ range_stays places (slice_range pins row.first row.last) f.first f.last before.5 before.6 ∙ before.1, before.2, before.3, before.4, before.5, omega (arith, before.6, size)))
      | inr newest ↦ (
          let place : j ≡ i = newest.0 ∙ so_far.size in
          let is_slot : slot ≡ s = same_Some _ _ (sym at ∙ ap (slice_get slots) (sym place) ∙ there) in
          let is_row : row ≡ r = same_Some _ _ (sym row_at ∙ ap (λ (o : Slot). slice_get rows o.cell) is_slot ∙ on) in
          subst (λ (f : Formula). (f.kind ≡ r.kind) × (slice_range grown f.first f.last ≡ slice_range pins r.first r.last) × (f.base ≡ r.base) × (f.out ≡ s.out) × (f.net ≡ s.net) × (f.first ≤ f.last) × (f.last ≤ length grown)) newest.1 (
            kind ∙ ap (λ (o : Row). o.kind) is_row,
            ap (λ xs. slice_range xs formula.first formula.last) grows ∙ range_new places (slice_range pins row.first row.last) formula.first formula.last first (last ∙ size) ∙ ap (λ (o : Row). slice_range pins o.first o.last) is_row,
            base ∙ ap (λ (o : Row). o.base) is_row,
            on_pin ∙ ap (λ (o : Slot). o.out) is_slot,
            on_net ∙ ap (λ (o : Slot). o.net) is_slot,
            omega (arith, first, last, size),
            omega (arith, last),
          ))
    ]
