-- The registers as they are made: one cell more.
use Rattle.std.proofs.Common.{◌≡◌, ℕ, ◌+◌, ◌<◌, ◌≤◌, List, [], ◌∷◌, ◌++◌, length, take, sum_by, slice_get, Some, refl, ap, sym, ◌∙◌, subst, arith, inl, inr}
use Rattle.std.proofs.Math.Seq.{take-length}
use Rattle.std.proofs.lemmas.List.{take-append-le}
use Rattle.std.proofs.lemmas.Option.{slice_get_within}
use Rattle.net_core.specs.declared.parts.Cell.{Cell}
use Rattle.net_core.specs.CellTable.{content_size}
use Rattle.net_core.proofs.ListLemmas.{slice_get_left, slice_get_right}
use Rattle.net_core.proofs.NumberLemmas.{take_one_more}
use Rattle.clock_sim.specs.declared.plan.Row.{Row}
use Rattle.clock_sim.specs.Reading.{places_of}
use Rattle.clock_sim.specs.Plan.{base_of, row_of, IsRow, AreRegisters}
use Rattle.clock_sim.proofs.AdvanceLemmas.{base_apart}
use Rattle.clock_sim.proofs.BuildLemmas.{grown_by_one, row_stays, row_new}

module _ (cells : List Cell) (cell : Cell) (pins : List ℕ) (registers : List Row) (so_far : AreRegisters cells pins registers) where
  -- the first stored bits of the cells stay when there is a cell more
  base_stays : (c : ℕ) → c ≤ length cells → base_of (cells ++ cell ∷ []) c ≡ base_of cells c
  base_stays c low = ap (sum_by (λ (o : Cell). content_size o.kind)) (take-append-le c cells (cell ∷ []) low)

  row_before : (c : ℕ) (o : Cell) (row : Row) → slice_get cells c ≡ Some o → IsRow cells pins c o row → IsRow (cells ++ cell ∷ []) pins c o row
  row_before c o row at is = record {
    kind = is.kind;
    places = is.places;
    base = is.base ∙ sym (base_stays c (omega (arith, slice_get_within cells c o at)));
    order = is.order;
    room = is.room;
  }

  -- a cell that stores nothing has no register
  pub registers_same : content_size cell.kind ≡ 0 → AreRegisters (cells ++ cell ∷ []) pins registers
  registers_same nothing = record { sound = sound; complete = complete; apart = so_far.apart }
    where
      sound : (j : ℕ) (row : Row) → slice_get registers j ≡ Some row → (c : ℕ) × (o : Cell) × (slice_get (cells ++ cell ∷ []) c ≡ Some o) × IsRow (cells ++ cell ∷ []) pins c o row
      sound j row at =
          let own = so_far.sound j row at in
          (own.0, own.1, slice_get_left cells (cell ∷ []) own.0 own.1 own.2, row_before own.0 own.1 row own.2 own.3)

      complete : (c : ℕ) (o : Cell) → slice_get (cells ++ cell ∷ []) c ≡ Some o → 0 < content_size o.kind
          → (j : ℕ) × (row : Row) × (slice_get registers j ≡ Some row) × IsRow (cells ++ cell ∷ []) pins c o row
      complete c o at stores = elim (grown_by_one cells (cells ++ cell ∷ []) cell c o refl at) [
        | inl here ↦ (let own = so_far.complete c o here stores in (own.0, own.1, own.2, row_before c o own.1 here own.3))
        | inr last ↦ absurd (let e : content_size cell.kind ≡ content_size o.kind = ap (λ (o : Cell). content_size o.kind) last.1 in omega (arith, e, nothing, stores))
      ]

  -- a cell's row is a register more
  pub registers_more : (base : ℕ) → base ≡ base_of cells (length cells) → AreRegisters (cells ++ cell ∷ []) (pins ++ places_of cell.ins) (registers ++ row_of cell (length pins) base ∷ [])
  registers_more base begins = record { sound = sound; complete = complete; apart = apart }
    where
      newest : Row
      newest = row_of cell (length pins) base

      stays : (c : ℕ) (o : Cell) (row : Row) → slice_get cells c ≡ Some o → IsRow cells pins c o row → IsRow (cells ++ cell ∷ []) (pins ++ places_of cell.ins) c o row
      stays c o row at is = row_stays (cells ++ cell ∷ []) pins (places_of cell.ins) c o row (row_before c o row at is)

      is_newest : IsRow (cells ++ cell ∷ []) (pins ++ places_of cell.ins) (length cells) cell newest
      is_newest = row_new (cells ++ cell ∷ []) pins (length cells) cell base (begins ∙ sym (base_stays (length cells) (omega arith)))

      sound : (j : ℕ) (row : Row) → slice_get (registers ++ newest ∷ []) j ≡ Some row
          → (c : ℕ) × (o : Cell) × (slice_get (cells ++ cell ∷ []) c ≡ Some o) × IsRow (cells ++ cell ∷ []) (pins ++ places_of cell.ins) c o row
      sound j row at = elim (grown_by_one registers (registers ++ newest ∷ []) newest j row refl at) [
        | inl here ↦ (let own = so_far.sound j row here in (own.0, own.1, slice_get_left cells (cell ∷ []) own.0 own.1 own.2, stays own.0 own.1 row own.2 own.3))
        | inr last ↦ (
          length cells,
          cell,
          slice_get_right cells (cell ∷ []) (length cells) 0 cell (omega arith) refl,
          subst (λ (row : Row). IsRow (cells ++ cell ∷ []) (pins ++ places_of cell.ins) (length cells) cell row) last.1 is_newest,
        )
      ]

      complete : (c : ℕ) (o : Cell) → slice_get (cells ++ cell ∷ []) c ≡ Some o → 0 < content_size o.kind
          → (j : ℕ) × (row : Row) × (slice_get (registers ++ newest ∷ []) j ≡ Some row) × IsRow (cells ++ cell ∷ []) (pins ++ places_of cell.ins) c o row
      complete c o at stores = elim (grown_by_one cells (cells ++ cell ∷ []) cell c o refl at) [
        | inl here ↦ (let own = so_far.complete c o here stores in (own.0, own.1, slice_get_left registers (newest ∷ []) own.0 own.1 own.2, stays c o own.1 here own.3))
        | inr last ↦ (
          length registers,
          newest,
          slice_get_right registers (newest ∷ []) (length registers) 0 newest (omega arith) refl,
          subst (λ (c : ℕ). IsRow (cells ++ cell ∷ []) (pins ++ places_of cell.ins) c o newest) (sym last.0)
              (subst (λ (o : Cell). IsRow (cells ++ cell ∷ []) (pins ++ places_of cell.ins) (length cells) o newest) last.1 is_newest),
        )
      ]

      ends : (i : ℕ) (a : Row) → slice_get registers i ≡ Some a → a.base + content_size a.kind ≤ base
      ends i a at =
          let own = so_far.sound i a at in
          let size : content_size a.kind ≡ content_size own.1.kind = ap content_size own.3.kind in
          omega (arith, own.3.base, size, begins, base_apart cells own.0 (length cells) own.1 own.2 (slice_get_within cells own.0 own.1 own.2))

      apart : (i j : ℕ) (a b : Row) → slice_get (registers ++ newest ∷ []) i ≡ Some a → slice_get (registers ++ newest ∷ []) j ≡ Some b → i < j → a.base + content_size a.kind ≤ b.base
      apart i j a b at_a at_b low = elim (grown_by_one registers (registers ++ newest ∷ []) newest j b refl at_b) [
        | inl own ↦ elim (grown_by_one registers (registers ++ newest ∷ []) newest i a refl at_a) [
          | inl early ↦ so_far.apart i j a b early own low
          | inr last ↦ absurd (omega (arith, slice_get_within registers j b own, last.0, low))
        ]
        | inr last ↦ elim (grown_by_one registers (registers ++ newest ∷ []) newest i a refl at_a) [
          | inl early ↦ (let begin : base ≡ b.base = ap (λ (o : Row). o.base) last.1 in omega (arith, ends i a early, begin))
          | inr other ↦ absurd (omega (arith, last.0, other.0, low))
        ]
      ]

-- The registers of the first cells

pub registers_skip : (cells : List Cell) (i : ℕ) (cell : Cell) (pins : List ℕ) (registers : List Row) → slice_get cells i ≡ Some cell → AreRegisters (take i cells) pins registers → content_size cell.kind ≡ 0
    → AreRegisters (take (i + 1) cells) pins registers
registers_skip cells i cell pins registers at so_far nothing =
    subst (λ (cs : List Cell). AreRegisters cs pins registers) (sym (take_one_more cells i cell at)) (registers_same (take i cells) cell pins registers so_far nothing)

pub registers_push : (cells : List Cell) (i : ℕ) (cell : Cell) (pins grown : List ℕ) (registers more : List Row) (base : ℕ) → slice_get cells i ≡ Some cell → AreRegisters (take i cells) pins registers
    → base ≡ base_of cells i → grown ≡ pins ++ places_of cell.ins → more ≡ registers ++ row_of cell (length pins) base ∷ [] → AreRegisters (take (i + 1) cells) grown more
registers_push cells i cell pins grown registers more base at so_far begins grows pushed =
    let begin : base ≡ base_of (take i cells) (length (take i cells)) = begins ∙ ap (sum_by (λ (o : Cell). content_size o.kind)) (sym (take-length (take i cells))) in
    subst (λ (rows : List Row). AreRegisters (take (i + 1) cells) grown rows) (sym pushed)
    (subst (λ (xs : List ℕ). AreRegisters (take (i + 1) cells) xs (registers ++ row_of cell (length pins) base ∷ [])) (sym grows)
    (subst (λ (cs : List Cell). AreRegisters cs (pins ++ places_of cell.ins) (registers ++ row_of cell (length pins) base ∷ [])) (sym (take_one_more cells i cell at))
    (registers_more (take i cells) cell pins registers so_far base begin)))
