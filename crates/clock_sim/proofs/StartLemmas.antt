-- The stored bits at clock 0.
use Rattle.std.proofs.Common.{◌≡◌, ℕ, ◌+◌, ◌<◌, Bool, true, false, List, length, replicate, get_or, set, slice_get, Some, refl, ap, sym, ◌∙◌, arith, inl, inr}
use Rattle.std.proofs.lemmas.Bool.{cases_lt}
use Rattle.std.proofs.lemmas.List.{length-replicate, length-set, get_or-replicate, get_or_past, get_or-set_same, get_or-set_other}
use Rattle.std.proofs.lemmas.Option.{same_Some, slice_get_within}
use Rattle.net_core.specs.declared.kind.CellKind.{CellKind}
use Rattle.net_core.specs.declared.kind.CellKind.TheVariants.{Gate, Lut, Inv, Ibuf, Obuf, Bufg, Gnd, Vcc, Muxf7, Muxf8, Carry4, Fdre, Fdse, Fdce, Fdpe, Mem}
use Rattle.net_core.specs.declared.parts.Cell.{Cell}
use Rattle.net_core.specs.CellTable.{content_size, initial}
use Rattle.clock_sim.specs.Plan.{base_of, stored_bit, IsStartTo}
use Rattle.clock_sim.proofs.AdvanceLemmas.{base_more, base_apart}

-- a cell whose initial bits are 1 stores one bit
pub one_stored : (kind : CellKind) → initial kind 0 ≡ true → content_size kind ≡ 1
one_stored (Fdre init) set = refl
one_stored (Fdse init) set = refl
one_stored (Fdce init) set = refl
one_stored (Fdpe init) set = refl
one_stored (Mem aw dw) set = absurd (cc set)
one_stored (Gate code) set = absurd (cc set)
one_stored (Lut n init) set = absurd (cc set)
one_stored Inv set = absurd (cc set)
one_stored Ibuf set = absurd (cc set)
one_stored Obuf set = absurd (cc set)
one_stored Bufg set = absurd (cc set)
one_stored Gnd set = absurd (cc set)
one_stored Vcc set = absurd (cc set)
one_stored Muxf7 set = absurd (cc set)
one_stored Muxf8 set = absurd (cc set)
one_stored Carry4 set = absurd (cc set)

-- so many bits that are 0
zero_at : (count k : ℕ) → get_or (replicate count false) k false ≡ false
zero_at count k = elim (cases_lt k count) [
  | inl low ↦ get_or-replicate count k false false low
  | inr high ↦ get_or_past (replicate count false) k false (omega (arith, high, length-replicate count false))
]

pub start_none : (cells : List Cell) (count : ℕ) (stored : List Bool) → count ≡ base_of cells (length cells) → stored ≡ replicate count false → IsStartTo cells 0 stored
start_none cells count stored size is = record {
  size = ap length is ∙ length-replicate count false ∙ size;
  bits = λ c cell k low at within. absurd (omega (arith, low));
  later = λ k high. ap (λ (bits : List Bool). get_or bits k false) is ∙ zero_at count k;
}

-- one cell more, whose bits are what they were
pub start_kept : (cells : List Cell) (i : ℕ) (cell : Cell) (stored : List Bool) → slice_get cells i ≡ Some cell → IsStartTo cells i stored → ((k : ℕ) → initial cell.kind k ≡ false) → IsStartTo cells (i + 1) stored
start_kept cells i cell stored at so_far starts = record {
  size = so_far.size;
  bits = bits;
  later = λ k high. so_far.later k (omega (arith, base_more cells i cell at, high));
}
  where
    bits : (c : ℕ) (o : Cell) (k : ℕ) → c < i + 1 → slice_get cells c ≡ Some o → k < content_size o.kind → stored_bit cells stored c k ≡ initial o.kind k
    bits c o k low there within = elim (cases_lt c i) [
      | inl before ↦ so_far.bits c o k before there within
      | inr late ↦ (
          let place : c ≡ i = omega (arith, low, late) in
          let is_cell : o ≡ cell = same_Some _ _ (sym there ∙ ap (slice_get cells) place ∙ at) in
          so_far.later (base_of cells c + k) (omega (arith, ap (base_of cells) place)) ∙ sym (ap (λ (o : Cell). initial o.kind k) is_cell ∙ starts k))
    ]

pub set_inside : (cells : List Cell) (i base : ℕ) (cell : Cell) (stored : List Bool) → slice_get cells i ≡ Some cell → IsStartTo cells i stored → base ≡ base_of cells i → initial cell.kind 0 ≡ true → base < length stored
set_inside cells i base cell stored at so_far is starts =
    omega (arith, one_stored cell.kind starts, base_apart cells i (length cells) cell at (slice_get_within cells i cell at), so_far.size, is)

-- one cell more, whose one bit becomes 1
pub start_set : (cells : List Cell) (i base : ℕ) (cell : Cell) (stored new : List Bool) → slice_get cells i ≡ Some cell → IsStartTo cells i stored → base ≡ base_of cells i → base < length stored
    → new ≡ set stored base true → ((k : ℕ) → initial cell.kind k ≡ true) → IsStartTo cells (i + 1) new
start_set cells i base cell stored new at so_far is_base inside is starts = record {
  size = ap length is ∙ length-set stored base true ∙ so_far.size;
  bits = bits;
  later = λ k high. other k (λ (e : k ≡ base). omega (arith, e, size, base_more cells i cell at, high, is_base)) ∙ so_far.later k (omega (arith, base_more cells i cell at, high));
}
  where
    size : content_size cell.kind ≡ 1
    size = one_stored cell.kind (starts 0)

    other : (k : ℕ) → (k ≡ base → ⊥) → get_or new k false ≡ get_or stored k false
    other k apart = ap (λ (bits : List Bool). get_or bits k false) is ∙ get_or-set_other stored base k true false apart

    bits : (c : ℕ) (o : Cell) (k : ℕ) → c < i + 1 → slice_get cells c ≡ Some o → k < content_size o.kind → stored_bit cells new c k ≡ initial o.kind k
    bits c o k low there within = elim (cases_lt c i) [
      | inl before ↦ (
          let apart = base_apart cells c i o there before in
          other (base_of cells c + k) (λ (e : base_of cells c + k ≡ base). omega (arith, e, apart, within, is_base)) ∙ so_far.bits c o k before there within)
      | inr late ↦ (
          let place : c ≡ i = omega (arith, low, late) in
          let is_cell : o ≡ cell = same_Some _ _ (sym there ∙ ap (slice_get cells) place ∙ at) in
          let sizes : content_size o.kind ≡ content_size cell.kind = ap (λ (o : Cell). content_size o.kind) is_cell in
          let from : base_of cells c + k ≡ base = omega (arith, ap (base_of cells) place, is_base, within, sizes, size) in
          ap (λ n. get_or new n false) from ∙ ap (λ (bits : List Bool). get_or bits base false) is ∙ get_or-set_same stored base true false inside
          ∙ sym (ap (λ (o : Cell). initial o.kind k) is_cell ∙ starts k))
    ]
