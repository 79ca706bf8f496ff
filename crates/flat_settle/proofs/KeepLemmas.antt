-- The kept cells, and the first clock of theirs.
use Rattle.std.proofs.Common.{◌≡◌, ℕ, zero, suc, ◌+◌, ◌<◌, Bool, true, false, cond, List, [], ◌∷◌, map, filter, slice_get, Option, Some, None, MatchOption, inl, inr, refl, ap, sym, ◌∙◌, subst, arith, true≢false, if◌then◌else◌}
use Rattle.std.specs.List.{filter_map, cons_option}
use Rattle.std.proofs.lemmas.Bool.{cases_eq}
use Rattle.std.proofs.lemmas.Option.{same_Some}
use Rattle.net_core.specs.declared.parts.Pin.{Pin}
use Rattle.net_core.specs.declared.parts.Pin.TheVariants as pins
use Rattle.net_core.specs.declared.parts.Cell.{Cell}
use Rattle.flat_settle.specs.declared.raw.RawCell.{RawCell}
use Rattle.flat_settle.specs.declared.raw.Raw.{Raw}
use Rattle.flat_settle.specs.Raw.{flat_cell}
use Rattle.flat_settle.specs.Driven.{IsDriven, IsDropped, Leaves, none, kept, dropped}
use Rattle.flat_settle.specs.Tables.{stays, pin_stays}
use Rattle.net_graph.specs.Lists.{is_marked}

-- what holds of the first i items, and of item i, holds of one more
pub one_more : {X : Type 0} (P : X → Type 0) (xs : List X) (i : ℕ) (x : X) → slice_get xs i ≡ Some x → ((k : ℕ) (z : X) → k < i → slice_get xs k ≡ Some z → P z) → P x
    → (k : ℕ) (z : X) → k < i + 1 → slice_get xs k ≡ Some z → P z
one_more {X} P xs i x at before here k z low there = elim (cases_eq k i) [
  | inl is ↦ subst (λ (o : X). P o) (same_Some _ _ (sym at ∙ ap (slice_get xs) (sym is) ∙ there)) here
  | inr other ↦ before k z (omega (arith, low, other)) there
]

pub match_some : {X : Type 0} (o : Option X) (x : X) (P : Type 0) (Q : X → Type 0) → o ≡ Some x → Q x → MatchOption o P Q
match_some {X} o x P Q is holds = subst (λ (r : Option X). MatchOption r P Q) (sym is) holds

pub match_none : {X : Type 0} (o : Option X) (P : Type 0) (Q : X → Type 0) → o ≡ None → P → MatchOption o P Q
match_none {X} o P Q is holds = subst (λ (r : Option X). MatchOption r P Q) (sym is) holds

module _ {X Y : Type 0} (f : X → Option Y) where
  pub first_here : (xs : List X) (i : ℕ) (x : X) (y : Y) → ((k : ℕ) (z : X) → k < i → slice_get xs k ≡ Some z → f z ≡ None) → slice_get xs i ≡ Some x → f x ≡ Some y → slice_get (filter_map f xs) 0 ≡ Some y
  first_here [] i x y before at is = absurd (cc at)
  first_here (z ∷ zs) zero x y before at is = ap (λ (o : Option Y). slice_get (cons_option o (filter_map f zs)) 0) (ap f (same_Some z x at) ∙ is)
  first_here (z ∷ zs) (suc i) x y before at is =
      ap (λ (o : Option Y). slice_get (cons_option o (filter_map f zs)) 0) (before 0 z (omega arith) refl)
      ∙ first_here zs i x y (λ k w low. before (suc k) w (omega (arith, low))) at is

  pub none_there : (xs : List X) → ((k : ℕ) (z : X) → slice_get xs k ≡ Some z → f z ≡ None) → slice_get (filter_map f xs) 0 ≡ None
  none_there [] all = refl
  none_there (z ∷ zs) all = ap (λ (o : Option Y). slice_get (cons_option o (filter_map f zs)) 0) (all 0 z refl) ∙ none_there zs (λ k. all (suc k))

-- The cells that the table keeps are those that are left

module _ (raw : Raw) (driven : List Bool) (tells : (n : ℕ) → (is_marked driven n ≡ true → IsDriven raw n) × (IsDriven raw n → is_marked driven n ≡ true)) where
  pin_kept : (o : Option Pin) (m : ℕ) → pin_stays driven o ≡ true → o ≡ Some (pins.Net (record { 0 = m })) → IsDriven raw m
  pin_kept o m stays is = (tells m).0 (sym (ap (pin_stays driven) is) ∙ stays)

  pin_dropped : (o : Option Pin) → pin_stays driven o ≡ false → (m : ℕ) × (o ≡ Some (pins.Net (record { 0 = m }))) × ¬ IsDriven raw m
  pin_dropped None is = absurd (true≢false is)
  pin_dropped (Some (pins.Net net)) is = (net.0, refl, λ d. true≢false (sym ((tells net.0).1 d) ∙ is))
  pin_dropped (Some pins.Zero) is = absurd (true≢false is)
  pin_dropped (Some pins.One) is = absurd (true≢false is)

  cell_kept : (cell : RawCell) → stays driven cell ≡ true → ¬ IsDropped raw cell
  cell_kept cell is drop =
      let stays_on : pin_stays driven (slice_get cell.ins 0) ≡ true = sym (ap (λ b. if b then pin_stays driven (slice_get cell.ins 0) else true) drop.link) ∙ is in
      drop.undriven (pin_kept (slice_get cell.ins 0) drop.source stays_on drop.from)

  cell_dropped : (cell : RawCell) → stays driven cell ≡ false → IsDropped raw cell
  cell_dropped cell is = by cell.link refl
    where
      by : (b : Bool) → cell.link ≡ b → IsDropped raw cell
      by true link =
          let own = pin_dropped (slice_get cell.ins 0) (sym (ap (λ b. if b then pin_stays driven (slice_get cell.ins 0) else true) link) ∙ is) in
          record { link = link; source = own.0; from = own.1; undriven = own.2 }
      by false link = absurd (true≢false (sym (ap (λ b. if b then pin_stays driven (slice_get cell.ins 0) else true) link) ∙ is))

  pub leaves : (cells : List RawCell) → Leaves raw cells (map flat_cell (filter (stays driven) cells))
  leaves [] = none
  leaves (cell ∷ more) = by (leaves more) (stays driven cell) refl
    where
      by : Leaves raw more (map flat_cell (filter (stays driven) more)) → (b : Bool) → stays driven cell ≡ b → Leaves raw (cell ∷ more) (map flat_cell (cond (stays driven cell) (cell ∷ filter (stays driven) more) (filter (stays driven) more)))
      by rest true is = subst (λ b. Leaves raw (cell ∷ more) (map flat_cell (cond b (cell ∷ filter (stays driven) more) (filter (stays driven) more)))) (sym is)
          (kept cell more (map flat_cell (filter (stays driven) more)) (cell_kept cell is) rest)
      by rest false is = subst (λ b. Leaves raw (cell ∷ more) (map flat_cell (cond b (cell ∷ filter (stays driven) more) (filter (stays driven) more)))) (sym is)
          (dropped cell more (map flat_cell (filter (stays driven) more)) (cell_dropped cell is) rest)

-- A cell that is left is one of the raw ones, and it isn't dropped; and each such one is left

pub left_from : (raw : Raw) (cells : List RawCell) (left : List Cell) → Leaves raw cells left → (c : ℕ) (cell : Cell) → slice_get left c ≡ Some cell
    → (d : ℕ) × (own : RawCell) × (slice_get cells d ≡ Some own) × (flat_cell own ≡ cell) × ¬ IsDropped raw own
left_from raw _ _ none c cell at = absurd (cc at)
left_from raw _ _ (kept first more cells stays rest) zero cell at = (0, first, refl, same_Some (flat_cell first) cell at, stays)
left_from raw _ _ (kept first more cells stays rest) (suc c) cell at = let own = left_from raw more cells rest c cell at in (suc own.0, own.1, own.2, own.3, own.4)
left_from raw _ _ (dropped first more cells drops rest) c cell at = let own = left_from raw more cells rest c cell at in (suc own.0, own.1, own.2, own.3, own.4)

pub left_to : (raw : Raw) (cells : List RawCell) (left : List Cell) → Leaves raw cells left → (d : ℕ) (own : RawCell) → slice_get cells d ≡ Some own → ¬ IsDropped raw own
    → (c : ℕ) × (slice_get left c ≡ Some (flat_cell own))
left_to raw _ _ none d own at stays = absurd (cc at)
left_to raw _ _ (kept first more cells keeps rest) zero own at stays = (0, ap (λ (o : RawCell). Some (flat_cell o)) (same_Some first own at))
left_to raw _ _ (kept first more cells keeps rest) (suc d) own at stays = let there = left_to raw more cells rest d own at stays in (suc there.0, there.1)
left_to raw _ _ (dropped first more cells drops rest) zero own at stays = absurd (stays (subst (λ (o : RawCell). IsDropped raw o) (same_Some first own at) drops))
left_to raw _ _ (dropped first more cells drops rest) (suc d) own at stays = left_to raw more cells rest d own at stays
