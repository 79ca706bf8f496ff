-- One register more has the stored bits of the next clock.
use Rattle.std.proofs.Common.{◌≡◌, ℕ, zero, suc, ◌+◌, ◌-◌, ◌*◌, ◌/◌, ◌%◌, ◌^◌, ◌<◌, ◌≤◌, Bool, true, false, ◌&&◌, List, [], ◌∷◌, length, get_or, take, drop, slice_get, slice_range, Some, refl, ap, sym, ◌∙◌, subst, arith, inl, inr, ◌⊎◌, if◌then◌else◌, ◌==◌}
use Rattle.std.proofs.lemmas.Bool.{cases_eq, cases_lt, false_from_ne_true}
use Rattle.std.proofs.lemmas.Bool.Decides.{Decides-eqb}
use Rattle.std.proofs.lemmas.List.Sums.{sum_by-cons}
use Rattle.std.proofs.lemmas.Option.{same_Some}
use Rattle.std.proofs.Math.Nat.{mul-le-mul_left}
use Rattle.net_core.specs.declared.kind.CellKind.TheVariants.{Mem}
use Rattle.net_core.specs.declared.parts.Cell.{Cell}
use Rattle.net_core.specs.CellTable.{pin, binary, content_size, next_content}
use Rattle.net_core.proofs.DependLemmas.{next_same}
use Rattle.clock_sim.specs.declared.plan.Row.{Row}
use Rattle.clock_sim.specs.Reading.{bit_at_place, read_all}
use Rattle.clock_sim.specs.Plan.{base_of, AreApart, AdvancesRow, WritesRow, IsAdvancedTo}

pub there_is : {A : Type 0} (xs : List A) (i : ℕ) → i < length xs → (x : A) × (slice_get xs i ≡ Some x)
there_is [] i low = absurd (omega (arith, low))
there_is (x ∷ xs) zero low = (x, refl)
there_is (x ∷ xs) (suc i) low = there_is xs i (omega (arith, low))

pub base_none : (cells : List Cell) → base_of cells 0 ≡ 0
base_none [] = refl
base_none (cell ∷ cells) = refl

pub base_more : (cells : List Cell) (c : ℕ) (cell : Cell) → slice_get cells c ≡ Some cell → base_of cells (c + 1) ≡ base_of cells c + content_size cell.kind
base_more [] c cell at = absurd (cc at)
base_more (first ∷ cells) zero cell at =
    let is : first ≡ cell = same_Some first cell at in
    sum_by-cons (λ (cell : Cell). content_size cell.kind) first [] ∙ (let e : content_size first.kind ≡ content_size cell.kind = ap (λ (o : Cell). content_size o.kind) is in omega (arith, e))
base_more (first ∷ cells) (suc c) cell at =
    let rest = base_more cells c cell at in
    let next : suc c + 1 ≡ suc (c + 1) = omega arith in
    ap (base_of (first ∷ cells)) next
    ∙ sum_by-cons (λ (cell : Cell). content_size cell.kind) first (take (c + 1) cells)
    ∙ (let e = sum_by-cons (λ (cell : Cell). content_size cell.kind) first (take c cells) in omega (arith, rest, e))

base_rises : (cells : List Cell) (c d : ℕ) → c ≤ d → base_of cells c ≤ base_of cells d
base_rises [] zero d low = omega arith
base_rises [] (suc c) zero low = omega arith
base_rises [] (suc c) (suc d) low = omega arith
base_rises (first ∷ cells) zero d low = omega arith
base_rises (first ∷ cells) (suc c) zero low = absurd (omega (arith, low))
base_rises (first ∷ cells) (suc c) (suc d) low =
    omega (arith, base_rises cells c d (omega (arith, low)), sum_by-cons (λ (cell : Cell). content_size cell.kind) first (take c cells), sum_by-cons (λ (cell : Cell). content_size cell.kind) first (take d cells))

-- a cell's stored bits end where those of a later cell begin
pub base_apart : (cells : List Cell) (c d : ℕ) (cell : Cell) → slice_get cells c ≡ Some cell → c < d → base_of cells c + content_size cell.kind ≤ base_of cells d
base_apart cells c d cell at low = omega (arith, base_more cells c cell at, base_rises cells (c + 1) d (omega (arith, low)))

pub advanced_more : (values : List Bool) (pins : List ℕ) (registers : List Row) → AreApart registers → (i : ℕ) (row : Row) (old now new : List Bool) → slice_get registers i ≡ Some row
    → AdvancesRow row.kind row.base (read_all values (slice_range pins row.first row.last)) now new → IsAdvancedTo values pins registers i old now → IsAdvancedTo values pins registers (i + 1) old new
advanced_more values pins registers apart i row old now new at step so_far = record {
  size = step.size ∙ so_far.size;
  next = next;
  kept = λ k free. step.outside k (free i row (omega arith) at) ∙ so_far.kept k (λ j other low there. free j other (omega (arith, low)) there);
}
  where
    -- the register's own bits are still the old ones
    own_old : (k : ℕ) → bit_at_place now (row.base + k) ≡ bit_at_place old (row.base + k)
    own_old k = so_far.kept (row.base + k) (λ j other low there. inr (omega (arith, apart j i other row there at low)))

    next : (j : ℕ) (other : Row) (k : ℕ) → j < i + 1 → slice_get registers j ≡ Some other → k < content_size other.kind
        → bit_at_place new (other.base + k) ≡ next_content other.kind (read_all values (slice_range pins other.first other.last)) (λ b. bit_at_place old (other.base + b)) k
    next j other k below there stores = elim (cases_eq j i) [
      | inl same ↦ (
          let is : row ≡ other = same_Some _ _ (sym at ∙ ap (slice_get registers) (sym same) ∙ there) in
          let size : content_size row.kind ≡ content_size other.kind = ap (λ (o : Row). content_size o.kind) is in
          let own : bit_at_place new (row.base + k) ≡ next_content row.kind (read_all values (slice_range pins row.first row.last)) (λ b. bit_at_place old (row.base + b)) k =
          step.inside k (omega (arith, stores, size))
          ∙ next_same row.kind (read_all values (slice_range pins row.first row.last)) (read_all values (slice_range pins row.first row.last)) (λ b. bit_at_place now (row.base + b)) (λ b. bit_at_place old (row.base + b)) k refl (own_old k) in
          subst (λ (o : Row). bit_at_place new (o.base + k) ≡ next_content o.kind (read_all values (slice_range pins o.first o.last)) (λ b. bit_at_place old (o.base + b)) k) is own)
      | inr differ ↦ (
          let early : j < i = omega (arith, below, differ) in
          step.outside (other.base + k) (inl (omega (arith, apart j i other row there at early, stores))) ∙ so_far.next j other k early there stores)
    ]

-- A memory

-- a place in row q with remainder r is before or behind row p
row_before : (dw q p r : ℕ) → r < dw → q < p → dw * q + r < dw * p
row_before dw q p r low before =
    let product : dw * (q + 1) ≤ dw * p = mul-le-mul_left dw (omega (arith, before)) in
    omega (arith, product, low)

row_behind : (dw q p r : ℕ) → p < q → dw * p + dw ≤ dw * q + r
row_behind dw q p r behind =
    let product : dw * (p + 1) ≤ dw * q = mul-le-mul_left dw (omega (arith, behind)) in
    omega (arith, product)

pub memory_advanced : (aw dw base row start : ℕ) (ins old new : List Bool) → 0 < dw → pin ins 0 ≡ true → row ≡ binary (take aw (drop 1 ins)) → row < 2 ^ aw → start ≡ base + row * dw
    → WritesRow start (aw + dw) dw ins old new → AdvancesRow (Mem aw dw) base ins old new
memory_advanced aw dw base row start ins old new wide enabled is low begins wrote = record { size = wrote.size; inside = inside; outside = outside }
  where
    outside : (k : ℕ) → (k < base) ⊎ (base + 2 ^ aw * dw ≤ k) → get_or new k false ≡ get_or old k false
    outside k (inl before) = wrote.outside k (inl (omega (arith, begins, before)))
    outside k (inr behind) =
        let product : dw * (row + 1) ≤ dw * 2 ^ aw = mul-le-mul_left dw (omega (arith, low)) in
        wrote.outside k (inr (omega (arith, begins, behind, product)))

    inside : (i : ℕ) → i < 2 ^ aw * dw → get_or new (base + i) false ≡ (if pin ins 0 && (i / dw == binary (take aw (drop 1 ins))) then pin ins (aw + dw - i % dw) else get_or old (base + i) false)
    inside i within = elim (cases_eq (i / dw) row) [
      | inl same ↦ (
          let test : (pin ins 0 && (i / dw == binary (take aw (drop 1 ins)))) ≡ true =
          ap (λ b. b && (i / dw == binary (take aw (drop 1 ins)))) enabled ∙ (Decides-eqb (i / dw) (binary (take aw (drop 1 ins)))).1 (same ∙ is) in
          let product : dw * (i / dw) ≡ dw * row = ap (λ q. dw * q) same in
          let place : base + i ≡ start + i % dw = omega (arith, begins, product, wide) in
          let small : i % dw < dw = omega (arith, wide) in
          ap (λ k. get_or new k false) place ∙ wrote.written (i % dw) small
          ∙ sym (ap (λ b. if b then pin ins (aw + dw - i % dw) else get_or old (base + i) false) test))
      | inr other ↦ (
          let test : (pin ins 0 && (i / dw == binary (take aw (drop 1 ins)))) ≡ false =
          ap (λ b. b && (i / dw == binary (take aw (drop 1 ins)))) enabled ∙ false_from_ne_true (i / dw == binary (take aw (drop 1 ins))) (λ t. other ((Decides-eqb (i / dw) (binary (take aw (drop 1 ins)))).0 t ∙ sym is)) in
          let small : i % dw < dw = omega (arith, wide) in
          wrote.outside (base + i) (elim (cases_lt (i / dw) row) [
            | inl before ↦ (let e = row_before dw (i / dw) row (i % dw) small before in inl (omega (arith, begins, e, wide)))
            | inr behind ↦ (let e = row_behind dw (i / dw) row (i % dw) (omega (arith, behind, other)) in inr (omega (arith, begins, e, wide)))
          ])
          ∙ sym (ap (λ b. if b then pin ins (aw + dw - i % dw) else get_or old (base + i) false) test))
    ]
