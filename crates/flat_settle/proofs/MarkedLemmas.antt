-- Marks of the numbers of a list, and the first of them.
use Rattle.std.proofs.Common.{◌≡◌, ℕ, ◌+◌, ◌<◌, ◌≤◌, Bool, true, false, List, length, set, replicate, slice_get, Some, ap, sym, ◌∙◌, arith, inl, inr, ◌↔◌, true≢false}
use Rattle.std.proofs.lemmas.Bool.{cases_lt}
use Rattle.std.proofs.lemmas.List.{get_or-replicate, get_or_past, length-replicate}
use Rattle.std.proofs.lemmas.Option.{slice_get_within, same_Some}
use Rattle.net_graph.specs.Lists.{IsIn, is_marked}
use Rattle.net_core.specs.Tables.{AddsMarks}
use Rattle.net_core.proofs.MarkLemmas.{Below, marks_set, marks_more}

abbrev pub NumberAt : List ℕ → ℕ → ℕ → Type 0
NumberAt xs k n = slice_get xs k ≡ Some n

pub numbers_more : (xs : List ℕ) (i m : ℕ) (old now : List Bool) → slice_get xs i ≡ Some m → m < length now → AddsMarks old now (Below (NumberAt xs) i) → AddsMarks old (set now m true) (Below (NumberAt xs) (i + 1))
numbers_more xs i m old now at low first =
    marks_more (NumberAt xs) (λ n. n ≡ m) i old now (set now m true) first (marks_set now m low)
    (λ n is. at ∙ ap (λ (k : ℕ). Some k) (sym is)) (λ n there. same_Some _ _ (sym there ∙ at))

unmarked : (count n : ℕ) → is_marked (replicate count false) n ≡ false
unmarked count n = elim (cases_lt n count) [
  | inl low ↦ get_or-replicate count n false false low
  | inr high ↦ get_or_past (replicate count false) n false (omega (arith, high, length-replicate count false))
]

pub numbers_all : (xs : List ℕ) (i count : ℕ) (old new : List Bool) → old ≡ replicate count false → length xs ≤ i → AddsMarks old new (Below (NumberAt xs) i) → (n : ℕ) → (is_marked new n ≡ true) ↔ IsIn xs n
numbers_all xs i count old new is end all n = (
  λ t. elim ((all.marked n).0 t) [
    | inl o ↦ absurd (true≢false (sym o ∙ ap (λ (ms : List Bool). is_marked ms n) is ∙ unmarked count n))
    | inr own ↦ (own.0, own.2)
  ],
  λ (k, at). (all.marked n).1 (inr (k, omega (arith, slice_get_within xs k n at, end), at)),
)
