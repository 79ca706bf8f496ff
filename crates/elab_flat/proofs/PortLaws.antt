-- The names of a header, one by one.
use Rattle.std.proofs.Common.{◌≡◌, ℕ, ◌+◌, ◌<◌, List, length, get_or, slice_get, Some, inl, inr, refl, ap, sym, ◌∙◌, subst, arith}
use Rattle.std.proofs.lemmas.Bool.{cases_eq}
use Rattle.std.proofs.lemmas.Option.{slice_get_read, same_Some}

-- an item of a list that is seen
pub item_at : {X : Type 0} (xs seen : List X) (i : ℕ) (x : X) → seen ≡ xs → i < length seen → x ≡ get_or seen i x → slice_get xs i ≡ Some x
item_at {X} xs seen i x same low is = subst (λ (ys : List X). slice_get ys i ≡ Some x) same (slice_get_read seen (length seen) i x refl low is)

-- a name that isn't among the first ones, and isn't the next one
pub not_next : (names : List (List ℕ)) (name next : List ℕ) (i : ℕ) → slice_get names i ≡ Some next → ¬ (next ≡ name) → ((k : ℕ) → k < i → slice_get names k ≡ Some name → ⊥)
    → (k : ℕ) → k < i + 1 → slice_get names k ≡ Some name → ⊥
not_next names name next i at differs before k low there = elim (cases_eq k i) [
  | inl is ↦ differs (same_Some _ _ (sym at ∙ ap (slice_get names) (sym is) ∙ there))
  | inr other ↦ before k (omega (arith, low, other)) there
]
