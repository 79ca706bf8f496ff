-- Lists by their elements: after a write, and with one element more at the end.
use Rattle.std.proofs.Common.{◌≡◌, ◌≢◌, ℕ, zero, suc, ◌<◌, List, [], ◌∷◌, ◌++◌, length, slice_get, Some, refl, ap, arith, ◌⊎◌, inl, inr}
use Rattle.std.proofs.Math.ListN.{set}

pub slice_get_set_same : {A : Type 0} (xs : List A) (n : ℕ) (y : A) → n < length xs → slice_get (set xs n y) n ≡ Some y
slice_get_set_same [] n y low = absurd (omega (arith, low))
slice_get_set_same (x ∷ xs) zero y low = refl
slice_get_set_same (x ∷ xs) (suc n) y low = slice_get_set_same xs n y (omega (arith, low))

pub slice_get_set_other : {A : Type 0} (xs : List A) (n k : ℕ) (y : A) → k ≢ n → slice_get (set xs n y) k ≡ slice_get xs k
slice_get_set_other [] n k y other = refl
slice_get_set_other (x ∷ xs) zero zero y other = absurd (other refl)
slice_get_set_other (x ∷ xs) zero (suc k) y other = refl
slice_get_set_other (x ∷ xs) (suc n) zero y other = refl
slice_get_set_other (x ∷ xs) (suc n) (suc k) y other = slice_get_set_other xs n k y (λ e. other (ap suc e))

pub slice_get_left : {A : Type 0} (xs ys : List A) (i : ℕ) (x : A) → slice_get xs i ≡ Some x → slice_get (xs ++ ys) i ≡ Some x
slice_get_left [] ys i x at = absurd (cc at)
slice_get_left (y ∷ xs) ys zero x at = at
slice_get_left (y ∷ xs) ys (suc i) x at = slice_get_left xs ys i x at

pub slice_get_last : {A : Type 0} (xs : List A) (y : A) (i : ℕ) → i ≡ length xs → slice_get (xs ++ y ∷ []) i ≡ Some y
slice_get_last [] y zero is = refl
slice_get_last [] y (suc i) is = absurd (omega (arith, is))
slice_get_last (x ∷ xs) y zero is = absurd (omega (arith, is))
slice_get_last (x ∷ xs) y (suc i) is = slice_get_last xs y i (omega (arith, is))

pub slice_get_pushed : {A : Type 0} (xs : List A) (y : A) (i : ℕ) (x : A) → slice_get (xs ++ y ∷ []) i ≡ Some x → (slice_get xs i ≡ Some x) ⊎ ((i ≡ length xs) × (y ≡ x))
slice_get_pushed [] y zero x at = inr (refl, cc at)
slice_get_pushed [] y (suc i) x at = absurd (cc at)
slice_get_pushed (z ∷ xs) y zero x at = inl at
slice_get_pushed (z ∷ xs) y (suc i) x at = elim (slice_get_pushed xs y i x at) [ inl here ↦ inl here | inr last ↦ inr (omega (arith, last.0), last.1) ]
