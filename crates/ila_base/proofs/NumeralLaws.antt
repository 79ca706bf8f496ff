-- What digits stand for, one after the other.
use Rattle.std.proofs.Common.{◌≡◌, ℕ, ◌+◌, ◌*◌, ◌^◌, ◌<◌, List, ◌∷◌, Bool, true, false, refl, arith}
use Rattle.std.specs.Prelude.{cond, map, not}
use Rattle.std.specs.Int.Digits.{number_from_digits_after}
use Rattle.std.proofs.lemmas.Int.Digits.{number_after_ge}
use Rattle.ila_base.specs.Bytes.{digit_value, is_underscore, digits_in, with_digit}

-- the total and the digits behind it
abbrev pub value_after : ℕ → ℕ → List ℕ → ℕ
value_after total base bytes = number_from_digits_after base total (map digit_value (digits_in bytes))

by_byte : (total base b : ℕ) (rest : List ℕ) (u : Bool) → number_from_digits_after base (cond u total (total * base + digit_value b)) (map digit_value (digits_in rest))
    ≡ number_from_digits_after base total (map digit_value (cond (not u) (b ∷ digits_in rest) (digits_in rest)))
by_byte total base b rest true = refl
by_byte total base b rest false = refl

-- the total and the rest stand for the same before and after a byte
pub value_more : (total base b : ℕ) (rest : List ℕ) → value_after (with_digit total base b) base rest ≡ value_after total base (b ∷ rest)
value_more total base b rest = by_byte total base b rest (is_underscore b)

-- where the digits so far stand for too much, all do
pub overflow : (total base all : ℕ) (rest : List ℕ) → 0 < base → value_after total base rest ≡ all → all < 2 ^ 128 → total < 2 ^ 128
overflow total base all rest positive same small = omega (arith, number_after_ge base total (map digit_value (digits_in rest)) positive)
