-- The digits of a number, and those that are missing.
use Rattle.std.proofs.Common.{◌≡◌, ℕ, zero, suc, ◌+◌, ◌/◌, ◌%◌, ◌<◌, List, [], ◌∷◌, ◌++◌, refl, ap, sym, ◌∙◌, arith, length, length-append, get_or, take}
use Rattle.std.specs.Prelude.{map, reverse}
use Rattle.std.specs.Int.Digits.{digits_of}
use Rattle.std.proofs.lemmas.Int.Digits.{digits_of_step}
use Rattle.std.proofs.lemmas.List.{reverse-append, map_push}
use Rattle.std.specs.Prelude.{replicate, slice_get, unwrap_or}
use Rattle.std.proofs.Math.Seq.{take-suc}
use Rattle.std.proofs.lemmas.List.{length-replicate}
use Rattle.std.proofs.lemmas.Option.{unwrap_or-slice_get}
use Rattle.ila_base.specs.declared.compare.Digit.{Digit}
use Rattle.ila_base.specs.declared.compare.Digit.TheVariants.{Zero}
use Rattle.tsm_parse.specs.Constants.{bit_digit}

-- The digits of a number, the lowest first

abbrev pub low_digits : ℕ → List Digit
low_digits n = reverse (map bit_digit (digits_of 2 n))

pub low_digits_step : (n : ℕ) → 0 < n → low_digits n ≡ bit_digit (n % 2) ∷ low_digits (n / 2)
low_digits_step n some =
    ap (λ ds. reverse (map bit_digit ds)) (digits_of_step 2 n (omega arith) some)
    ∙ ap reverse (map_push bit_digit (digits_of 2 (n / 2)) (n % 2))
    ∙ reverse-append (map bit_digit (digits_of 2 (n / 2))) (bit_digit (n % 2) ∷ [])

-- Missing digits

nothing_more : (w k : ℕ) → get_or (replicate w Zero) k Zero ≡ Zero
nothing_more zero k = refl
nothing_more (suc w) zero = refl
nothing_more (suc w) (suc k) = nothing_more w k

same_digit : (ds : List Digit) (w k : ℕ) → get_or (ds ++ replicate w Zero) k Zero ≡ get_or ds k Zero
same_digit [] w k = nothing_more w k
same_digit (d ∷ ds) w zero = refl
same_digit (d ∷ ds) w (suc k) = same_digit ds w k

-- one more digit, where fewer than w were taken
pub one_more_digit : (ds : List Digit) (w k : ℕ) → k < w → take (k + 1) (ds ++ replicate w Zero) ≡ take k (ds ++ replicate w Zero) ++ unwrap_or (slice_get ds k) Zero ∷ []
one_more_digit ds w k less =
    let size : length (ds ++ replicate w Zero) ≡ length ds + w = length-append ds (replicate w Zero) ∙ ap (λ n. length ds + n) (length-replicate w Zero) in
    let e : k + 1 ≡ suc k = omega arith in
    ap (λ n. take n (ds ++ replicate w Zero)) e ∙ take-suc (ds ++ replicate w Zero) k Zero (omega (arith, size))
    ∙ ap (λ d. take k (ds ++ replicate w Zero) ++ d ∷ []) (same_digit ds w k ∙ sym (unwrap_or-slice_get ds k Zero))
