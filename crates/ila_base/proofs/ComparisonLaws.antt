-- Digits one by one.
use Rattle.std.proofs.Common.{◌≡◌, ℕ, zero, suc, ◌+◌, ◌*◌, ◌/◌, ◌%◌, ◌^◌, ◌<◌, ◌≤◌, List, [], ◌∷◌, refl, sym, ◌∙◌, ap, arith, get_or, length, drop, mul_comm}
use Rattle.std.specs.Prelude.{◌==◌, ◌&&◌}
use Rattle.std.specs.List.{list_all, enumerate_from}
use Rattle.std.proofs.Math.Nat.{pow-zero, pow-suc, div-one, div-div-eq-div-mul}
use Rattle.std.proofs.lemmas.List.{at_drop_more}
use Rattle.ila_base.specs.declared.compare.Digit.{Digit}
use Rattle.ila_base.specs.declared.compare.Digit.TheVariants.{Zero, One, Any, Rise, Fall, Both, Steady}
use Rattle.ila_base.specs.Comparison.{matches, bit_at, matches_at, all_match, digit_bit, value_of}

-- half of a value has the bits from the second on
half_bit : (place value : ℕ) → bit_at (place + 1) value ≡ bit_at place (value / 2)
half_bit place value =
    let e : place + 1 ≡ suc place = omega arith in
    let same : 2 ^ (place + 1) ≡ 2 * 2 ^ place = ap (λ n. 2 ^ n) e ∙ pow-suc 2 place ∙ mul_comm (2 ^ place) 2 in
    ap (λ n. value / n % 2 == 1) same ∙ ap (λ n. n % 2 == 1) (sym (div-div-eq-div-mul value 2 (2 ^ place)))

low_bit : (value : ℕ) → bit_at 0 value ≡ (value % 2 == 1)
low_bit value = ap (λ n. value / n % 2 == 1) (pow-zero 2) ∙ ap (λ n. n % 2 == 1) (div-one value)

-- the digits match from the second place on where they match half of the values
behind_first : (digits : List Digit) (place before now : ℕ) → list_all (matches_at before now) (enumerate_from (place + 1) digits) ≡ list_all (matches_at (before / 2) (now / 2)) (enumerate_from place digits)
behind_first [] place before now = refl
behind_first (digit ∷ digits) place before now =
    λ i. matches digit (half_bit place before i) (half_bit place now i) && behind_first digits (place + 1) before now i

pub all_match-cons : (digit : Digit) (digits : List Digit) (before now : ℕ) → all_match (digit ∷ digits) before now ≡ (matches digit (before % 2 == 1) (now % 2 == 1) && all_match digits (before / 2) (now / 2))
all_match-cons digit digits before now =
    λ i. matches digit (low_bit before i) (low_bit now i) && behind_first digits 0 before now i

-- one digit on
pub all_match_more : (digits : List Digit) (at : ℕ) (d : Digit) (before now : ℕ) → at < length digits
    → all_match (drop at digits) before now ≡ (matches (get_or digits at d) (before % 2 == 1) (now % 2 == 1) && all_match (drop (at + 1) digits) (before / 2) (now / 2))
all_match_more digits at d before now within =
    at_drop_more (λ rest. all_match rest before now) digits at d within ∙ all_match-cons (get_or digits at d) (drop (at + 1) digits) before now

-- one digit before
pub value_of_more : (digits : List Digit) (at : ℕ) (d : Digit) → at < length digits → value_of (drop at digits) ≡ digit_bit (get_or digits at d) + 2 * value_of (drop (at + 1) digits)
value_of_more digits at d within = at_drop_more value_of digits at d within

pub bit_small : (digit : Digit) → digit_bit digit ≤ 1
bit_small Zero = omega arith
bit_small One = omega arith
bit_small Any = omega arith
bit_small Rise = omega arith
bit_small Fall = omega arith
bit_small Both = omega arith
bit_small Steady = omega arith

-- a number has no more bits than digits
pub value_small : (digits : List Digit) (n : ℕ) → length digits ≤ n → value_of digits < 2 ^ n
value_small [] zero few = rw pow-zero (omega arith)
value_small [] (suc n) few = let below : 0 < 2 ^ n = value_small [] n (omega arith) in rw pow-suc (omega (arith, below))
value_small (digit ∷ digits) zero few = absurd (omega (arith, few))
value_small (digit ∷ digits) (suc n) few =
    let below : value_of digits < 2 ^ n = value_small digits n (omega (arith, few)) in
    rw pow-suc (omega (arith, below, bit_small digit))
