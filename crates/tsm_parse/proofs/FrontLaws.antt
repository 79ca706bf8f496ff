-- The longest front of a text that passes a test: numerals and constants.
use Rattle.std.proofs.Common.{◌≡◌, ℕ, zero, suc, ◌+◌, ◌-◌, ◌<◌, ◌≤◌, Bool, true, false, List, [], ◌∷◌, length, take, refl, ap, ◌∙◌, arith}
use Rattle.std.specs.Prelude.{◌&&◌, if◌then◌else◌}
use Rattle.std.specs.List.{list_all}
use Rattle.grammar.proofs.Outcomes.{no_end}
use Rattle.tsm_parse.specs.declared.bytes.Base.{Base}
use Rattle.tsm_parse.specs.Constants.{is_digit, is_place, is_numeral, passes_at}
use Rattle.tsm_parse.specs.Reading.{digits_more, digits_end, numeral_length}
use Rattle.tsm_parse.proofs.TokenLaws.{and_right, and_left, and_not, and_not_right}

-- the front of so many bytes passes the test, if it has bytes, and no longer front does
pub record IsLength (test : List ℕ → Bool) (text : List ℕ) (count : ℕ) : Type 0 where
  pub within : count ≤ length text
  pub holds : 0 < count → test (take count text) ≡ true
  pub longest : (more : ℕ) → count < more → more ≤ length text → test (take more text) ≡ false

-- a list ends in what passes
abbrev pub ends_as : (ℕ → Bool) → List ℕ → Bool
ends_as test [] = false
ends_as test (x ∷ []) = test x
ends_as test (x ∷ y ∷ ys) = ends_as test (y ∷ ys)

pub last_passes : (test : ℕ → Bool) (x : ℕ) (xs : List ℕ) → passes_at test (x ∷ xs) (length xs) ≡ ends_as test (x ∷ xs)
last_passes test x [] = refl
last_passes test x (y ∷ ys) = last_passes test y ys

ends_more : (test : ℕ → Bool) (x : ℕ) (ys : List ℕ) → ends_as test ys ≡ true → ends_as test (x ∷ ys) ≡ true
ends_more test x [] ends = absurd (no_end ends)
ends_more test x (y ∷ ys) ends = ends

-- digits and `_`, of which the last is a digit
abbrev pub is_ending : Base → List ℕ → Bool
is_ending base bytes = list_all (is_place base) bytes && ends_as (is_digit base) bytes

both : (a b : Bool) → a ≡ true → b ≡ true → (a && b) ≡ true
both true b e f = f
both false b e f = absurd (no_end e)

-- one more place before what ends in a digit
module _ (base : Base) (x : ℕ) where
  ending_more : (ys : List ℕ) → is_place base x ≡ true → is_ending base ys ≡ true → is_ending base (x ∷ ys) ≡ true
  ending_more ys place ending =
      both (is_place base x && list_all (is_place base) ys) (ends_as (is_digit base) (x ∷ ys))
      (both (is_place base x) (list_all (is_place base) ys) place (and_left (list_all (is_place base) ys) (ends_as (is_digit base) ys) ending))
      (ends_more (is_digit base) x ys (and_right (list_all (is_place base) ys) (ends_as (is_digit base) ys) ending))

  ending_not : (y : ℕ) (ys : List ℕ) → is_ending base (y ∷ ys) ≡ false → is_ending base (x ∷ y ∷ ys) ≡ false
  ending_not y ys fails = by_place (is_place base x) fails where
    by_place : (v : Bool) → is_ending base (y ∷ ys) ≡ false → ((v && list_all (is_place base) (y ∷ ys)) && ends_as (is_digit base) (y ∷ ys)) ≡ false
    by_place true f = f
    by_place false f = refl

  no_place : (ys : List ℕ) → is_place base x ≡ false → is_ending base (x ∷ ys) ≡ false
  no_place ys fails = and_not (is_place base x && list_all (is_place base) ys) (ends_as (is_digit base) (x ∷ ys)) (and_not (is_place base x) (list_all (is_place base) ys) fails)

  no_digit : is_digit base x ≡ false → is_ending base (x ∷ []) ≡ false
  no_digit fails = and_not_right (is_place base x && true) (is_digit base x) fails

  -- longer fronts fail by what is behind the first byte
  front_not : (xs : List ℕ) (m : ℕ) → 0 < m → m ≤ length xs → is_ending base (take m xs) ≡ false → is_ending base (x ∷ take m xs) ≡ false
  front_not xs zero some within fails = absurd (omega (arith, some))
  front_not [] (suc m) some within fails = absurd (omega (arith, within))
  front_not (y ∷ ys) (suc m) some within fails = ending_not y (take m ys) fails

  module _ (xs : List ℕ) (n : ℕ) (behind : IsLength (is_ending base) xs n) where
    fails_behind : (m : ℕ) → n < m → m ≤ length xs → is_ending base (x ∷ take m xs) ≡ false
    fails_behind m more within = front_not xs m (omega (arith, more)) within (behind.longest m more within)

    abbrev Here : ℕ → Type 0
    Here k = IsLength (is_ending base) (x ∷ xs) k

    place_fails : is_place base x ≡ false → Here 0
    place_fails fails = record {
      within = omega arith;
      holds = λ some. absurd (omega (arith, some));
      longest = by_more;
    } where
      by_more : (m : ℕ) → 0 < m → m ≤ suc (length xs) → is_ending base (take m (x ∷ xs)) ≡ false
      by_more zero more within = absurd (omega (arith, more))
      by_more (suc m) more within = no_place (take m xs) fails

  -- behind the first byte some bytes are taken
  some_behind : (xs : List ℕ) (n : ℕ) → IsLength (is_ending base) xs (suc n) → is_place base x ≡ true → IsLength (is_ending base) (x ∷ xs) (n + 2)
  some_behind xs n behind place =
      let e : n + 2 ≡ suc (suc n) = omega arith in
      record {
        within = omega (arith, behind.within);
        holds = λ some. ap (λ k. is_ending base (take k (x ∷ xs))) e ∙ ending_more (take (suc n) xs) place (behind.holds (omega arith));
        longest = by_more;
      } where
        by_more : (m : ℕ) → n + 2 < m → m ≤ suc (length xs) → is_ending base (take m (x ∷ xs)) ≡ false
        by_more zero more within = absurd (omega (arith, more))
        by_more (suc m) more within = fails_behind xs (suc n) behind m (omega (arith, more)) (omega (arith, within))

  none_behind : (xs : List ℕ) (v : Bool) → IsLength (is_ending base) xs 0 → is_place base x ≡ true → is_digit base x ≡ v → IsLength (is_ending base) (x ∷ xs) (if v then 1 else 0)
  none_behind xs true behind place digit = record {
    within = omega arith;
    holds = λ some. both (is_place base x && true) (is_digit base x) (both (is_place base x) true place refl) digit;
    longest = by_more;
  } where
    by_more : (m : ℕ) → 1 < m → m ≤ suc (length xs) → is_ending base (take m (x ∷ xs)) ≡ false
    by_more zero more within = absurd (omega (arith, more))
    by_more (suc m) more within = fails_behind xs 0 behind m (omega (arith, more)) (omega (arith, within))
  none_behind xs false behind place digit = record {
    within = omega arith;
    holds = λ some. absurd (omega (arith, some));
    longest = by_more;
  } where
    by_more : (m : ℕ) → 0 < m → m ≤ suc (length xs) → is_ending base (take m (x ∷ xs)) ≡ false
    by_more zero more within = absurd (omega (arith, more))
    by_more (suc zero) more within = no_digit digit
    by_more (suc (suc m)) more within = fails_behind xs 0 behind (suc m) (omega arith) (omega (arith, within))

  one_place : (xs : List ℕ) (n : ℕ) → IsLength (is_ending base) xs n → is_place base x ≡ true → IsLength (is_ending base) (x ∷ xs) (digits_more (is_digit base x) n)
  one_place xs zero behind place = none_behind xs (is_digit base x) behind place refl
  one_place xs (suc n) behind place = some_behind xs n behind place

  one_byte : (xs : List ℕ) (n : ℕ) (v : Bool) → IsLength (is_ending base) xs n → is_place base x ≡ v → IsLength (is_ending base) (x ∷ xs) (if v then digits_more (is_digit base x) n else 0)
  one_byte xs n true behind place = one_place xs n behind place
  one_byte xs n false behind place = place_fails xs n behind place

pub ending_length : (base : Base) (text : List ℕ) → IsLength (is_ending base) text (digits_end base text)
ending_length base [] = record {
  within = omega arith;
  holds = λ some. absurd (omega (arith, some));
  longest = λ m more within. absurd (omega (arith, more, within));
}
ending_length base (x ∷ xs) = one_byte base x xs (digits_end base xs) (is_place base x) (ending_length base xs) refl

-- A numeral begins with a digit, too

pub numeral_is : (base : Base) (x : ℕ) (xs : List ℕ) → is_numeral base (x ∷ xs) ≡ (is_digit base x && is_ending base (x ∷ xs))
numeral_is base x xs =
    let end : length (x ∷ xs) - 1 ≡ length xs = omega arith in
    ap (λ k. list_all (is_place base) (x ∷ xs) && is_digit base x && passes_at (is_digit base) (x ∷ xs) k) end
    ∙ ap (λ v. list_all (is_place base) (x ∷ xs) && is_digit base x && v) (last_passes (is_digit base) x xs)
    ∙ turned (list_all (is_place base) (x ∷ xs)) (is_digit base x) (ends_as (is_digit base) (x ∷ xs)) where
      turned : (a b c : Bool) → (a && b && c) ≡ (b && (a && c))
      turned true b c = refl
      turned false true c = refl
      turned false false c = refl

numeral_front : (base : Base) (x : ℕ) (xs : List ℕ) (m : ℕ) → 0 < m → is_numeral base (take m (x ∷ xs)) ≡ (is_digit base x && is_ending base (take m (x ∷ xs)))
numeral_front base x xs zero some = absurd (omega (arith, some))
numeral_front base x xs (suc m) some = numeral_is base x (take m xs)

begun_length : (base : Base) (x : ℕ) (xs : List ℕ) (v : Bool) → is_digit base x ≡ v → IsLength (is_numeral base) (x ∷ xs) (if v then digits_end base (x ∷ xs) else 0)
begun_length base x xs true digit =
    let ending : IsLength (is_ending base) (x ∷ xs) (digits_end base (x ∷ xs)) = ending_length base (x ∷ xs) in
    record {
      within = ending.within;
      holds = λ some. numeral_front base x xs (digits_end base (x ∷ xs)) some ∙ both (is_digit base x) _ digit (ending.holds some);
      longest = λ m more within. numeral_front base x xs m (omega (arith, more)) ∙ and_not_right (is_digit base x) _ (ending.longest m more within);
    }
begun_length base x xs false digit = record {
  within = omega arith;
  holds = λ some. absurd (omega (arith, some));
  longest = λ m more within. numeral_front base x xs m more ∙ and_not (is_digit base x) _ digit;
}

pub numeral_is_length : (base : Base) (text : List ℕ) → IsLength (is_numeral base) text (numeral_length base text)
numeral_is_length base [] = record {
  within = omega arith;
  holds = λ some. absurd (omega (arith, some));
  longest = λ m more within. absurd (omega (arith, more, within));
}
numeral_is_length base (x ∷ xs) = begun_length base x xs (is_digit base x) refl
