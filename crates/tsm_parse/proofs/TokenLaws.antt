-- Which tokens a text begins with, by its first byte.
use Rattle.std.proofs.Common.{◌≡◌, ℕ, zero, suc, ◌+◌, ◌<◌, ◌≤◌, Bool, true, false, List, [], ◌∷◌, length, take, refl, ap, sym, ◌∙◌, arith}
use Rattle.std.specs.Prelude.{cond, ◌&&◌, ◌||◌, ◌==◌, nat_le, is_some, Option, Some, None, option_and_then}
use Rattle.std.specs.List.{list_all, prefix_len}
use Rattle.std.proofs.lemmas.Bool.{eqb-true, leb-true, lt-leb}
use Rattle.grammar.proofs.Outcomes.{no_end, cond_not}
use Rattle.tsm_parse.specs.declared.bytes.Base.{Base}
use Rattle.tsm_parse.specs.declared.bytes.Base.TheVariants.{Decimal}
use Rattle.tsm_parse.specs.Constants as constants
use Rattle.ila_base.specs.Bytes.{is_between, is_letter, is_digit, is_word_byte}
use Rattle.tsm_parse.specs.Constants.{constant_of, is_numeral, is_no_quote, before_quote, behind_quote, sized_of, sized_with, base_of, is_place, passes_at}
use Rattle.tsm_parse.specs.Words.{is_word, is_register, is_constant, is_mark, is_token}

-- Tests

-- a byte that passes a test isn't one that doesn't
by_same : (test : ℕ → Bool) (b k : ℕ) (v : Bool) → (b == k) ≡ v → test b ≡ true → test k ≡ false → v ≡ false
by_same test b k true is holds fails = absurd (no_end (sym fails ∙ ap test (sym (eqb-true b k is)) ∙ holds))
by_same test b k false is holds fails = refl

pub apart : (test : ℕ → Bool) (b k : ℕ) → test b ≡ true → test k ≡ false → (b == k) ≡ false
apart test b k holds fails = by_same test b k (b == k) refl holds fails

pub and_left : (a b : Bool) → (a && b) ≡ true → a ≡ true
and_left true b e = refl
and_left false b e = e

pub and_right : (a b : Bool) → (a && b) ≡ true → b ≡ true
and_right true b e = e
and_right false b e = absurd (no_end e)

pub and_not : (a b : Bool) → a ≡ false → (a && b) ≡ false
and_not true b e = absurd (no_end (sym e))
and_not false b e = refl

pub and_not_right : (a b : Bool) → b ≡ false → (a && b) ≡ false
and_not_right true b e = e
and_not_right false b e = refl

pub or_not : (a b : Bool) → a ≡ false → b ≡ false → (a || b) ≡ false
or_not true b e f = absurd (no_end (sym e))
or_not false b e f = f

-- a digit is no letter
pub digit_no_letter : (b : ℕ) → is_digit b ≡ true → is_letter b ≡ false
digit_no_letter b digit =
    let high : b ≤ 57 = leb-true b 57 (and_right (nat_le 48 b) (nat_le b 57) digit) in
    let small : is_between 97 122 b ≡ false = and_not (nat_le 97 b) (nat_le b 122) (lt-leb 97 b (omega (arith, high))) in
    let capital : is_between 65 90 b ≡ false = and_not (nat_le 65 b) (nat_le b 90) (lt-leb 65 b (omega (arith, high))) in
    or_not (is_between 97 122 b || is_between 65 90 b) (b == 95) (or_not (is_between 97 122 b) (is_between 65 90 b) small capital) (apart is_digit b 95 digit refl)

-- No constant begins without a digit

pub numeral_begins : (base : Base) (bytes : List ℕ) → passes_at (constants.is_digit base) bytes 0 ≡ false → is_numeral base bytes ≡ false
numeral_begins base bytes fails = and_not _ _ (and_not_right (list_all (is_place base) bytes) _ fails)

sized_with_none : (width digits : List ℕ) (base : Option Base) → is_numeral Decimal width ≡ false → option_and_then (sized_with width digits) base ≡ None
sized_with_none width digits None fails = refl
sized_with_none width digits (Some base) fails = cond_not _ _ _ (and_not (is_numeral Decimal width) (is_numeral base digits) fails)

pub sized_none : (width ys : List ℕ) → is_numeral Decimal width ≡ false → sized_of width ys ≡ None
sized_none width [] fails = refl
sized_none width (letter ∷ digits) fails = sized_with_none width digits (base_of letter) fails

pub take_one : {X : Type 0} (n : ℕ) (x : X) (xs : List X) → take (1 + n) (x ∷ xs) ≡ x ∷ take n xs
take_one n x xs = let e : 1 + n ≡ suc n = omega arith in ap (λ k. take k (x ∷ xs)) e

before_begins : (b : ℕ) (xs : List ℕ) (n : ℕ) (v : Bool) → is_digit b ≡ false → passes_at (constants.is_digit Decimal) (take (cond v (1 + n) 0) (b ∷ xs)) 0 ≡ false
before_begins b xs n true fails = ap (λ ys. passes_at (constants.is_digit Decimal) ys 0) (take_one n b xs) ∙ fails
before_begins b xs n false fails = refl

pub no_constant : (b : ℕ) (xs : List ℕ) → is_digit b ≡ false → is_constant (b ∷ xs) ≡ false
no_constant b xs fails =
    let whole : is_numeral Decimal (b ∷ xs) ≡ false = numeral_begins Decimal (b ∷ xs) fails in
    let width : is_numeral Decimal (before_quote (b ∷ xs)) ≡ false =
    numeral_begins Decimal (before_quote (b ∷ xs)) (before_begins b xs (prefix_len is_no_quote xs) (is_no_quote b) fails) in
    ap is_some (cond_not _ _ _ whole ∙ sized_none (before_quote (b ∷ xs)) (behind_quote (b ∷ xs)) width)

-- No mark begins with another byte

pub no_mark : (test : ℕ → Bool) (b : ℕ) (xs : List ℕ) → test b ≡ true → test 58 ≡ false → test 59 ≡ false → test 40 ≡ false → test 41 ≡ false → test 60 ≡ false → test 62 ≡ false
    → test 61 ≡ false → test 33 ≡ false → test 38 ≡ false → test 124 ≡ false → is_mark (b ∷ xs) ≡ false
no_mark test b [] holds f58 f59 f40 f41 f60 f62 f61 f33 f38 f124 =
    or_not _ _ (or_not _ _ (or_not _ _ (or_not _ _ (or_not _ _ (apart test b 58 holds f58) (apart test b 59 holds f59)) (apart test b 40 holds f40)) (apart test b 41 holds f41)) (apart test b 60 holds f60)) (apart test b 62 holds f62)
no_mark test b (c ∷ []) holds f58 f59 f40 f41 f60 f62 f61 f33 f38 f124 =
    or_not _ _ (or_not _ _ (or_not _ _ (or_not _ _ (or_not _ _ (and_not _ _ (apart test b 61 holds f61)) (and_not _ _ (apart test b 33 holds f33))) (and_not _ _ (apart test b 60 holds f60))) (and_not _ _ (apart test b 62 holds f62))) (and_not _ _ (apart test b 38 holds f38))) (and_not _ _ (apart test b 124 holds f124))
no_mark test b (c ∷ d ∷ xs) holds f58 f59 f40 f41 f60 f62 f61 f33 f38 f124 = refl

-- Which tokens there are, by the first byte

first_of_four : (w r c m : Bool) → r ≡ false → c ≡ false → m ≡ false → (w || r || c || m) ≡ w
first_of_four true r c m no_r no_c no_m = refl
first_of_four false r c m no_r no_c no_m = or_not (r || c) m (or_not r c no_r no_c) no_m

second_of_four : (w r c m : Bool) → w ≡ false → c ≡ false → m ≡ false → (w || r || c || m) ≡ r
second_of_four true r c m no_w no_c no_m = absurd (no_end (sym no_w))
second_of_four false true c m no_w no_c no_m = refl
second_of_four false false c m no_w no_c no_m = or_not c m no_c no_m

third_of_four : (w r c m : Bool) → w ≡ false → r ≡ false → m ≡ false → (w || r || c || m) ≡ c
third_of_four true r c m no_w no_r no_m = absurd (no_end (sym no_w))
third_of_four false true c m no_w no_r no_m = absurd (no_end (sym no_r))
third_of_four false false true m no_w no_r no_m = refl
third_of_four false false false m no_w no_r no_m = no_m

fourth_of_four : (w r c m : Bool) → w ≡ false → r ≡ false → c ≡ false → (w || r || c || m) ≡ m
fourth_of_four true r c m no_w no_r no_c = absurd (no_end (sym no_w))
fourth_of_four false true c m no_w no_r no_c = absurd (no_end (sym no_r))
fourth_of_four false false true m no_w no_r no_c = absurd (no_end (sym no_c))
fourth_of_four false false false m no_w no_r no_c = refl

pub true_and : (a b : Bool) → a ≡ true → (a && b) ≡ b
true_and true b e = refl
true_and false b e = absurd (no_end e)

pub letter_token : (b : ℕ) (xs : List ℕ) → is_digit b ≡ false → is_letter b ≡ true → is_token (b ∷ xs) ≡ list_all is_word_byte xs
letter_token b xs no_digit letter =
    first_of_four (is_word (b ∷ xs)) (is_register (b ∷ xs)) (is_constant (b ∷ xs)) (is_mark (b ∷ xs))
    (and_not (b == 36) (is_word xs) (apart is_letter b 36 letter refl)) (no_constant b xs no_digit)
    (no_mark is_letter b xs letter refl refl refl refl refl refl refl refl refl refl)
    ∙ true_and (is_letter b) (list_all is_word_byte xs) letter

no_dollar_mark : (xs : List ℕ) → is_mark (36 ∷ xs) ≡ false
no_dollar_mark [] = refl
no_dollar_mark (c ∷ []) = refl
no_dollar_mark (c ∷ d ∷ xs) = refl

pub register_token : (xs : List ℕ) → is_token (36 ∷ xs) ≡ is_word xs
register_token xs = second_of_four (is_word (36 ∷ xs)) (is_register (36 ∷ xs)) (is_constant (36 ∷ xs)) (is_mark (36 ∷ xs)) refl (no_constant 36 xs refl) (no_dollar_mark xs)

pub digit_token : (b : ℕ) (xs : List ℕ) → is_digit b ≡ true → is_token (b ∷ xs) ≡ is_constant (b ∷ xs)
digit_token b xs digit =
    third_of_four (is_word (b ∷ xs)) (is_register (b ∷ xs)) (is_constant (b ∷ xs)) (is_mark (b ∷ xs))
    (and_not (is_letter b) (list_all is_word_byte xs) (digit_no_letter b digit)) (and_not (b == 36) (is_word xs) (apart is_digit b 36 digit refl))
    (no_mark is_digit b xs digit refl refl refl refl refl refl refl refl refl refl)

pub mark_token : (b : ℕ) (xs : List ℕ) → is_digit b ≡ false → is_letter b ≡ false → (b == 36) ≡ false → is_token (b ∷ xs) ≡ is_mark (b ∷ xs)
mark_token b xs no_digit no_letter no_dollar =
    fourth_of_four (is_word (b ∷ xs)) (is_register (b ∷ xs)) (is_constant (b ∷ xs)) (is_mark (b ∷ xs))
    (and_not (is_letter b) (list_all is_word_byte xs) no_letter) (and_not (b == 36) (is_word xs) no_dollar) (no_constant b xs no_digit)

-- Longest fronts

-- of a list the longest front whose elements all pass has the length of the prefix
pub front_passes : (test : ℕ → Bool) (xs : List ℕ) → list_all test (take (prefix_len test xs) xs) ≡ true
front_passes test [] = refl
front_passes test (x ∷ xs) = by_test (test x) refl (front_passes test xs) where
  by_test : (v : Bool) → test x ≡ v → list_all test (take (prefix_len test xs) xs) ≡ true → list_all test (take (cond v (1 + prefix_len test xs) 0) (x ∷ xs)) ≡ true
  by_test true is e = ap (list_all test) (take_one (prefix_len test xs) x xs) ∙ true_and (test x) (list_all test (take (prefix_len test xs) xs)) is ∙ e
  by_test false is e = refl

pub longer_fails : (test : ℕ → Bool) (xs : List ℕ) (m : ℕ) → prefix_len test xs < m → m ≤ length xs → list_all test (take m xs) ≡ false
longer_fails test xs zero more within = absurd (omega (arith, more))
longer_fails test [] (suc m) more within = absurd (omega (arith, within))
longer_fails test (x ∷ xs) (suc m) more within = by_test (test x) refl more (λ less. longer_fails test xs m less (omega (arith, within))) where
  by_test : (v : Bool) → test x ≡ v → cond v (1 + prefix_len test xs) 0 < suc m → (prefix_len test xs < m → list_all test (take m xs) ≡ false) → list_all test (take (suc m) (x ∷ xs)) ≡ false
  by_test true is less rest = and_not_right (test x) (list_all test (take m xs)) (rest (omega (arith, less)))
  by_test false is less rest = and_not (test x) (list_all test (take m xs)) is
