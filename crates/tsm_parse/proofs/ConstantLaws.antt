-- The longest front of a text that is a constant.
use Rattle.std.proofs.Common.{◌≡◌, ℕ, zero, suc, ◌+◌, ◌-◌, ◌<◌, ◌≤◌, Bool, true, false, List, [], ◌∷◌, ◌++◌, length, take, drop, refl, ap, sym, ◌∙◌, subst, arith, length-drop, length-take-le, take-append-drop}
use Rattle.std.specs.Prelude.{not, ◌&&◌, ◌||◌, ◌==◌, is_some, if◌then◌else◌, Option, Some, None, option_and_then}
use Rattle.std.specs.List.{list_all, prefix_len}
use Rattle.std.proofs.Math.Seq.{take-append-add, take-length}
use Rattle.std.proofs.lemmas.List.{drop_at, drop-drop, take-take, append-nil}
use Rattle.std.proofs.lemmas.List.Sums.{prefix_len-le-length}
use Rattle.grammar.proofs.Outcomes.{no_end, cond_yes, cond_not}
use Rattle.tsm_parse.specs.declared.bytes.Base.{Base}
use Rattle.tsm_parse.specs.declared.bytes.Base.TheVariants.{Decimal}
use Rattle.tsm_parse.specs.declared.types.Constant.{Constant}
use Rattle.tsm_parse.specs.Constants.{is_digit, is_place, is_numeral, is_no_quote, before_quote, behind_quote, base_of, sized_with, sized_of}
use Rattle.tsm_parse.specs.Words.{is_constant}
use Rattle.tsm_parse.specs.Reading.{digits_more, digits_end, numeral_length, based_bytes, based_length, suffix_length, constant_length}
use Rattle.tsm_parse.proofs.TokenLaws.{apart, and_left, and_right, and_not, and_not_right, true_and, sized_none}
use Rattle.tsm_parse.proofs.FrontLaws.{IsLength, numeral_is_length}

-- What stands behind the width

abbrev pub is_based : Option Base → List ℕ → Bool
is_based None digits = false
is_based (Some base) digits = is_numeral base digits

abbrev pub is_suffix : List ℕ → Bool
is_suffix [] = false
is_suffix (quote ∷ []) = false
is_suffix (quote ∷ letter ∷ digits) = quote == 39 && is_based (base_of letter) digits

-- a front of two bytes and more
abbrev FailsBehind : ℕ → ℕ → List ℕ → ℕ → Type 0
FailsBehind q l ds n = (m : ℕ) → n < m → m ≤ length ds → is_suffix (q ∷ l ∷ take m ds) ≡ false

module _ (q l : ℕ) (ds : List ℕ) where
  none_fits : ((m : ℕ) → m ≤ length ds → is_suffix (q ∷ l ∷ take m ds) ≡ false) → IsLength is_suffix (q ∷ l ∷ ds) 0
  none_fits fails = record {
    within = omega arith;
    holds = λ some. absurd (omega (arith, some));
    longest = by_more;
  } where
    by_more : (m : ℕ) → 0 < m → m ≤ suc (suc (length ds)) → is_suffix (take m (q ∷ l ∷ ds)) ≡ false
    by_more zero more within = absurd (omega (arith, more))
    by_more (suc zero) more within = refl
    by_more (suc (suc m)) more within = fails m (omega (arith, within))

  module _ (base : Base) (quote : (q == 39) ≡ true) (letter : base_of l ≡ Some base) where
    is_based_here : (m : ℕ) → is_suffix (q ∷ l ∷ take m ds) ≡ is_numeral base (take m ds)
    is_based_here m = true_and (q == 39) (is_based (base_of l) (take m ds)) quote ∙ ap (λ o. is_based o (take m ds)) letter

    by_count : (n : ℕ) → IsLength (is_numeral base) ds n → IsLength is_suffix (q ∷ l ∷ ds) (based_bytes n)
    by_count zero h = none_fits by_digits where
      by_digits : (m : ℕ) → m ≤ length ds → is_suffix (q ∷ l ∷ take m ds) ≡ false
      by_digits zero within = is_based_here 0
      by_digits (suc m) within = is_based_here (suc m) ∙ h.longest (suc m) (omega arith) within
    by_count (suc n) h =
        let e : n + 3 ≡ suc (suc (suc n)) = omega arith in
        record {
          within = omega (arith, h.within);
          holds = λ some. ap (λ k. is_suffix (take k (q ∷ l ∷ ds))) e ∙ is_based_here (suc n) ∙ h.holds (omega arith);
          longest = by_more;
        } where
          by_more : (m : ℕ) → n + 3 < m → m ≤ suc (suc (length ds)) → is_suffix (take m (q ∷ l ∷ ds)) ≡ false
          by_more zero more within = absurd (omega (arith, more))
          by_more (suc zero) more within = absurd (omega (arith, more))
          by_more (suc (suc m)) more within = is_based_here m ∙ h.longest m (omega (arith, more)) (omega (arith, within))

  by_base : (o : Option Base) → (q == 39) ≡ true → base_of l ≡ o → IsLength is_suffix (q ∷ l ∷ ds) (based_length o ds)
  by_base None quote letter = none_fits (λ m within. and_not_right (q == 39) (is_based (base_of l) (take m ds)) (ap (λ o. is_based o (take m ds)) letter))
  by_base (Some base) quote letter = by_count base quote letter (numeral_length base ds) (numeral_is_length base ds)

  by_quote : (v : Bool) → (q == 39) ≡ v → IsLength is_suffix (q ∷ l ∷ ds) (if v then based_length (base_of l) ds else 0)
  by_quote true quote = by_base (base_of l) quote refl
  by_quote false quote = none_fits (λ m within. and_not (q == 39) (is_based (base_of l) (take m ds)) quote)

pub suffix_is_length : (text : List ℕ) → IsLength is_suffix text (suffix_length text)
suffix_is_length [] = record {
  within = omega arith;
  holds = λ some. absurd (omega (arith, some));
  longest = λ m more within. absurd (omega (arith, more, within));
}
suffix_is_length (q ∷ []) = record {
  within = omega arith;
  holds = λ some. absurd (omega (arith, some));
  longest = by_more;
} where
  by_more : (m : ℕ) → 0 < m → m ≤ 1 → is_suffix (take m (q ∷ [])) ≡ false
  by_more zero more within = absurd (omega (arith, more))
  by_more (suc zero) more within = refl
  by_more (suc (suc m)) more within = absurd (omega (arith, within))
suffix_is_length (q ∷ l ∷ ds) = by_quote q l ds (q == 39) refl

-- Before the quote stands the width

no_quote_passes : (b : ℕ) → is_place Decimal b ≡ true → is_no_quote b ≡ true
no_quote_passes b place = ap not (apart (is_place Decimal) b 39 place refl)

quote_behind : (width ys : List ℕ) → list_all (is_place Decimal) width ≡ true → prefix_len is_no_quote (width ++ ys) ≡ length width + prefix_len is_no_quote ys
quote_behind [] ys places = omega arith
quote_behind (b ∷ width) ys places =
    cond_yes (is_no_quote b) (1 + prefix_len is_no_quote (width ++ ys)) 0 (no_quote_passes b (and_left (is_place Decimal b) (list_all (is_place Decimal) width) places))
    ∙ omega (arith, quote_behind width ys (and_right (is_place Decimal b) (list_all (is_place Decimal) width) places))

is_chosen : (v : Bool) (x : Constant) → is_some (if v then Some x else None) ≡ v
is_chosen true x = refl
is_chosen false x = refl

sized_based : (width digits : List ℕ) (o : Option Base) → is_numeral Decimal width ≡ true → is_some (option_and_then (sized_with width digits) o) ≡ is_based o digits
sized_based width digits None number = refl
sized_based width digits (Some base) number =
    is_chosen (is_numeral Decimal width && is_numeral base digits) _ ∙ true_and (is_numeral Decimal width) (is_numeral base digits) number

sized_suffix : (width : List ℕ) (q : ℕ) (zs : List ℕ) → is_numeral Decimal width ≡ true → (q == 39) ≡ true → is_some (sized_of width zs) ≡ is_suffix (q ∷ zs)
sized_suffix width q [] number quote = refl
sized_suffix width q (letter ∷ digits) number quote = sized_based width digits (base_of letter) number ∙ sym (true_and (q == 39) (is_based (base_of letter) digits) quote)

no_suffix : (q : ℕ) (zs : List ℕ) → (q == 39) ≡ false → is_suffix (q ∷ zs) ≡ false
no_suffix q [] other = refl
no_suffix q (letter ∷ digits) other = and_not (q == 39) (is_based (base_of letter) digits) other

module _ (width : List ℕ) (number : is_numeral Decimal width ≡ true) where
  places : list_all (is_place Decimal) width ≡ true
  places = and_left _ _ (and_left _ _ number)

  module _ (ys : List ℕ) (only : (p : ℕ) → 0 < p → p ≤ length ys → is_numeral Decimal (width ++ take p ys) ≡ false) where
    abbrev p : ℕ
    p = prefix_len is_no_quote ys

    before_is : before_quote (width ++ ys) ≡ width ++ take p ys
    before_is = ap (λ n. take n (width ++ ys)) (quote_behind width ys places) ∙ take-append-add width ys p

    behind_is : behind_quote (width ++ ys) ≡ drop (p + 1) ys
    behind_is =
        let e : prefix_len is_no_quote (width ++ ys) + 1 ≡ length width + (p + 1) = omega (arith, quote_behind width ys places) in
        ap (λ n. drop n (width ++ ys)) e ∙ sym (drop-drop (p + 1) (length width) (width ++ ys)) ∙ ap (drop (p + 1)) (drop_at width ys (length width) refl)

    sized_there : 0 < length ys → is_constant (width ++ ys) ≡ is_some (sized_of (width ++ take p ys) (drop (p + 1) ys))
    sized_there some =
        let whole : is_numeral Decimal (width ++ ys) ≡ false = ap (λ zs. is_numeral Decimal (width ++ zs)) (sym (take-length ys)) ∙ only (length ys) some (omega arith) in
        ap is_some (cond_not _ _ _ whole ∙ (λ i. sized_of (before_is i) (behind_is i)))

  constant_suffix : (y : ℕ) (zs : List ℕ) (v : Bool) → ((p : ℕ) → 0 < p → p ≤ length (y ∷ zs) → is_numeral Decimal (width ++ take p (y ∷ zs)) ≡ false) → (y == 39) ≡ v
      → is_constant (width ++ y ∷ zs) ≡ is_suffix (y ∷ zs)
  constant_suffix y zs true only quote =
      let none : prefix_len is_no_quote (y ∷ zs) ≡ 0 = cond_not (is_no_quote y) (1 + prefix_len is_no_quote zs) 0 (ap not quote) in
      sized_there (y ∷ zs) only (omega arith)
      ∙ ap (λ n. is_some (sized_of (width ++ take n (y ∷ zs)) (drop (n + 1) (y ∷ zs)))) none
      ∙ ap (λ w. is_some (sized_of w zs)) (append-nil width)
      ∙ sized_suffix width y zs number quote
  constant_suffix y zs false only other =
      let some : prefix_len is_no_quote (y ∷ zs) ≡ 1 + prefix_len is_no_quote zs = cond_yes (is_no_quote y) (1 + prefix_len is_no_quote zs) 0 (ap not other) in
      let n = prefix_len is_no_quote (y ∷ zs) in
      let fails : is_numeral Decimal (width ++ take n (y ∷ zs)) ≡ false = only n (omega (arith, some)) (prefix_len-le-length is_no_quote (y ∷ zs)) in
      sized_there (y ∷ zs) only (omega arith)
      ∙ ap is_some (sized_none (width ++ take n (y ∷ zs)) (drop (n + 1) (y ∷ zs)) fails)
      ∙ sym (no_suffix y zs other)

-- Constants

module _ (text : List ℕ) (n : ℕ) (some : 0 < n) (width_is : IsLength (is_numeral Decimal) text n) where
  abbrev after : List ℕ
  after = drop n text

  front_on : (m : ℕ) → take (n + m) text ≡ take n text ++ take m after
  front_on m =
      let long : n ≡ length (take n text) = sym (length-take-le n text width_is.within) in
      ap (λ k. take (k + m) text) long ∙ ap (take (length (take n text) + m)) (sym (take-append-drop n text)) ∙ take-append-add (take n text) after m

  behind_fails : (m : ℕ) → 0 < m → m ≤ length after → is_numeral Decimal (take n text ++ take m after) ≡ false
  behind_fails m more within =
      ap (is_numeral Decimal) (sym (front_on m)) ∙ width_is.longest (n + m) (omega (arith, more)) (omega (arith, within, length-drop n text, width_is.within))

  -- a longer front is a constant where what follows the width is its suffix
  constant_front : (m : ℕ) → 0 < m → m ≤ length after → is_constant (take (n + m) text) ≡ is_suffix (take m after)
  constant_front m more within =
      ap is_constant (front_on m) ∙ by_bytes (take m after) refl where
        fronts : (p : ℕ) → 0 < p → p ≤ length (take m after) → is_numeral Decimal (take n text ++ take p (take m after)) ≡ false
        fronts p some_bytes inside =
            let long : length (take m after) ≡ m = length-take-le m after within in
            ap (λ zs. is_numeral Decimal (take n text ++ zs)) (take-take p m after (omega (arith, inside, long))) ∙ behind_fails p some_bytes (omega (arith, inside, long, within))

        by_bytes : (ys : List ℕ) → take m after ≡ ys → is_constant (take n text ++ ys) ≡ is_suffix ys
        by_bytes [] is = absurd (omega (arith, more, ap length is, length-take-le m after within))
        by_bytes (y ∷ zs) is =
            constant_suffix (take n text) (width_is.holds some) y zs (y == 39) (subst (λ l. (p : ℕ) → 0 < p → p ≤ length l → is_numeral Decimal (take n text ++ take p l) ≡ false) is fronts) refl

  width_alone : is_constant (take n text) ≡ true
  width_alone = ap is_some (cond_yes _ _ _ (width_is.holds some))

  constant_longer : (s : ℕ) → IsLength is_suffix after s → IsLength is_constant text (n + s)
  constant_longer s suffix = record {
    within = omega (arith, suffix.within, length-drop n text, width_is.within);
    holds = λ here. by_suffix s suffix;
    longest = λ m more within.
        let e : m ≡ n + (m - n) = omega (arith, more) in
        ap (λ k. is_constant (take k text)) e
        ∙ constant_front (m - n) (omega (arith, more)) (omega (arith, within, length-drop n text))
        ∙ suffix.longest (m - n) (omega (arith, more)) (omega (arith, within, length-drop n text));
  } where
    by_suffix : (s : ℕ) → IsLength is_suffix after s → is_constant (take (n + s) text) ≡ true
    by_suffix zero suffix = let e : n + 0 ≡ n = omega arith in ap (λ k. is_constant (take k text)) e ∙ width_alone
    by_suffix (suc s) suffix = constant_front (suc s) (omega arith) suffix.within ∙ suffix.holds (omega arith)

-- a digit alone is a numeral
numeral_some : (b : ℕ) (xs : List ℕ) → is_digit Decimal b ≡ true → 0 < numeral_length Decimal (b ∷ xs)
numeral_some b xs digit =
    let begun : numeral_length Decimal (b ∷ xs) ≡ digits_end Decimal (b ∷ xs) = cond_yes _ _ _ digit in
    let place : digits_end Decimal (b ∷ xs) ≡ digits_more (is_digit Decimal b) (digits_end Decimal xs) = cond_yes _ _ _ (either (is_digit Decimal b) (b == 95) digit) in
    omega (arith, begun, place, more_some (is_digit Decimal b) (digits_end Decimal xs) digit) where
      either : (u v : Bool) → u ≡ true → (u || v) ≡ true
      either true v e = refl
      either false v e = absurd (no_end e)

      more_some : (digit : Bool) (n : ℕ) → digit ≡ true → 0 < digits_more digit n
      more_some true zero e = omega arith
      more_some true (suc n) e = omega arith
      more_some false n e = absurd (no_end e)

pub constant_some : (b : ℕ) (xs : List ℕ) → is_digit Decimal b ≡ true → 0 < constant_length (b ∷ xs)
constant_some b xs digit = omega (arith, numeral_some b xs digit)

pub constant_is_length : (b : ℕ) (xs : List ℕ) → is_digit Decimal b ≡ true → IsLength is_constant (b ∷ xs) (constant_length (b ∷ xs))
constant_is_length b xs digit =
    let n = numeral_length Decimal (b ∷ xs) in
    constant_longer (b ∷ xs) n (numeral_some b xs digit) (numeral_is_length Decimal (b ∷ xs)) (suffix_length (drop n (b ∷ xs))) (suffix_is_length (drop n (b ∷ xs)))
