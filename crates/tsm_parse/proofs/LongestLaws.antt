-- The longest token that a text begins with, and what it is to the grammar.
use Rattle.std.proofs.Common.{◌≡◌, ℕ, zero, suc, ◌+◌, ◌<◌, ◌≤◌, Bool, true, false, List, [], ◌∷◌, length, take, refl, ap, sym, ◌∙◌, subst, arith}
use Rattle.std.specs.Prelude.{◌||◌, ◌==◌, if◌then◌else◌}
use Rattle.std.specs.List.{list_all, prefix_len}
use Rattle.std.proofs.lemmas.Bool.{eqb-true}
use Rattle.std.proofs.lemmas.List.Sums.{prefix_len-le-length}
use Rattle.grammar.proofs.Outcomes.{no_end, cond_yes, cond_not}
use Rattle.tsm_parse.specs.declared.token.Sort.TheVariants.{Register, Constant}
use Rattle.ila_base.specs.Bytes.{is_letter, is_digit, is_word_byte}
use Rattle.tsm_parse.specs.Words.{is_word, is_register, is_constant, is_single, is_double, is_mark, is_token, word_sort, mark_sort, sort_of}
use Rattle.tsm_parse.specs.Reading.{constant_length, register_length, mark_length, token_length, sort_at}
use Rattle.tsm_parse.proofs.TokenLaws.{apart, and_not, true_and, take_one, digit_no_letter, no_constant, letter_token, register_token, digit_token, mark_token, front_passes, longer_fails}
use Rattle.tsm_parse.proofs.FrontLaws.{IsLength}
use Rattle.tsm_parse.proofs.ConstantLaws.{constant_is_length}

-- two tests that agree on fronts agree on the length
same_length : (f g : List ℕ → Bool) (text : List ℕ) (n : ℕ) → ((m : ℕ) → 0 < m → f (take m text) ≡ g (take m text)) → IsLength g text n → IsLength f text n
same_length f g text n same length_is = record {
  within = length_is.within;
  holds = λ some. same n some ∙ length_is.holds some;
  longest = λ m more within. same m (omega (arith, more)) ∙ length_is.longest m more within;
}

-- Words

module _ (b : ℕ) (xs : List ℕ) where
  word_begun : is_letter b ≡ true → is_word_byte b ≡ true
  word_begun letter = ap (λ v. v || is_digit b) letter

  word_front : (m : ℕ) → is_digit b ≡ false → is_letter b ≡ true → is_token (b ∷ take m xs) ≡ list_all is_word_byte (take m xs)
  word_front m no_digit letter = letter_token b (take m xs) no_digit letter

  word_is_length : is_digit b ≡ false → is_letter b ≡ true → IsLength is_token (b ∷ xs) (prefix_len is_word_byte (b ∷ xs))
  word_is_length no_digit letter =
      let p = prefix_len is_word_byte xs in
      let begun : prefix_len is_word_byte (b ∷ xs) ≡ 1 + p = cond_yes _ _ _ (word_begun letter) in
      record {
        within = prefix_len-le-length is_word_byte (b ∷ xs);
        holds = λ some. ap (λ n. is_token (take n (b ∷ xs))) begun ∙ ap is_token (take_one p b xs) ∙ word_front p no_digit letter ∙ front_passes is_word_byte xs;
        longest = λ m more within. by_more m (omega (arith, begun, more)) within;
      } where
        by_more : (m : ℕ) → 1 + prefix_len is_word_byte xs < m → m ≤ suc (length xs) → is_token (take m (b ∷ xs)) ≡ false
        by_more zero more within = absurd (omega (arith, more))
        by_more (suc m) more within = word_front m no_digit letter ∙ longer_fails is_word_byte xs m (omega (arith, more)) (omega (arith, within))

-- Registers

register_front : (xs : List ℕ) (m : ℕ) → is_token (36 ∷ take m xs) ≡ is_word (take m xs)
register_front xs m = register_token (take m xs)

no_register : (xs : List ℕ) → ((m : ℕ) → m ≤ length xs → is_word (take m xs) ≡ false) → IsLength is_token (36 ∷ xs) 0
no_register xs fails = record {
  within = omega arith;
  holds = λ some. absurd (omega (arith, some));
  longest = by_more;
} where
  by_more : (m : ℕ) → 0 < m → m ≤ suc (length xs) → is_token (take m (36 ∷ xs)) ≡ false
  by_more zero more within = absurd (omega (arith, more))
  by_more (suc m) more within = register_front xs m ∙ fails m (omega (arith, within))

letter_behind : (c : ℕ) (ys : List ℕ) (v : Bool) → is_letter c ≡ v → IsLength is_token (36 ∷ c ∷ ys) (if v then 1 + prefix_len is_word_byte (c ∷ ys) else 0)
letter_behind c ys true letter =
    let p = prefix_len is_word_byte ys in
    let begun : 1 + prefix_len is_word_byte (c ∷ ys) ≡ suc (suc p) = ap (λ n. 1 + n) (cond_yes _ _ _ (word_begun c ys letter)) ∙ omega arith in
    record {
      within = omega (arith, prefix_len-le-length is_word_byte (c ∷ ys));
      holds = λ some. ap (λ n. is_token (take n (36 ∷ c ∷ ys))) begun ∙ register_front (c ∷ ys) (suc p) ∙ true_and (is_letter c) (list_all is_word_byte (take p ys)) letter ∙ front_passes is_word_byte ys;
      longest = λ m more within. by_more m (omega (arith, begun, more)) within;
    } where
      by_more : (m : ℕ) → suc (suc (prefix_len is_word_byte ys)) < m → m ≤ suc (suc (length ys)) → is_token (take m (36 ∷ c ∷ ys)) ≡ false
      by_more zero more within = absurd (omega (arith, more))
      by_more (suc zero) more within = absurd (omega (arith, more))
      by_more (suc (suc m)) more within =
          register_front (c ∷ ys) (suc m) ∙ true_and (is_letter c) (list_all is_word_byte (take m ys)) letter ∙ longer_fails is_word_byte ys m (omega (arith, more)) (omega (arith, within))
letter_behind c ys false other = no_register (c ∷ ys) by_word where
  by_word : (m : ℕ) → m ≤ suc (length ys) → is_word (take m (c ∷ ys)) ≡ false
  by_word zero within = refl
  by_word (suc m) within = and_not (is_letter c) (list_all is_word_byte (take m ys)) other

register_is_length : (xs : List ℕ) → IsLength is_token (36 ∷ xs) (register_length xs)
register_is_length [] = no_register [] by_word where
  by_word : (m : ℕ) → m ≤ 0 → is_word (take m []) ≡ false
  by_word zero within = refl
  by_word (suc m) within = absurd (omega (arith, within))
register_is_length (c ∷ ys) = letter_behind c ys (is_letter c) refl

dollar_is_length : (b : ℕ) (xs : List ℕ) → (b == 36) ≡ true → IsLength is_token (b ∷ xs) (register_length xs)
dollar_is_length b xs dollar = subst (λ k. IsLength is_token (k ∷ xs) (register_length xs)) (sym (eqb-true b 36 dollar)) (register_is_length xs)

-- Marks

single_is_length : (b : ℕ) (v : Bool) → is_single b ≡ v → IsLength is_mark (b ∷ []) (if v then 1 else 0)
single_is_length b true single = record {
  within = omega arith;
  holds = λ some. single;
  longest = λ m more within. absurd (omega (arith, more, within));
}
single_is_length b false other = record {
  within = omega arith;
  holds = λ some. absurd (omega (arith, some));
  longest = by_more;
} where
  by_more : (m : ℕ) → 0 < m → m ≤ 1 → is_mark (take m (b ∷ [])) ≡ false
  by_more zero more within = absurd (omega (arith, more))
  by_more (suc zero) more within = other
  by_more (suc (suc m)) more within = absurd (omega (arith, within))

-- no mark has three bytes
three_fail : (b c : ℕ) (ds : List ℕ) (m : ℕ) → 0 < m → m ≤ length ds → is_mark (b ∷ c ∷ take m ds) ≡ false
three_fail b c ds zero more within = absurd (omega (arith, more))
three_fail b c [] (suc m) more within = absurd (omega (arith, within))
three_fail b c (d ∷ ds) (suc m) more within = refl

double_is_length : (b c : ℕ) (ds : List ℕ) (v w : Bool) → is_double b c ≡ v → is_single b ≡ w → IsLength is_mark (b ∷ c ∷ ds) (if v then 2 else (if w then 1 else 0))
double_is_length b c ds true w double single = record {
  within = omega arith;
  holds = λ some. double;
  longest = by_more;
} where
  by_more : (m : ℕ) → 2 < m → m ≤ suc (suc (length ds)) → is_mark (take m (b ∷ c ∷ ds)) ≡ false
  by_more zero more within = absurd (omega (arith, more))
  by_more (suc zero) more within = absurd (omega (arith, more))
  by_more (suc (suc m)) more within = three_fail b c ds m (omega (arith, more)) (omega (arith, within))
double_is_length b c ds false true double single = record {
  within = omega arith;
  holds = λ some. single;
  longest = by_more;
} where
  by_more : (m : ℕ) → 1 < m → m ≤ suc (suc (length ds)) → is_mark (take m (b ∷ c ∷ ds)) ≡ false
  by_more zero more within = absurd (omega (arith, more))
  by_more (suc zero) more within = absurd (omega (arith, more))
  by_more (suc (suc zero)) more within = double
  by_more (suc (suc (suc m))) more within = three_fail b c ds (suc m) (omega arith) (omega (arith, within))
double_is_length b c ds false false double single = record {
  within = omega arith;
  holds = λ some. absurd (omega (arith, some));
  longest = by_more;
} where
  by_more : (m : ℕ) → 0 < m → m ≤ suc (suc (length ds)) → is_mark (take m (b ∷ c ∷ ds)) ≡ false
  by_more zero more within = absurd (omega (arith, more))
  by_more (suc zero) more within = single
  by_more (suc (suc zero)) more within = double
  by_more (suc (suc (suc m))) more within = three_fail b c ds (suc m) (omega arith) (omega (arith, within))

mark_is_length : (b : ℕ) (xs : List ℕ) → IsLength is_mark (b ∷ xs) (mark_length (b ∷ xs))
mark_is_length b [] = single_is_length b (is_single b) refl
mark_is_length b (c ∷ ds) = double_is_length b c ds (is_double b c) (is_single b) refl refl

-- Tokens, by the first byte

module _ (b : ℕ) (xs : List ℕ) where
  constant_front : is_digit b ≡ true → (m : ℕ) → 0 < m → is_token (take m (b ∷ xs)) ≡ is_constant (take m (b ∷ xs))
  constant_front digit zero some = absurd (omega (arith, some))
  constant_front digit (suc m) some = digit_token b (take m xs) digit

  mark_front : is_digit b ≡ false → is_letter b ≡ false → (b == 36) ≡ false → (m : ℕ) → 0 < m → is_token (take m (b ∷ xs)) ≡ is_mark (take m (b ∷ xs))
  mark_front no_digit no_letter no_dollar zero some = absurd (omega (arith, some))
  mark_front no_digit no_letter no_dollar (suc m) some = mark_token b (take m xs) no_digit no_letter no_dollar

  abbrev Here : ℕ → Type 0
  Here n = IsLength is_token (b ∷ xs) n

  by_dollar : (v : Bool) → is_digit b ≡ false → is_letter b ≡ false → (b == 36) ≡ v → Here (if v then register_length xs else mark_length (b ∷ xs))
  by_dollar true no_digit no_letter dollar = dollar_is_length b xs dollar
  by_dollar false no_digit no_letter no_dollar = same_length is_token is_mark (b ∷ xs) (mark_length (b ∷ xs)) (mark_front no_digit no_letter no_dollar) (mark_is_length b xs)

  by_letter : (v : Bool) → is_digit b ≡ false → is_letter b ≡ v → Here (if v then prefix_len is_word_byte (b ∷ xs) else (if b == 36 then register_length xs else mark_length (b ∷ xs)))
  by_letter true no_digit letter = word_is_length b xs no_digit letter
  by_letter false no_digit no_letter = by_dollar (b == 36) no_digit no_letter refl

  by_digit : (v : Bool) → is_digit b ≡ v → Here (if v then constant_length (b ∷ xs) else (if is_letter b then prefix_len is_word_byte (b ∷ xs) else (if b == 36 then register_length xs else mark_length (b ∷ xs))))
  by_digit true digit = same_length is_token is_constant (b ∷ xs) (constant_length (b ∷ xs)) (constant_front digit) (constant_is_length b xs digit)
  by_digit false no_digit = by_letter (is_letter b) no_digit refl

pub token_is_length : (text : List ℕ) → IsLength is_token text (token_length text)
token_is_length [] = record {
  within = omega arith;
  holds = λ some. absurd (omega (arith, some));
  longest = λ m more within. absurd (omega (arith, more, within));
}
token_is_length (b ∷ xs) = by_digit b xs (is_digit b) refl

-- What a token is to the grammar

module _ (b : ℕ) (xs : List ℕ) (token : is_token (b ∷ xs) ≡ true) where
  no_word : is_letter b ≡ false → is_word (b ∷ xs) ≡ false
  no_word no_letter = and_not (is_letter b) (list_all is_word_byte xs) no_letter

  not_register : (b == 36) ≡ false → is_register (b ∷ xs) ≡ false
  not_register no_dollar = and_not (b == 36) (is_word xs) no_dollar

  sort_digit : is_digit b ≡ true → sort_of (b ∷ xs) ≡ Constant
  sort_digit digit =
      cond_not _ _ _ (no_word (digit_no_letter b digit)) ∙ cond_not _ _ _ (not_register (apart is_digit b 36 digit refl)) ∙ cond_yes _ _ _ (sym (digit_token b xs digit) ∙ token)

  sort_letter : is_digit b ≡ false → is_letter b ≡ true → sort_of (b ∷ xs) ≡ word_sort (b ∷ xs)
  sort_letter no_digit letter = cond_yes _ _ _ (true_and (is_letter b) (list_all is_word_byte xs) letter ∙ sym (letter_token b xs no_digit letter) ∙ token)

  sort_dollar : is_letter b ≡ false → (b == 36) ≡ true → sort_of (b ∷ xs) ≡ Register
  sort_dollar no_letter dollar =
      let token_there : is_token (36 ∷ xs) ≡ true = ap (λ k. is_token (k ∷ xs)) (sym (eqb-true b 36 dollar)) ∙ token in
      cond_not _ _ _ (no_word no_letter) ∙ cond_yes _ _ _ (true_and (b == 36) (is_word xs) dollar ∙ sym (register_token xs) ∙ token_there)

  sort_mark : is_digit b ≡ false → is_letter b ≡ false → (b == 36) ≡ false → sort_of (b ∷ xs) ≡ mark_sort (b ∷ xs)
  sort_mark no_digit no_letter no_dollar =
      cond_not _ _ _ (no_word no_letter) ∙ cond_not _ _ _ (not_register no_dollar) ∙ cond_not _ _ _ (no_constant b xs no_digit)

  sort_by_dollar : (v : Bool) → is_digit b ≡ false → is_letter b ≡ false → (b == 36) ≡ v → sort_of (b ∷ xs) ≡ (if v then Register else mark_sort (b ∷ xs))
  sort_by_dollar true no_digit no_letter dollar = sort_dollar no_letter dollar
  sort_by_dollar false no_digit no_letter no_dollar = sort_mark no_digit no_letter no_dollar

  sort_by_letter : (v : Bool) → is_digit b ≡ false → is_letter b ≡ v → sort_of (b ∷ xs) ≡ (if v then word_sort (b ∷ xs) else (if b == 36 then Register else mark_sort (b ∷ xs)))
  sort_by_letter true no_digit letter = sort_letter no_digit letter
  sort_by_letter false no_digit no_letter = sort_by_dollar (b == 36) no_digit no_letter refl

  sort_by_digit : (v : Bool) → is_digit b ≡ v → sort_of (b ∷ xs) ≡ (if v then Constant else (if is_letter b then word_sort (b ∷ xs) else (if b == 36 then Register else mark_sort (b ∷ xs))))
  sort_by_digit true digit = sort_digit digit
  sort_by_digit false no_digit = sort_by_letter (is_letter b) no_digit refl

pub token_sort : (bytes : List ℕ) → is_token bytes ≡ true → sort_of bytes ≡ sort_at bytes
token_sort [] token = absurd (no_end token)
token_sort (b ∷ xs) token = sort_by_digit b xs token (is_digit b) refl
