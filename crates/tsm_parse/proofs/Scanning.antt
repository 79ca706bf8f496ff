-- The loops that read a text byte by byte: how far a numeral goes, and whether a word is a keyword.
use Rattle.std.proofs.Common.{◌≡◌, ℕ, zero, suc, ◌+◌, ◌<◌, ◌≤◌, Bool, true, false, List, [], ◌∷◌, length, drop, get_or, refl, ap, sym, ◌∙◌, arith, nat_eq}
use Rattle.std.specs.Prelude.{map, cond, ◌&&◌}
use Rattle.std.specs.Str.{bytes_eq}
use Rattle.std.proofs.lemmas.Bool.{eq-eqb, ne_eqb}
use Rattle.std.proofs.lemmas.List.{at_drop_more, at_drop_all}
use Rattle.grammar.proofs.Outcomes.{no_end, cond_yes, cond_not}
use Rattle.tsm_parse.specs.declared.bytes.Base.{Base}
use Rattle.tsm_parse.specs.Constants.{is_digit, is_place}
use Rattle.tsm_parse.specs.Words.{lower}
use Rattle.tsm_parse.specs.Reading.{digits_more, digits_end}

-- How far a numeral goes

-- the end so far, and what is found from this place on
abbrev pub joined : ℕ → ℕ → ℕ → ℕ
joined end at zero = end
joined end at (suc n) = at + suc n

joined_digit : (end at n : ℕ) (digit : Bool) → digit ≡ true → joined end at (digits_more digit n) ≡ joined (at + 1) (at + 1) n
joined_digit end at zero true is = refl
joined_digit end at (suc n) true is = let e : n + 2 ≡ suc (suc n) = omega arith in ap (joined end at) e ∙ omega arith
joined_digit end at n false is = absurd (no_end is)

joined_other : (end at n : ℕ) (digit : Bool) → digit ≡ false → joined end at (digits_more digit n) ≡ joined end (at + 1) n
joined_other end at n true is = absurd (no_end (sym is))
joined_other end at zero false is = refl
joined_other end at (suc n) false is = let e : n + 2 ≡ suc (suc n) = omega arith in ap (joined end at) e ∙ omega arith

module _ (base : Base) (text : List ℕ) (end at : ℕ) where
  abbrev pub here : ℕ
  here = get_or text at 0

  abbrev EndsAt : ℕ → ℕ → Type 0
  EndsAt e i = digits_end base text ≡ joined e i (digits_end base (drop i text))

  module _ (within : at < length text) (so : EndsAt end at) where
    step : digits_end base text ≡ joined end at (cond (is_place base here) (digits_more (is_digit base here) (digits_end base (drop (at + 1) text))) 0)
    step = so ∙ at_drop_more (λ xs. joined end at (digits_end base xs)) text at 0 within

    pub ends_here : is_place base here ≡ false → end ≡ digits_end base text
    ends_here fails = sym (step ∙ ap (joined end at) (cond_not _ _ _ fails))

    pub passes_digit : is_place base here ≡ true → is_digit base here ≡ true → EndsAt (at + 1) (at + 1)
    passes_digit place digit = step ∙ ap (joined end at) (cond_yes _ _ _ place) ∙ joined_digit end at _ _ digit

    pub passes_other : is_place base here ≡ true → is_digit base here ≡ false → EndsAt end (at + 1)
    passes_other place digit = step ∙ ap (joined end at) (cond_yes _ _ _ place) ∙ joined_other end at _ _ digit

  pub ends_all : length text ≤ at → EndsAt end at → end ≡ digits_end base text
  ends_all past so = sym (so ∙ at_drop_all (λ xs. joined end at (digits_end base xs)) text at past)

pub begins_there : (base : Base) (text : List ℕ) → digits_end base text ≡ joined 0 0 (digits_end base text)
begins_there base text = by_count (digits_end base text) where
  by_count : (n : ℕ) → n ≡ joined 0 0 n
  by_count zero = refl
  by_count (suc n) = omega arith

-- Keywords

-- what is left of the bytes is what is left of the keyword
abbrev pub left_same : List ℕ → List ℕ → ℕ → Bool
left_same keyword bytes at = bytes_eq (map lower (drop at bytes)) (drop at keyword)

module _ (keyword bytes : List ℕ) (at : ℕ) where
  one_byte : at < length bytes → length bytes ≡ length keyword → left_same keyword bytes at ≡ (nat_eq (lower (get_or bytes at 0)) (get_or keyword at 0) && left_same keyword bytes (at + 1))
  one_byte within long =
      at_drop_more (λ xs. bytes_eq (map lower xs) (drop at keyword)) bytes at 0 within
      ∙ at_drop_more (λ ys. bytes_eq (lower (get_or bytes at 0) ∷ map lower (drop (at + 1) bytes)) ys) keyword at 0 (omega (arith, long, within))

  pub same_byte : at < length bytes → length bytes ≡ length keyword → lower (get_or bytes at 0) ≡ get_or keyword at 0 → left_same keyword bytes at ≡ left_same keyword bytes (at + 1)
  same_byte within long same = one_byte within long ∙ ap (λ v. v && left_same keyword bytes (at + 1)) (eq-eqb _ _ same)

  pub other_byte : at < length bytes → length bytes ≡ length keyword → (lower (get_or bytes at 0) ≡ get_or keyword at 0 → ⊥) → left_same keyword bytes at ≡ false
  other_byte within long other = one_byte within long ∙ ap (λ v. v && left_same keyword bytes (at + 1)) (ne_eqb _ _ other)

  pub all_same : length bytes ≤ at → length bytes ≡ length keyword → left_same keyword bytes at ≡ true
  all_same past long = at_drop_all (λ xs. bytes_eq (map lower xs) (drop at keyword)) bytes at past ∙ at_drop_all (λ ys. bytes_eq [] ys) keyword at (omega (arith, long, past))
