-- The class of a byte, from the tests that the definitions of the tokens name, and back.
use Rattle.std.proofs.Common.{◌≡◌, ℕ, ◌≤◌, List, [], ◌∷◌, true, false, refl, sym, subst, arith, ◌⊎◌, inl, inr, nat_eq}
use Rattle.std.proofs.lemmas.Bool.{eqb-true}
use Rattle.std.specs.Prelude.{codes}
use Rattle.std.specs.List.{list_any}
use Rattle.std.proofs.lemmas.Bool.Decides.{nat_tests}
use Rattle.vlog_lex.specs.declared.bytes.Class.TheVariants.{Blank, Letter, Digit, Mark, Operator}
use Rattle.ila_base.specs.Bytes.{is_blank, is_letter, is_digit}
use Rattle.vlog_lex.specs.Bytes.{is_mark, is_operator, class_of}
use Rattle.vlog_lex.proofs.RunLaws.{outcome}

printed_not_blank : (b : ℕ) → 33 ≤ b → is_blank b ≡ false
printed_not_blank b printed = grind (arith, nat_tests)

letter_printed : (b : ℕ) → is_letter b ≡ true → 65 ≤ b
letter_printed b letter = grind (arith, nat_tests)

digit_range : (b : ℕ) → is_digit b ≡ true → (48 ≤ b) × (b ≤ 57)
digit_range b digit = grind (arith, nat_tests)

low_not_letter : (b : ℕ) → b ≤ 57 → is_letter b ≡ false
low_not_letter b low = grind (arith, nat_tests)

pub blank_class : (b : ℕ) → is_blank b ≡ true → class_of b ≡ Blank
blank_class b blank = rw blank refl

pub letter_class : (b : ℕ) → is_letter b ≡ true → class_of b ≡ Letter
letter_class b letter =
    let not_blank : is_blank b ≡ false = printed_not_blank b (omega (arith, letter_printed b letter)) in
    rw (not_blank, letter) refl

pub digit_class : (b : ℕ) → is_digit b ≡ true → class_of b ≡ Digit
digit_class b digit =
    let range = digit_range b digit in
    let not_blank : is_blank b ≡ false = printed_not_blank b (omega arith) in
    let not_letter : is_letter b ≡ false = low_not_letter b range.1 in
    rw (not_blank, not_letter, digit) refl

-- a fact of each byte of a list holds of a byte that is equal to one of them
abbrev Each : (ℕ → Type 0) → List ℕ → Type 0
Each P [] = Unit {0}
Each P (x ∷ xs) = P x × Each P xs

at_head : (P : ℕ → Type 0) (b x : ℕ) (xs : List ℕ) → Each P (x ∷ xs) → list_any (nat_eq b) (x ∷ xs) ≡ true → (nat_eq b x ≡ true) ⊎ (nat_eq b x ≡ false) → (Each P xs → list_any (nat_eq b) xs ≡ true → P b) → P b
at_head P b x xs each any (inl passes) behind = subst P (sym (eqb-true b x passes)) each.0
at_head P b x xs each any (inr fails) behind = behind each.1 (rw fails at any)

one_of : (P : ℕ → Type 0) (b : ℕ) (xs : List ℕ) → Each P xs → list_any (nat_eq b) xs ≡ true → P b
one_of P b [] each any = cc
one_of P b (x ∷ xs) each any = at_head P b x xs each any (outcome (nat_eq b x)) (one_of P b xs)

pub mark_class : (b : ℕ) → is_mark b ≡ true → class_of b ≡ Mark
mark_class b mark = one_of (λ b. class_of b ≡ Mark) b (codes ")[]{},;:.=#") (refl, (refl, (refl, (refl, (refl, (refl, (refl, (refl, (refl, (refl, (refl, tt))))))))))) mark

pub operator_class : (b : ℕ) → is_operator b ≡ true → class_of b ≡ Operator
operator_class b operator = one_of (λ b. class_of b ≡ Operator) b (codes "~&|^+-*%?<>!@$") (refl, (refl, (refl, (refl, (refl, (refl, (refl, (refl, (refl, (refl, (refl, (refl, (refl, (refl, tt)))))))))))))) operator
