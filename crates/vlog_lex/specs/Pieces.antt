-- The tokens (IEEE 1364-2005, clause 3).
use Rattle.std.specs.Prelude.{◌≡◌, ◌≢◌, ℕ, ◌^◌, ◌%◌, List, [], ◌∷◌, ◌++◌, Bool, true, false, not, ◌&&◌, ◌⊎◌, codes, ◌||◌, Some}
use Rattle.std.specs.List.{list_any, list_all}
use Rattle.ila_base.specs.declared.place.Word.{Word}
use Rattle.vlog_lex.specs.declared.token.TokenKind.{TokenKind}
use Rattle.vlog_lex.specs.declared.token.TokenKind.TheVariants.{Ident, Escaped, Number, Sized, Text, Mark, Outside}
use Rattle.ila_base.specs.Bytes.{is_blank, is_letter, is_digit, is_underscore, value}
use Rattle.vlog_lex.specs.Bytes.{is_name_byte, is_number_byte, is_printable, is_mark, is_operator}
use Rattle.vlog_lex.specs.Construct.{is_construct}
use Rattle.vlog_lex.specs.Numbers.{base_of, is_place, is_unknown}
use Rattle.vlog_lex.specs.Runs.{IsRun}
use Rattle.vlog_lex.specs.Skipped.{begins, IsQuoted, Skips}

-- the first byte passes the test
abbrev pub begins_as : (ℕ → Bool) → List ℕ → Bool
begins_as test [] = false
begins_as test (b ∷ text) = test b

-- an identifier or a keyword (3.7, 3.7.2)
abbrev pub IsName : List ℕ → List ℕ → Type 0
IsName bytes rest = (begins_as is_letter bytes ≡ true) × IsRun is_name_byte bytes rest

-- one that isn't a keyword of a construct outside the profile
abbrev pub IsIdentifier : List ℕ → List ℕ → Type 0
IsIdentifier bytes rest = IsName bytes rest × (is_construct bytes ≡ false)

-- an escaped identifier is ended by a blank or the end of the text
abbrev pub ends_escaped : List ℕ → Bool
ends_escaped [] = true
ends_escaped (b ∷ text) = is_blank b

-- the name of an escaped identifier, behind its `\` (3.7.1)
abbrev pub IsEscapedName : List ℕ → List ℕ → Type 0
IsEscapedName name rest = (name ≢ []) × IsRun is_printable name rest × (ends_escaped rest ≡ true)

-- the parts of a sized constant: the number of its width, a quote and the letter of its base, and its
-- digits, with white space before the quote and before the digits
pub record Parts : Type 0 where
  pub number : List ℕ
  pub before : List ℕ
  pub letter : ℕ
  pub base : ℕ
  pub after : List ℕ
  pub digits : List ℕ

-- the quote of a constant, the letter of its base, white space, and then the digits
abbrev pub base_text : Parts → List ℕ → List ℕ
base_text p digits = 39 ∷ p.letter ∷ p.after ++ digits

-- the bytes are a sized constant of these parts (3.5.1), with as many digits as fit. There is none
-- without a digit of the base, and none of width 0.
pub record IsConstant (p : Parts) (bytes rest : List ℕ) : Type 0 where
  pub spelled : bytes ≡ p.number ++ (p.before ++ base_text p p.digits)
  pub begins : begins_as is_digit p.number ≡ true
  pub number : IsRun is_number_byte p.number (p.before ++ base_text p (p.digits ++ rest))
  pub some_width : value 10 p.number ≢ 0
  pub before : IsRun is_blank p.before (base_text p (p.digits ++ rest))
  pub base : base_of p.letter ≡ Some p.base
  pub after : IsRun is_blank p.after (p.digits ++ rest)
  pub digits : IsRun (is_place p.base) p.digits rest
  pub some_digit : list_all is_underscore p.digits ≡ false

-- the width of a constant, and what its digits stand for
abbrev pub width_of : Parts → ℕ
width_of p = value 10 p.number

abbrev pub amount_of : Parts → ℕ
amount_of p = value p.base p.digits

-- some digit of the constant is x, z or ?
abbrev pub has_unknown : Parts → Bool
has_unknown p = list_any is_unknown p.digits

-- the word of a constant: an amount that is too large for the width is cut, the high bits first
abbrev pub word_of : Parts → Word
word_of p = record { width = width_of p; value = amount_of p % 2 ^ width_of p }

-- an unsized number, with which no sized constant begins
pub record IsNumber (bytes rest : List ℕ) : Type 0 where
  pub begins : begins_as is_digit bytes ≡ true
  pub number : IsRun is_number_byte bytes rest
  pub unsized : (p : Parts) (front after : List ℕ) → bytes ++ rest ≡ front ++ after
      → IsConstant p front after → ⊥

-- the text behind a `(` makes it open an attribute (3.8)
abbrev pub opens_attribute : List ℕ → Bool
opens_attribute text = begins (codes "*") text && not (begins (codes "*)") text)

-- the text behind a `/` makes it open a comment (3.3)
abbrev pub opens_comment : List ℕ → Bool
opens_comment text = begins (codes "/") text || begins (codes "*") text

-- what stands for no construct of the profile
pub data IsOutside : List ℕ → List ℕ → Type 0 where
  operator : {bytes rest : List ℕ} (b : ℕ) → bytes ≡ b ∷ [] → is_operator b ≡ true → IsOutside bytes rest
  slash : {bytes rest : List ℕ} → bytes ≡ codes "/" → opens_comment rest ≡ false → IsOutside bytes rest
  keyword : {bytes rest : List ℕ} → IsName bytes rest → is_construct bytes ≡ true → IsOutside bytes rest
  -- a compiler directive with which nothing begins that is skipped
  directive : {bytes rest : List ℕ} (word : List ℕ) → bytes ≡ 96 ∷ word → IsName word rest
      → ((front after : List ℕ) → bytes ++ rest ≡ front ++ after → Skips front after → ⊥)
      → IsOutside bytes rest

-- the bytes are a token of the kind before rest, however large it is. A `#` counts as a mark here.
abbrev pub IsToken : TokenKind → List ℕ → List ℕ → Type 0
IsToken Ident bytes rest = IsIdentifier bytes rest
IsToken Escaped bytes rest = (name : List ℕ) × (bytes ≡ 92 ∷ name) × IsEscapedName name rest
IsToken (Number n) bytes rest = IsNumber bytes rest × (n ≡ value 10 bytes)
IsToken (Sized w) bytes rest = (p : Parts) × IsConstant p bytes rest × (has_unknown p ≡ false)
    × (w ≡ word_of p)
IsToken Text bytes rest = (quoted : List ℕ) × (bytes ≡ 34 ∷ quoted) × IsQuoted quoted
IsToken (Mark m) bytes rest = (bytes ≡ m ∷ [])
    × ((is_mark m ≡ true) ⊎ ((m ≡ 40) × (opens_attribute rest ≡ false)))
IsToken Outside bytes rest = IsOutside bytes rest
