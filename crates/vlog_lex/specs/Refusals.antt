-- Where a text is refused: where nothing begins, and where a token is not what it may be.
use Rattle.std.specs.Prelude.{◌≡◌, ◌≢◌, ℕ, ◌+◌, ◌^◌, ◌<◌, ◌≤◌, List, [], ◌∷◌, ◌++◌, length, min, true, false}
use Rattle.ila_base.specs.declared.limits.TheConstants.{NAME_BYTES, CONSTANT_BITS, GREATEST_NUMBER}
use Rattle.vlog_lex.specs.declared.token.TokenKind.{TokenKind}
use Rattle.vlog_lex.specs.declared.token.TokenKind.TheVariants.{Ident, Escaped, Number, Sized, Text, Mark, Outside}
use Rattle.vlog_lex.specs.declared.token.Flaw.{Flaw}
use Rattle.vlog_lex.specs.declared.token.Flaw.TheVariants.{BadByte, XZ, NameLength, Constant}
use Rattle.ila_base.specs.Bytes.{value}
use Rattle.vlog_lex.specs.Skipped.{Skips}
use Rattle.vlog_lex.specs.Pieces.{IsIdentifier, IsEscapedName, Parts, IsConstant, width_of, amount_of, has_unknown, word_of, IsNumber, IsToken}

-- the bytes are a token of the kind before rest, and no larger than it may be: an identifier has at most
-- 1,024 bytes, a number is below 2 to the 32, and a constant has at most 128 bits, in its width and in what
-- its digits stand for
abbrev pub IsAllowed : TokenKind → List ℕ → List ℕ → Type 0
IsAllowed Ident bytes rest = IsIdentifier bytes rest × (length bytes ≤ NAME_BYTES)
IsAllowed Escaped bytes rest = (name : List ℕ) × (bytes ≡ 92 ∷ name) × IsEscapedName name rest
    × (length name ≤ NAME_BYTES)
IsAllowed (Number n) bytes rest = IsNumber bytes rest × (n ≡ value 10 bytes) × (n < 2 ^ 32)
IsAllowed (Sized w) bytes rest = (p : Parts) × IsConstant p bytes rest × (has_unknown p ≡ false)
    × (width_of p ≤ CONSTANT_BITS) × (amount_of p < 2 ^ 128) × (w ≡ word_of p)
IsAllowed Text bytes rest = IsToken Text bytes rest
IsAllowed (Mark m) bytes rest = IsToken (Mark m) bytes rest
IsAllowed Outside bytes rest = IsToken Outside bytes rest

-- a constant with a digit x, z or ? begins here
abbrev pub IsUnknown : List ℕ → Type 0
IsUnknown text = (p : Parts) × (bytes : List ℕ) × (rest : List ℕ) × (text ≡ bytes ++ rest)
    × IsConstant p bytes rest × (has_unknown p ≡ true)

-- an identifier of n bytes begins here, and those are too many
pub data IsLongName : ℕ → List ℕ → Type 0 where
  long_name : {n : ℕ} {text : List ℕ} (bytes rest : List ℕ) → text ≡ bytes ++ rest → IsIdentifier bytes rest
      → NAME_BYTES < length bytes → n ≡ length bytes → IsLongName n text
  long_escaped : {n : ℕ} {text : List ℕ} (name rest : List ℕ) → text ≡ 92 ∷ name ++ rest
      → IsEscapedName name rest → NAME_BYTES < length name → n ≡ length name → IsLongName n text

-- a number or a constant begins here that is too large, as n tells: a number of 2 to the 32 or more by
-- 2 to the 32, a width above 128 by the width, or by 2 to the 32 where it is more, and an amount of 2
-- to the 128 or more by 129
pub data IsLargeConstant : ℕ → List ℕ → Type 0 where
  large_number : {n : ℕ} {text : List ℕ} (bytes rest : List ℕ) → text ≡ bytes ++ rest → IsNumber bytes rest
      → GREATEST_NUMBER < value 10 bytes → n ≡ GREATEST_NUMBER + 1 → IsLargeConstant n text
  large_width : {n : ℕ} {text : List ℕ} (p : Parts) (bytes rest : List ℕ) → text ≡ bytes ++ rest
      → IsConstant p bytes rest → has_unknown p ≡ false → CONSTANT_BITS < width_of p → n ≡ min (width_of p) (GREATEST_NUMBER + 1)
      → IsLargeConstant n text
  large_amount : {n : ℕ} {text : List ℕ} (p : Parts) (bytes rest : List ℕ) → text ≡ bytes ++ rest
      → IsConstant p bytes rest → has_unknown p ≡ false → width_of p ≤ CONSTANT_BITS → 2 ^ 128 ≤ amount_of p → n ≡ CONSTANT_BITS + 1
      → IsLargeConstant n text

-- neither what is skipped, nor a token, nor a constant with such a digit begins here
pub record BeginsNothing (text : List ℕ) : Type 0 where
  pub some : text ≢ []
  pub no_skipped : (bytes rest : List ℕ) → text ≡ bytes ++ rest → Skips bytes rest → ⊥
  pub no_token : (kind : TokenKind) (bytes rest : List ℕ) → text ≡ bytes ++ rest → IsToken kind bytes rest
      → ⊥
  pub no_unknown : IsUnknown text → ⊥

-- the text is refused here
abbrev pub Refuses : Flaw → List ℕ → Type 0
Refuses BadByte text = BeginsNothing text
Refuses XZ text = IsUnknown text
Refuses (NameLength n) text = IsLongName n text
Refuses (Constant n) text = IsLargeConstant n text
