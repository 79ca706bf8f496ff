-- The piece that a text begins with: what the reader tells is so, and whatever is so it tells.
use Rattle.std.proofs.Common.{◌^◌, ◌≤◌, min, nat_lt, ◌≡◌, ◌≢◌, ℕ, suc, ◌+◌, List, [], ◌∷◌, ◌++◌, Bool, true, false, refl, sym, ◌∙◌, ap, subst, arith, length, drop, ◌⊎◌, inl, inr, nat_eq}
use Rattle.std.specs.Prelude.{Option, Some, None}
use Rattle.std.proofs.lemmas.Bool.{eqb-true, ltb-true, ltb-false}
use Rattle.std.proofs.lemmas.Bool.Decides.{nat_tests}
use Rattle.vlog_lex.specs.declared.bytes.Class.TheVariants.{Other}
use Rattle.vlog_lex.specs.declared.closed.Inside.TheVariants.{Comment, Text as InText, Attribute}
use Rattle.vlog_lex.specs.declared.token.TokenKind.{TokenKind}
use Rattle.vlog_lex.specs.declared.token.TokenKind.TheVariants.{Ident, Escaped, Number, Sized, Text, Mark, Outside}
use Rattle.vlog_lex.specs.declared.token.Flaw.{Flaw}
use Rattle.vlog_lex.specs.declared.token.Flaw.TheVariants.{BadByte, XZ, NameLength, Constant}
use Rattle.vlog_lex.specs.declared.token.Piece.{Piece}
use Rattle.vlog_lex.specs.declared.token.Piece.TheVariants.{Skip, Token, Refused}
use Rattle.ila_base.specs.Bytes.{is_blank, is_letter, is_digit, value}
use Rattle.vlog_lex.specs.Bytes.{is_mark, is_operator, class_of}
use Rattle.vlog_lex.specs.Closed.{closed_length}
use Rattle.vlog_lex.specs.Skipped.{Skips, IsQuoted}
use Rattle.vlog_lex.specs.Pieces.{IsIdentifier, IsEscapedName, Parts, IsConstant, width_of, amount_of, has_unknown, word_of, IsNumber, opens_attribute, opens_comment, IsOutside, operator, slash, keyword, directive, IsToken}
use Rattle.vlog_lex.specs.Refusals.{IsAllowed, IsUnknown, IsLongName, long_name, long_escaped, IsLargeConstant, large_number, large_width, large_amount, BeginsNothing, Refuses}
use Rattle.vlog_lex.specs.Reading.{closed_piece, slash_behind, parenthesis_behind, piece_at}
use Rattle.vlog_lex.proofs.RunLaws.{outcome}
use Rattle.vlog_lex.proofs.ClassLaws.{blank_class, letter_class, mark_class, operator_class}
use Rattle.vlog_lex.proofs.ClosedLaws.{quoted_again, closed_found}
use Rattle.vlog_lex.proofs.NameLaws.{identifier_again, long_again, keyword_again, word_found, escaped_again, long_escaped_again, escaped_found}
use Rattle.vlog_lex.proofs.SkipLaws.{skips_again, blank_found, line_comment_found, block_comment_found, attribute_found, directive_again, backquote_found}
use Rattle.vlog_lex.proofs.ConstantLaws.{unknown_again, wide_again, amount_again, sized_again, number_again, large_again, digit_found}
use Rattle.ila_base.proofs.TextLaws.{Begins}
use Rattle.vlog_lex.proofs.Found.{Flawed, Found}

-- a `/` that opens no comment
slash_again : (rest : List ℕ) → opens_comment rest ≡ false → slash_behind rest ≡ Token Outside 1
slash_again [] fails = refl
slash_again (b ∷ rest) fails =
    let not_line : nat_eq b 47 ≡ false = grind (arith, nat_tests) in
    let not_block : nat_eq b 42 ≡ false = grind (arith, nat_tests) in
    rw (not_line, not_block) refl

outside_again : {bytes rest : List ℕ} → IsOutside bytes rest → piece_at (bytes ++ rest) ≡ Token Outside (length bytes)
outside_again (operator b same passes) = rw same (rw (operator_class b passes) refl)
outside_again {rest = rest} (slash same fails) = rw same (slash_again rest fails)
outside_again {bytes = bytes} {rest = rest} (keyword name construct) = keyword_again bytes rest name construct
outside_again {rest = rest} (directive word same name nothing) = rw same (directive_again word rest name (rw same at nothing))

mark_again : (m : ℕ) (rest : List ℕ) → (is_mark m ≡ true) ⊎ ((m ≡ 40) × (opens_attribute rest ≡ false)) → piece_at (m ∷ rest) ≡ Token (Mark m) 1
mark_again m rest (inl mark) = rw (mark_class m mark) refl
mark_again m rest (inr p) = rw p.0 (rw p.1 refl)

quoted_piece : (quoted rest : List ℕ) → IsQuoted quoted → piece_at (34 ∷ quoted ++ rest) ≡ Token Text (suc (length quoted))
quoted_piece quoted rest q = rw (quoted_again q rest) (ap (λ n. Token Text n) (omega arith))

pub token_again : (kind : TokenKind) (bytes rest : List ℕ) → IsAllowed kind bytes rest → piece_at (bytes ++ rest) ≡ Token kind (length bytes)
token_again Ident bytes rest t = identifier_again bytes rest t.0 t.1
token_again Escaped bytes rest t = rw t.1 (escaped_again t.0 rest t.2 t.3)
token_again (Number n) bytes rest t = rw t.1 (number_again bytes rest t.0 (rw (← t.1) t.2))
token_again (Sized w) bytes rest t = rw t.5 (sized_again t.0 bytes rest t.1 t.2 t.3 t.4)
token_again Text bytes rest t = rw t.1 (quoted_piece t.0 rest t.2)
token_again (Mark m) bytes rest t = rw t.0 (mark_again m rest t.1)
token_again Outside bytes rest t = outside_again t

pub unknown_piece : (text : List ℕ) → IsUnknown text → piece_at text ≡ Refused XZ
unknown_piece text u = rw u.3 (unknown_again u.0 u.1 u.2 u.4 u.5)

pub long_piece : (n : ℕ) (text : List ℕ) → IsLongName n text → piece_at text ≡ Refused (NameLength n)
long_piece n text (long_name bytes rest same identifier long count) = rw (same, count) (long_again bytes rest identifier long)
long_piece n text (long_escaped name rest same escaped long count) = rw (same, count) (long_escaped_again name rest escaped long)

pub large_piece : (n : ℕ) (text : List ℕ) → IsLargeConstant n text → piece_at text ≡ Refused (Constant n)
large_piece n text (large_number bytes rest same number large count) = rw (same, count) (large_again bytes rest number large)
large_piece n text (large_width p bytes rest same c known wide count) = rw (same, count) (wide_again p bytes rest c known wide)
large_piece n text (large_amount p bytes rest same c known narrow large count) = rw (same, count) (amount_again p bytes rest c known narrow large)

-- what a first byte leads to
comment_found : (text : List ℕ) (found : Option ℕ) → closed_length Comment text ≡ found → Found (closed_piece (λ n. Skip (n + 2)) found) (47 ∷ 42 ∷ text)
comment_found text None said = tt
comment_found text (Some n) said = block_comment_found text n said

lone_slash : (text : List ℕ) → opens_comment text ≡ false → Found (Token Outside 1) (47 ∷ text)
lone_slash text fails = record { bytes = 47 ∷ []; rest = text; whole = refl; count = refl; some = omega arith; holds = slash refl fails }

by_second : (b : ℕ) (text : List ℕ) → (nat_eq b 47 ≡ true) ⊎ (nat_eq b 47 ≡ false) → (nat_eq b 42 ≡ true) ⊎ (nat_eq b 42 ≡ false) → Found (slash_behind (b ∷ text)) (47 ∷ b ∷ text)
by_second b text (inl passes) _ = subst (λ b. Found (slash_behind (b ∷ text)) (47 ∷ b ∷ text)) (sym (eqb-true b 47 passes)) (line_comment_found text)
by_second b text (inr other) (inl passes) =
    subst (λ b. Found (slash_behind (b ∷ text)) (47 ∷ b ∷ text)) (sym (eqb-true b 42 passes)) (comment_found text (closed_length Comment text) refl)
by_second b text (inr other) (inr none) =
    let fails : opens_comment (b ∷ text) ≡ false = grind (arith, nat_tests) in
    rw (other, none) (lone_slash (b ∷ text) fails)

slash_found : (text : List ℕ) → Found (slash_behind text) (47 ∷ text)
slash_found [] = lone_slash [] refl
slash_found (b ∷ text) = by_second b text (outcome _) (outcome _)

closing_found : (text : List ℕ) (found : Option ℕ) → opens_attribute (42 ∷ text) ≡ true → closed_length Attribute text ≡ found → Found (closed_piece (λ n. Skip (n + 2)) found) (40 ∷ 42 ∷ text)
closing_found text None opens said = tt
closing_found text (Some n) opens said = attribute_found text n opens said

opened_found : (text : List ℕ) → opens_attribute text ≡ true → Found (closed_piece (λ n. Skip (n + 2)) (closed_length Attribute (drop 1 text))) (40 ∷ text)
opened_found [] opens = cc
opened_found (b ∷ text) opens =
    let passes : nat_eq b 42 ≡ true = grind (arith, nat_tests) in
    let is : b ≡ 42 = eqb-true b 42 passes in
    subst (λ b. Found (closed_piece (λ n. Skip (n + 2)) (closed_length Attribute text)) (40 ∷ b ∷ text)) (sym is)
    (closing_found text (closed_length Attribute text) (ap (λ b. opens_attribute (b ∷ text)) (sym is) ∙ opens) refl)

parenthesis_found : (text : List ℕ) → (opens_attribute text ≡ true) ⊎ (opens_attribute text ≡ false) → Found (parenthesis_behind text) (40 ∷ text)
parenthesis_found text (inl opens) = rw opens (opened_found text opens)
parenthesis_found text (inr fails) =
    rw fails (record { bytes = 40 ∷ []; rest = text; whole = refl; count = refl; some = omega arith; holds = (refl, inr (refl, fails)) })

string_found : (text : List ℕ) (found : Option ℕ) → closed_length InText text ≡ found → Found (closed_piece (λ n. Token Text (n + 1)) found) (34 ∷ text)
string_found text None said = tt
string_found text (Some n) said =
    let c = closed_found text InText n said in
    subst (λ t. Found (Token Text (n + 1)) (34 ∷ t)) (sym c.whole)
    (record { bytes = 34 ∷ c.bytes; rest = c.rest; whole = refl; count = omega (arith, c.count); some = omega arith; holds = (c.bytes, refl, c.left) })

-- by the first byte
abbrev At : ℕ → List ℕ → Type 0
At b text = Found (piece_at (b ∷ text)) (b ∷ text)

abbrev Test : Bool → Type 0
Test v = (v ≡ true) ⊎ (v ≡ false)

at_byte : (b k : ℕ) (text : List ℕ) → nat_eq b k ≡ true → At k text → At b text
at_byte b k text passes found = subst (λ b. At b text) (sym (eqb-true b k passes)) found

module _ (b : ℕ) (text : List ℕ) (not_blank : is_blank b ≡ false) (not_letter : is_letter b ≡ false) (not_digit : is_digit b ≡ false) (not_mark : is_mark b ≡ false) (not_operator : is_operator b ≡ false) where
  at_punctuation : Test (nat_eq b 40) → Test (nat_eq b 47) → Test (nat_eq b 34) → Test (nat_eq b 92) → Test (nat_eq b 96) → At b text
  at_punctuation (inl passes) _ _ _ _ = at_byte b 40 text passes (parenthesis_found text (outcome _))
  at_punctuation (inr p) (inl passes) _ _ _ = at_byte b 47 text passes (slash_found text)
  at_punctuation (inr p) (inr q) (inl passes) _ _ = at_byte b 34 text passes (string_found text (closed_length InText text) refl)
  at_punctuation (inr p) (inr q) (inr r) (inl passes) _ = at_byte b 92 text passes (escaped_found text)
  at_punctuation (inr p) (inr q) (inr r) (inr s) (inl passes) = at_byte b 96 text passes (backquote_found text)
  at_punctuation (inr p) (inr q) (inr r) (inr s) (inr t) =
      let other : class_of b ≡ Other = rw (not_blank, not_letter, not_digit, not_mark, not_operator, p, q, r, s, t) refl in
      rw other tt

at_operator : (b : ℕ) (text : List ℕ) → is_operator b ≡ true → At b text
at_operator b text passes =
    rw (operator_class b passes) (record { bytes = b ∷ []; rest = text; whole = refl; count = refl; some = omega arith; holds = operator b refl passes })

at_mark : (b : ℕ) (text : List ℕ) → is_mark b ≡ true → At b text
at_mark b text passes =
    rw (mark_class b passes) (record { bytes = b ∷ []; rest = text; whole = refl; count = refl; some = omega arith; holds = (refl, inl passes) })

by_first : (b : ℕ) (text : List ℕ) → Test (is_blank b) → Test (is_letter b) → Test (is_digit b) → Test (is_mark b) → Test (is_operator b) → At b text
by_first b text (inl passes) _ _ _ _ = rw (blank_class b passes) (blank_found b text passes)
by_first b text (inr p) (inl passes) _ _ _ = rw (letter_class b passes) (word_found b text passes)
by_first b text (inr p) (inr q) (inl passes) _ _ = digit_found b text passes
by_first b text (inr p) (inr q) (inr r) (inl passes) _ = at_mark b text passes
by_first b text (inr p) (inr q) (inr r) (inr s) (inl passes) = at_operator b text passes
by_first b text (inr p) (inr q) (inr r) (inr s) (inr t) = at_punctuation b text p q r s t (outcome _) (outcome _) (outcome _) (outcome _) (outcome _)

-- what the reader tells is so
pub piece_found : (text : List ℕ) → text ≢ [] → Found (piece_at text) text
piece_found [] some = absurd (some refl)
piece_found (b ∷ text) some = by_first b text (outcome _) (outcome _) (outcome _) (outcome _) (outcome _)

-- a token that is allowed is one
pub allowed_token : (kind : TokenKind) (bytes rest : List ℕ) → IsAllowed kind bytes rest → IsToken kind bytes rest
allowed_token Ident bytes rest t = t.0
allowed_token Escaped bytes rest t = (t.0, t.1, t.2)
allowed_token (Number n) bytes rest t = (t.0, t.1)
allowed_token (Sized w) bytes rest t = (t.0, t.1, t.2, t.5)
allowed_token Text bytes rest t = t
allowed_token (Mark m) bytes rest t = t
allowed_token Outside bytes rest t = t

-- the flaw is the size of a token
abbrev pub IsSize : Flaw → Type 0
IsSize BadByte = ⊥
IsSize XZ = ⊥
IsSize (NameLength n) = Unit {0}
IsSize (Constant n) = Unit {0}

size_is : (flaw other : Flaw) → Refused other ≡ Refused flaw → IsSize other → IsSize flaw
size_is flaw other same size = let is : other ≡ flaw = cc in subst IsSize is size

-- a token is taken, or refused for its size
module _ (bytes rest : List ℕ) where
  abbrev Something : Type 0
  Something = (flaw : Flaw) → piece_at (bytes ++ rest) ≡ Refused flaw → IsSize flaw

  taken_something : (kind : TokenKind) → IsAllowed kind bytes rest → Something
  taken_something kind t flaw is = let told : Token kind (length bytes) ≡ Refused flaw = sym (token_again kind bytes rest t) ∙ is in cc

  ident_something : IsIdentifier bytes rest → (nat_lt 1024 (length bytes) ≡ true) ⊎ (nat_lt 1024 (length bytes) ≡ false) → Something
  ident_something identifier (inl long) flaw is = size_is flaw (NameLength (length bytes)) (sym (long_again bytes rest identifier (ltb-true 1024 (length bytes) long)) ∙ is) tt
  ident_something identifier (inr short) flaw is = taken_something Ident (identifier, ltb-false 1024 (length bytes) short) flaw is

  number_something : IsNumber bytes rest → (nat_lt (value 10 bytes) (2 ^ 32) ≡ true) ⊎ (nat_lt (value 10 bytes) (2 ^ 32) ≡ false) → Something
  number_something number (inl small) flaw is = taken_something (Number (value 10 bytes)) (number, refl, ltb-true (value 10 bytes) (2 ^ 32) small) flaw is
  number_something number (inr large) flaw is = size_is flaw (Constant (2 ^ 32)) (sym (large_again bytes rest number (ltb-false (value 10 bytes) (2 ^ 32) large)) ∙ is) tt

  amount_something : (p : Parts) → IsConstant p bytes rest → has_unknown p ≡ false → width_of p ≤ 128 → (nat_lt (amount_of p) (2 ^ 128) ≡ true) ⊎ (nat_lt (amount_of p) (2 ^ 128) ≡ false) → Something
  amount_something p c known narrow (inl small) flaw is = taken_something (Sized (word_of p)) (p, c, known, narrow, ltb-true (amount_of p) (2 ^ 128) small, refl) flaw is
  amount_something p c known narrow (inr large) flaw is = size_is flaw (Constant 129) (sym (amount_again p bytes rest c known narrow (ltb-false (amount_of p) (2 ^ 128) large)) ∙ is) tt

  width_something : (p : Parts) → IsConstant p bytes rest → has_unknown p ≡ false → (nat_lt 128 (width_of p) ≡ true) ⊎ (nat_lt 128 (width_of p) ≡ false) → Something
  width_something p c known (inl wide) flaw is = size_is flaw (Constant (min (width_of p) 4294967296)) (sym (wide_again p bytes rest c known (ltb-true 128 (width_of p) wide)) ∙ is) tt
  width_something p c known (inr narrow) flaw is = amount_something p c known (ltb-false 128 (width_of p) narrow) (outcome _) flaw is

escaped_something : (name rest : List ℕ) → IsEscapedName name rest → (nat_lt 1024 (length name) ≡ true) ⊎ (nat_lt 1024 (length name) ≡ false) → (flaw : Flaw) → piece_at (92 ∷ name ++ rest) ≡ Refused flaw → IsSize flaw
escaped_something name rest e (inl long) flaw is = size_is flaw (NameLength (length name)) (sym (long_escaped_again name rest e (ltb-true 1024 (length name) long)) ∙ is) tt
escaped_something name rest e (inr short) flaw is = let told : Token Escaped (suc (length name)) ≡ Refused flaw = sym (escaped_again name rest e (ltb-false 1024 (length name) short)) ∙ is in cc

pub token_something : (kind : TokenKind) (bytes rest : List ℕ) → IsToken kind bytes rest → (flaw : Flaw) → piece_at (bytes ++ rest) ≡ Refused flaw → IsSize flaw
token_something Ident bytes rest t = ident_something bytes rest t (outcome _)
token_something Escaped bytes rest t = rw t.1 (escaped_something t.0 rest t.2 (outcome _))
token_something (Number n) bytes rest t = number_something bytes rest t.0 (outcome _)
token_something (Sized w) bytes rest t = width_something bytes rest t.0 t.1 t.2 (outcome _)
token_something Text bytes rest t = taken_something bytes rest Text t
token_something (Mark m) bytes rest t = taken_something bytes rest (Mark m) t
token_something Outside bytes rest t = taken_something bytes rest Outside t

-- what is refused for its size is a token
not_long : (n : ℕ) (text : List ℕ) → BeginsNothing text → IsLongName n text → ⊥
not_long n text nothing (long_name bytes rest same identifier long count) = nothing.no_token Ident bytes rest same identifier
not_long n text nothing (long_escaped name rest same escaped long count) = nothing.no_token Escaped (92 ∷ name) rest same (name, refl, escaped)

not_large : (n : ℕ) (text : List ℕ) → BeginsNothing text → IsLargeConstant n text → ⊥
not_large n text nothing (large_number bytes rest same number large count) = nothing.no_token (Number (value 10 bytes)) bytes rest same (number, refl)
not_large n text nothing (large_width p bytes rest same c known wide count) = nothing.no_token (Sized (word_of p)) bytes rest same (p, c, known, refl)
not_large n text nothing (large_amount p bytes rest same c known narrow large count) = nothing.no_token (Sized (word_of p)) bytes rest same (p, c, known, refl)

-- where nothing begins the reader finds nothing, and where it finds nothing, nothing begins
nothing_found : (text : List ℕ) (piece : Piece) → Found piece text → BeginsNothing text → piece ≡ Refused BadByte
nothing_found text (Skip n) found nothing = absurd (nothing.no_skipped found.bytes found.rest found.whole found.holds)
nothing_found text (Token kind n) found nothing = absurd (nothing.no_token kind found.bytes found.rest found.whole (allowed_token kind found.bytes found.rest found.holds))
nothing_found text (Refused BadByte) found nothing = refl
nothing_found text (Refused XZ) found nothing = absurd (nothing.no_unknown found)
nothing_found text (Refused (NameLength n)) found nothing = absurd (not_long n text nothing found)
nothing_found text (Refused (Constant n)) found nothing = absurd (not_large n text nothing found)

nothing_begins : (text : List ℕ) → text ≢ [] → piece_at text ≡ Refused BadByte → BeginsNothing text
nothing_begins text some is = record {
  some = some;
  no_skipped = λ bytes rest same skips. let told : Skip (length bytes) ≡ Refused BadByte = sym (ap piece_at same ∙ skips_again skips) ∙ is in cc;
  no_token = λ kind bytes rest same token. token_something kind bytes rest token BadByte (ap piece_at (sym same) ∙ is);
  no_unknown = λ unknown. let told : Refused XZ ≡ Refused BadByte = sym (unknown_piece text unknown) ∙ is in cc;
}

pub refuses_again : (flaw : Flaw) (text : List ℕ) → Refuses flaw text → piece_at text ≡ Refused flaw
refuses_again BadByte text nothing = nothing_found text (piece_at text) (piece_found text nothing.some) nothing
refuses_again XZ text unknown = unknown_piece text unknown
refuses_again (NameLength n) text long = long_piece n text long
refuses_again (Constant n) text large = large_piece n text large

flaw_is : (flaw : Flaw) (text : List ℕ) → text ≢ [] → piece_at text ≡ Refused flaw → Flawed flaw text → Refuses flaw text
flaw_is BadByte text some is flawed = nothing_begins text some is
flaw_is XZ text some is flawed = flawed
flaw_is (NameLength n) text some is flawed = flawed
flaw_is (Constant n) text some is flawed = flawed

-- a piece with all that is said of it
abbrev pub Told : Piece → List ℕ → Type 0
Told (Skip n) text = Begins Skips n text
Told (Token kind n) text = Begins (IsAllowed kind) n text
Told (Refused flaw) text = Refuses flaw text

told : (piece : Piece) (text : List ℕ) → text ≢ [] → piece_at text ≡ piece → Found piece text → Told piece text
told (Skip n) text some is found = found
told (Token kind n) text some is found = found
told (Refused flaw) text some is found = flaw_is flaw text some is found

pub piece_told : (text : List ℕ) → text ≢ [] → Told (piece_at text) text
piece_told text some = told (piece_at text) text some refl (piece_found text some)
