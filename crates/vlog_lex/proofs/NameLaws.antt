-- Identifiers, keywords and escaped identifiers, as the reader finds them.
use Rattle.std.proofs.Common.{◌≡◌, ◌≢◌, ℕ, suc, ◌<◌, ◌≤◌, List, [], ◌∷◌, ◌++◌, true, false, refl, sym, ◌∙◌, ap, subst, arith, length, ◌⊎◌, inl, inr, nat_eq, nat_lt}
use Rattle.std.specs.Prelude.{cond}
use Rattle.std.proofs.lemmas.Bool.Decides.{nat_tests}
use Rattle.std.proofs.lemmas.Bool.{le-ltb, lt-ltb, ltb-false, ltb-true}
use Rattle.vlog_lex.specs.declared.token.TokenKind.TheVariants.{Ident, Escaped, Outside}
use Rattle.vlog_lex.specs.declared.token.Flaw.TheVariants.{NameLength}
use Rattle.vlog_lex.specs.declared.token.Piece.{Piece}
use Rattle.vlog_lex.specs.declared.token.Piece.TheVariants.{Token, Refused}
use Rattle.ila_base.specs.Bytes.{is_letter}
use Rattle.vlog_lex.specs.Bytes.{is_name_byte, is_printable}
use Rattle.vlog_lex.specs.Construct.{is_construct}
use Rattle.vlog_lex.specs.Runs.{IsRun}
use Rattle.vlog_lex.specs.Pieces.{IsName, IsIdentifier, ends_escaped, IsEscapedName, keyword}
use Rattle.vlog_lex.specs.Refusals.{long_name, long_escaped}
use Rattle.vlog_lex.specs.Reading.{word_at, escaped_with, escaped_behind, piece_at}
use Rattle.vlog_lex.proofs.RunLaws.{outcome, run_length, run_take, run_drop, run_of}
use Rattle.vlog_lex.proofs.ClassLaws.{letter_class}
use Rattle.vlog_lex.proofs.Found.{Found}

-- what the reader makes of a word
abbrev word_piece : List ℕ → Piece
word_piece bytes =
    cond (is_construct bytes) (Token Outside (length bytes)) (cond (nat_lt 1024 (length bytes)) (Refused (NameLength (length bytes))) (Token Ident (length bytes)))

word_at-run : (bytes rest : List ℕ) → IsRun is_name_byte bytes rest → word_at (bytes ++ rest) ≡ word_piece bytes
word_at-run bytes rest run = rw (run_take is_name_byte bytes rest run, run_length is_name_byte bytes rest run) refl

name_piece : (bytes rest : List ℕ) → IsName bytes rest → piece_at (bytes ++ rest) ≡ word_piece bytes
name_piece [] rest name = cc
name_piece (b ∷ bytes) rest name = rw (letter_class b name.0) (word_at-run (b ∷ bytes) rest name.1)

pub identifier_again : (bytes rest : List ℕ) → IsIdentifier bytes rest → length bytes ≤ 1024 → piece_at (bytes ++ rest) ≡ Token Ident (length bytes)
identifier_again bytes rest identifier short =
    name_piece bytes rest identifier.0 ∙ rw (identifier.1, le-ltb 1024 (length bytes) short) refl

pub long_again : (bytes rest : List ℕ) → IsIdentifier bytes rest → 1024 < length bytes → piece_at (bytes ++ rest) ≡ Refused (NameLength (length bytes))
long_again bytes rest identifier long =
    name_piece bytes rest identifier.0 ∙ rw (identifier.1, lt-ltb 1024 (length bytes) long) refl

pub keyword_again : (bytes rest : List ℕ) → IsName bytes rest → is_construct bytes ≡ true → piece_at (bytes ++ rest) ≡ Token Outside (length bytes)
keyword_again bytes rest name construct = name_piece bytes rest name ∙ rw construct refl

name_some : (bytes rest : List ℕ) → IsName bytes rest → 0 < length bytes
name_some [] rest name = cc
name_some (b ∷ bytes) rest name = omega arith

found_word : (bytes rest : List ℕ) → IsName bytes rest → (is_construct bytes ≡ true) ⊎ (is_construct bytes ≡ false) → (nat_lt 1024 (length bytes) ≡ true) ⊎ (nat_lt 1024 (length bytes) ≡ false) → Found (word_piece bytes) (bytes ++ rest)
found_word bytes rest name (inl construct) _ =
    rw construct (record { bytes = bytes; rest = rest; whole = refl; count = refl; some = name_some bytes rest name; holds = keyword name construct })
found_word bytes rest name (inr other) (inl long) =
    rw (other, long) (long_name bytes rest refl (name, other) (ltb-true 1024 (length bytes) long) refl)
found_word bytes rest name (inr other) (inr short) =
    rw (other, short) (record { bytes = bytes; rest = rest; whole = refl; count = refl; some = name_some bytes rest name; holds = ((name, other), ltb-false 1024 (length bytes) short) })

pub letter_is_name : (b : ℕ) → is_letter b ≡ true → is_name_byte b ≡ true
letter_is_name b letter = rw letter refl

pub word_found : (b : ℕ) (text : List ℕ) → is_letter b ≡ true → Found (word_at (b ∷ text)) (b ∷ text)
word_found b text letter =
    let r = run_of is_name_byte text in
    let run : IsRun is_name_byte (b ∷ r.bytes) r.rest = (letter_is_name b letter, r.run) in
    let found : Found (word_piece (b ∷ r.bytes)) (b ∷ r.bytes ++ r.rest) = found_word (b ∷ r.bytes) r.rest (letter, run) (outcome _) (outcome _) in
    let at_run : Found (word_at (b ∷ r.bytes ++ r.rest)) (b ∷ r.bytes ++ r.rest) = subst (λ p. Found p (b ∷ r.bytes ++ r.rest)) (sym (word_at-run (b ∷ r.bytes) r.rest run)) found in
    subst (λ t. Found (word_at (b ∷ t)) (b ∷ t)) (sym r.whole) at_run

-- the name behind a `\`
escaped-run : (name rest : List ℕ) → IsRun is_printable name rest → escaped_behind (name ++ rest) ≡ escaped_with (length name) (ends_escaped rest)
escaped-run name rest run = rw (run_drop is_printable name rest run, run_length is_printable name rest run) refl

some_name : (name : List ℕ) → name ≢ [] → nat_eq (length name) 0 ≡ false
some_name [] some = absurd (some refl)
some_name (b ∷ name) some = grind (arith, nat_tests)

no_name : (name : List ℕ) → nat_eq (length name) 0 ≡ false → name ≢ []
no_name name fails none =
    let zero_length : nat_eq (length name) 0 ≡ true = rw none refl in
    cc

pub escaped_again : (name rest : List ℕ) → IsEscapedName name rest → length name ≤ 1024 → piece_at (92 ∷ name ++ rest) ≡ Token Escaped (suc (length name))
escaped_again name rest e short =
    escaped-run name rest e.1 ∙ rw (some_name name e.0, e.2, le-ltb 1024 (length name) short) (ap (λ n. Token Escaped n) (omega arith))

pub long_escaped_again : (name rest : List ℕ) → IsEscapedName name rest → 1024 < length name → piece_at (92 ∷ name ++ rest) ≡ Refused (NameLength (length name))
long_escaped_again name rest e long =
    escaped-run name rest e.1 ∙ rw (some_name name e.0, e.2, lt-ltb 1024 (length name) long) refl

found_escaped : (name rest : List ℕ) → IsRun is_printable name rest → (nat_eq (length name) 0 ≡ true) ⊎ (nat_eq (length name) 0 ≡ false) → (ends_escaped rest ≡ true) ⊎ (ends_escaped rest ≡ false) → (nat_lt 1024 (length name) ≡ true) ⊎ (nat_lt 1024 (length name) ≡ false)
    → Found (escaped_with (length name) (ends_escaped rest)) (92 ∷ name ++ rest)
found_escaped name rest run (inl none) ends long = rw none tt
found_escaped name rest run (inr some) (inr open_ended) long = rw (some, open_ended) tt
found_escaped name rest run (inr some) (inl ends) (inl long) =
    rw (some, ends, long) (long_escaped name rest refl (no_name name some, run, ends) (ltb-true 1024 (length name) long) refl)
found_escaped name rest run (inr some) (inl ends) (inr short) =
    rw (some, ends, short) (record { bytes = 92 ∷ name; rest = rest; whole = refl; count = omega arith; some = omega arith; holds = (name, refl, (no_name name some, run, ends), ltb-false 1024 (length name) short) })

pub escaped_found : (text : List ℕ) → Found (escaped_behind text) (92 ∷ text)
escaped_found text =
    let r = run_of is_printable text in
    let found : Found (escaped_with (length r.bytes) (ends_escaped r.rest)) (92 ∷ r.bytes ++ r.rest) = found_escaped r.bytes r.rest r.run (outcome _) (outcome _) (outcome _) in
    let at_run : Found (escaped_behind (r.bytes ++ r.rest)) (92 ∷ r.bytes ++ r.rest) = subst (λ p. Found p (92 ∷ r.bytes ++ r.rest)) (sym (escaped-run r.bytes r.rest r.run)) found in
    subst (λ t. Found (escaped_behind t) (92 ∷ t)) (sym r.whole) at_run
