-- What holds of the lexemes of a text: how many there are, how names are spelled, which bits constants have, and how large an
-- index is.
use Rattle.std.proofs.Common.{◌≡◌, refl, sym, ◌∙◌, ap, subst, ℕ, zero, suc, ◌+◌, ◌-◌, ◌<◌, ◌≤◌, Bool, true, false, ◌&&◌, ◌==◌, not, cond, nat_lt, List, [], ◌∷◌, ◌++◌, length, drop, slice_get, arith, length-append, append_assoc, Option, Some, None, All}
use Rattle.std.specs.Prelude.{slice_range, codes}
use Rattle.std.specs.Str.{bytes_eq}
use Rattle.std.proofs.lemmas.Bool.Decides.{nat_tests}
use Rattle.std.proofs.lemmas.List.{take_at, drop_at}
use Rattle.std.proofs.lemmas.List.Elements.{All-head, All-tail}
use Rattle.grammar.proofs.YieldLaws.{Parted}
use Rattle.ila_base.specs.declared.refusal.LimitKind.TheVariants.{Index}
use Rattle.ila_base.specs.declared.fault.NetFault.{NetFault}
use Rattle.vlog_lex.specs.declared.token.Token.{Token}
use Rattle.vlog_lex.specs.declared.token.TokenKind.{TokenKind}
use Rattle.vlog_lex.specs.declared.token.TokenKind.TheVariants.{Ident, Escaped, Number as NumberKind, Sized as SizedKind, Text as TextKind, Mark, Outside as OutsideKind}
use Rattle.ila_base.specs.Bytes.{is_letter}
use Rattle.vlog_lex.specs.Bytes.{is_name_byte, is_printable}
use Rattle.vlog_lex.specs.Runs.{IsRun}
use Rattle.vlog_lex.specs.Pieces.{begins_as}
use Rattle.vlog_lex.specs.Refusals.{IsAllowed}
use Rattle.vlog_lex.specs.Cutting.{IsReading, too_long, cut as cut_into, Cuts, ends, skips, takes, refuses, token_behind, is_mark_of, parenthesis_next, settled_token, settled, IsWithin, RiseFrom, HasWord}
use Rattle.vlog_lex.proofs.TokenLaws.{tokens_rise, tokens_within, tokens_words}
use Rattle.vlog_parse.specs.declared.limits.Excess.{Excess}
use Rattle.vlog_parse.specs.declared.sort.Sort.{Sort}
use Rattle.vlog_parse.specs.declared.sort.Sort.TheVariants.{Name, Module, EndModule, Input, Output, Wire, Assign, And, Nand, Or, Nor, Xor, Xnor, Buf, Not, Number, Sized, LeftParenthesis, RightParenthesis, LeftBracket, RightBracket, LeftBrace, RightBrace, Comma, Semicolon, Colon, Dot, Equals, Hash}
use Rattle.vlog_parse.specs.Sorts.{same}
use Rattle.vlog_parse.specs.Lexemes.{Lexeme, lexeme, lexemes, bytes_of, sort_of, name_of, word_of, word_sort, mark_sort}
use Rattle.vlog_parse.specs.Expressions.{is}
use Rattle.vlog_parse.specs.Limits.{open_braces, opens_index, excess_of, IsWithinLimits}
use Rattle.vlog_parse.specs.ReadTree.{IsSpelled, IsSized}
use Rattle.vlog_parse.proofs.LimitLaws.{index_more}

-- a name is spelled, and a constant has its bits
abbrev pub IsFine : Lexeme → Type 0
IsFine t = (is Name t ≡ true → IsSpelled t.name) × (is Sized t ≡ true → IsSized t.word)

-- an index that comes next is within its limit
abbrev pub IsIndexFine : Lexeme → List Lexeme → Type 0
IsIndexFine t [] = Unit {0}
IsIndexFine t (u ∷ us) = opens_index t ≡ true → is Number u ≡ true → u.number ≤ 1048575

abbrev pub AreFine : List Lexeme → Type 0
AreFine [] = Unit {0}
AreFine (t ∷ ts) = IsFine t × IsIndexFine t ts × AreFine ts

-- so are parts of lexemes
abbrev pub IsReadPart : List Lexeme → Type 0
IsReadPart ts = (length ts ≤ 67108864) × AreFine ts

index_front : (t : Lexeme) (a b : List Lexeme) → IsIndexFine t (a ++ b) → IsIndexFine t a
index_front t [] b fine = tt
index_front t (u ∷ a) b fine = fine

pub front_fine : (a b : List Lexeme) → AreFine (a ++ b) → AreFine a
front_fine [] b fine = tt
front_fine (t ∷ a) b (one, index, more) = (one, index_front t a b index, front_fine a b more)

pub back_fine : (a b : List Lexeme) → AreFine (a ++ b) → AreFine b
back_fine [] b fine = fine
back_fine (t ∷ a) b (one, index, more) = back_fine a b more

abbrev pub read_part : Parted Lexeme
read_part = record {
  Holds = IsReadPart;
  front = λ a b (few, fine). (omega (arith, few, length-append a b), front_fine a b fine);
  back = λ a b (few, fine). (omega (arith, few, length-append a b), back_fine a b fine);
}

-- How many there are

count : (n from : ℕ) (tokens : List Token) → from ≤ n → RiseFrom from tokens → All (IsWithin n) tokens → from + length tokens ≤ n
count n from [] low rise within = omega (arith, low)
count n from (token ∷ tokens) low rise within =
    let one : IsWithin n token = All-head (IsWithin n) token tokens within in
    omega (arith, rise.0, one.0, count n token.end tokens one.1 rise.1 (All-tail (IsWithin n) token tokens within))

length-lexemes : (text : List ℕ) (tokens : List Token) → length (lexemes text tokens) ≡ length tokens
length-lexemes text [] = refl
length-lexemes text (token ∷ tokens) = ap suc (length-lexemes text tokens)

-- Sorts of tokens

no_end : false ≡ true → ⊥
no_end e = cc

-- no word is a constant
record IsNoConstant (sort : Sort) : Type 0 where
  no_constant : same Sized sort ≡ false

no_constant_or : (b : Bool) {y : Sort} (x : Sort) → same Sized x ≡ false → IsNoConstant y → IsNoConstant (cond b x y)
no_constant_or true x one other = record { no_constant = one }
no_constant_or false x one other = other

word_no_constant : (word : List ℕ) → IsNoConstant (word_sort word)
word_no_constant word =
    no_constant_or (bytes_eq word (codes "module")) Module refl (no_constant_or (bytes_eq word (codes "endmodule")) EndModule refl (no_constant_or (bytes_eq word (codes "input")) Input refl
    (no_constant_or (bytes_eq word (codes "output")) Output refl (no_constant_or (bytes_eq word (codes "wire")) Wire refl (no_constant_or (bytes_eq word (codes "assign")) Assign refl
    (no_constant_or (bytes_eq word (codes "and")) And refl (no_constant_or (bytes_eq word (codes "nand")) Nand refl (no_constant_or (bytes_eq word (codes "or")) Or refl
    (no_constant_or (bytes_eq word (codes "nor")) Nor refl (no_constant_or (bytes_eq word (codes "xor")) Xor refl (no_constant_or (bytes_eq word (codes "xnor")) Xnor refl
    (no_constant_or (bytes_eq word (codes "buf")) Buf refl (no_constant_or (bytes_eq word (codes "not")) Not refl (record { no_constant = refl }))))))))))))))

-- no mark is a constant or a name
record IsBare (sort : Sort) : Type 0 where
  no_constant : same Sized sort ≡ false
  no_name : same Name sort ≡ false

bare_or : (b : Bool) {y : Sort} (x : Sort) → same Sized x ≡ false → same Name x ≡ false → IsBare y → IsBare (cond b x y)
bare_or true x no_constant no_name other = record { no_constant = no_constant; no_name = no_name }
bare_or false x no_constant no_name other = other

mark_bare : (m : ℕ) → IsBare (mark_sort m)
mark_bare m =
    bare_or (m == 40) LeftParenthesis refl refl (bare_or (m == 41) RightParenthesis refl refl (bare_or (m == 91) LeftBracket refl refl (bare_or (m == 93) RightBracket refl refl
    (bare_or (m == 123) LeftBrace refl refl (bare_or (m == 125) RightBrace refl refl (bare_or (m == 44) Comma refl refl (bare_or (m == 59) Semicolon refl refl
    (bare_or (m == 58) Colon refl refl (bare_or (m == 46) Dot refl refl (bare_or (m == 61) Equals refl refl (bare_or (m == 35) Hash refl refl
    (record { no_constant = refl; no_name = refl }))))))))))))

-- Names and constants

run_each : (test : ℕ → Bool) (bytes rest : List ℕ) → IsRun test bytes rest → (i byte : ℕ) → slice_get bytes i ≡ Some byte → test byte ≡ true
run_each test [] rest run i byte at = absurd cc
run_each test (b ∷ bytes) rest (one, more) zero byte at = let e : b ≡ byte = cc in subst (λ x. test x ≡ true) e one
run_each test (b ∷ bytes) rest (one, more) (suc i) byte at = run_each test bytes rest more i byte at

name_byte : (b : ℕ) → is_name_byte b ≡ true → (33 ≤ b) × (b ≤ 126)
name_byte b is = grind (arith, nat_tests)

printable : (b : ℕ) → is_printable b ≡ true → (33 ≤ b) × (b ≤ 126)
printable b is = grind (arith, nat_tests)

some_byte : (bytes : List ℕ) → begins_as is_letter bytes ≡ true → 0 < length bytes
some_byte [] begins = absurd (no_end begins)
some_byte (b ∷ bytes) begins = omega arith

spelled_ident : (bytes rest : List ℕ) → IsAllowed Ident bytes rest → IsSpelled bytes
spelled_ident bytes rest a =
    let ((name, own), short) = a in
    (some_byte bytes name.0, short, λ i byte at. name_byte byte (run_each is_name_byte bytes rest name.1 i byte at))

some_name : (name : List ℕ) → (name ≡ [] → ⊥) → 0 < length name
some_name [] some = absurd (some refl)
some_name (b ∷ name) some = omega arith

spelled_escaped : (bytes rest : List ℕ) → IsAllowed Escaped bytes rest → IsSpelled (drop 1 bytes)
spelled_escaped bytes rest (name, is, (some, run, end), short) =
    let spelled : IsSpelled name = (some_name name some, short, λ i byte at. printable byte (run_each is_printable name rest run i byte at)) in
    subst (λ bs. IsSpelled (drop 1 bs)) (sym is) spelled

spelled_token : (kind : TokenKind) (bytes rest : List ℕ) → IsAllowed kind bytes rest → same Name (sort_of kind bytes) ≡ true → IsSpelled (name_of kind bytes)
spelled_token Ident bytes rest a is = spelled_ident bytes rest a
spelled_token Escaped bytes rest a is = spelled_escaped bytes rest a
spelled_token (NumberKind n) bytes rest a is = absurd (no_end is)
spelled_token (SizedKind w) bytes rest a is = absurd (no_end is)
spelled_token TextKind bytes rest a is = absurd (no_end is)
spelled_token (Mark m) bytes rest a is = absurd (no_end (sym (mark_bare m).no_name ∙ is))
spelled_token OutsideKind bytes rest a is = absurd (no_end is)

sized_token : (kind : TokenKind) (bytes : List ℕ) → HasWord kind → same Sized (sort_of kind bytes) ≡ true → IsSized (word_of kind)
sized_token Ident bytes has is = absurd (no_end (sym (word_no_constant bytes).no_constant ∙ is))
sized_token Escaped bytes has is = absurd (no_end is)
sized_token (NumberKind n) bytes has is = absurd (no_end is)
sized_token (SizedKind w) bytes has is = has
sized_token TextKind bytes has is = absurd (no_end is)
sized_token (Mark m) bytes has is = absurd (no_end (sym (mark_bare m).no_constant ∙ is))
sized_token OutsideKind bytes has is = absurd (no_end is)

-- Texts

-- a token that is a name is spelled
abbrev IsSpelledToken : List ℕ → Token → Type 0
IsSpelledToken text token = is Name (lexeme text token) ≡ true → IsSpelled (name_of token.kind (bytes_of text token))

abbrev AreSpelled : List ℕ → List Token → Type 0
AreSpelled text [] = Unit {0}
AreSpelled text (token ∷ tokens) = IsSpelledToken text token × AreSpelled text tokens

own_bytes : (text before bytes rest : List ℕ) → text ≡ before ++ (bytes ++ rest) → slice_range text (length before) (length before + length bytes) ≡ bytes
own_bytes text before bytes rest is =
    let size : length before + length bytes - length before ≡ length bytes = omega arith in
    rw (is, drop_at before (bytes ++ rest) (length before) refl, size) (take_at bytes rest (length bytes) refl)

cut_spelled : (text : List ℕ) {before rest : List ℕ} {tokens : List Token} {fault : Option NetFault} → text ≡ before ++ rest → Cuts before rest tokens fault → AreSpelled text tokens
cut_spelled text whole (ends none no_tokens no_fault) = rw no_tokens tt
cut_spelled text {before = before} whole (skips bytes rest split s more) =
    cut_spelled text (whole ∙ ap (λ us. before ++ us) split ∙ sym (append_assoc before bytes rest)) more
cut_spelled text {before = before} whole (takes kind bytes rest others split allowed told more) =
    let all : text ≡ before ++ (bytes ++ rest) = whole ∙ ap (λ us. before ++ us) split in
    let own : bytes_of text (token_behind before kind bytes) ≡ bytes = own_bytes text before bytes rest all in
    let one : IsSpelledToken text (token_behind before kind bytes) = λ test. subst (λ bs. IsSpelled (name_of kind bs)) (sym own) (spelled_token kind bytes rest allowed (ap (λ bs. same Name (sort_of kind bs)) (sym own) ∙ test)) in
    subst (AreSpelled text) (sym told) (one, cut_spelled text (all ∙ sym (append_assoc before bytes rest)) more)
cut_spelled text whole (refuses flaw r no_tokens told) = rw no_tokens tt

settled_one : (text : List ℕ) (token : Token) (parenthesis v : Bool) → (is_mark_of 35 token.kind && not parenthesis) ≡ v → IsSpelledToken text token → IsSpelledToken text (settled_token token parenthesis)
settled_one text token parenthesis true is spelled = rw is (λ test. absurd (no_end test))
settled_one text token parenthesis false is spelled = rw is spelled

settled_spelled : (text : List ℕ) (tokens : List Token) → AreSpelled text tokens → AreSpelled text (settled tokens)
settled_spelled text [] all = tt
settled_spelled text (token ∷ tokens) (one, more) = (settled_one text token (parenthesis_next tokens) _ refl one, settled_spelled text tokens more)

-- Limits

abbrev index_excess : Lexeme → Excess
index_excess u = record { kind = Index; count = u.number; place = u.place }

no_excess_below : (large : Bool) (u : Lexeme) → nat_lt 1048575 u.number ≡ large → cond large (Some (index_excess u)) None ≡ None → u.number ≤ 1048575
no_excess_below true u test e = absurd cc
no_excess_below false u test e = grind (arith, nat_tests)

within_limit : (brace : Bool) (x : Excess) (u : Lexeme) → is Number u ≡ true → cond brace (Some x) (cond (is Number u && nat_lt 1048575 u.number) (Some (index_excess u)) None) ≡ None → u.number ≤ 1048575
within_limit true x u number none = absurd cc
within_limit false x u number none = no_excess_below (nat_lt 1048575 u.number) u refl (rw number at none)

index_fine : (before : List Lexeme) (t : Lexeme) (ts : List Lexeme) → IsWithinLimits (before ++ t ∷ []) ts → IsIndexFine t ts
index_fine before t [] within = tt
index_fine before t (u ∷ us) within = λ opens number.
    within_limit _ _ u number (subst (λ i. excess_of (open_braces 0 (before ++ t ∷ [])) i u ≡ None) (index_more before t ∙ opens) within.0)

fine : (text : List ℕ) (before : List Lexeme) (tokens : List Token) → AreSpelled text tokens → All (λ token. HasWord token.kind) tokens → IsWithinLimits before (lexemes text tokens) → AreFine (lexemes text tokens)
fine text before [] spelled words within = tt
fine text before (token ∷ tokens) (one, more) words within =
    let P = λ (t : Token). HasWord t.kind in (
      (one, sized_token token.kind (bytes_of text token) (All-head P token tokens words)),
      index_fine before (lexeme text token) (lexemes text tokens) within.1,
      fine text (before ++ lexeme text token ∷ []) tokens more (All-tail P token tokens words) within.1,
    )

pub read_lexemes : (text : List ℕ) (tokens : List Token) → IsReading text tokens None → IsWithinLimits [] (lexemes text tokens) → IsReadPart (lexemes text tokens)
read_lexemes text tokens (too_long long none fault) within = absurd cc
read_lexemes text tokens (cut_into pieces short cuts is_settled) within =
    let some : AreSpelled text (settled pieces) = settled_spelled text pieces (cut_spelled text refl cuts) in
    let P : List Token → Type 0 = λ us. AreSpelled text us in
    let Q : List Token → Type 0 = λ us. All (λ token. HasWord token.kind) us in
    let few : 0 + length (settled pieces) ≤ length text = count (length text) 0 (settled pieces) (omega arith) (tokens_rise text pieces None cuts) (tokens_within text pieces None cuts) in (
      omega (arith, few, short, length-lexemes text tokens, ap length is_settled),
      fine text [] tokens (subst P (sym is_settled) some) (subst Q (sym is_settled) (tokens_words text pieces None cuts)) within,
    )
