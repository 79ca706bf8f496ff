-- A text is cut into tokens in one way, however large they are.
use Rattle.std.proofs.Common.{◌≡◌, ◌≢◌, ℕ, suc, ◌+◌, ◌^◌, ◌%◌, List, [], ◌∷◌, ◌++◌, Bool, true, false, refl, sym, ◌∙◌, ap, subst, arith, length, take, drop, ◌⊎◌, inl, inr, nat_eq}
use Rattle.std.specs.Prelude.{cond, Option, Some, None, IfSome, slice_range}
use Rattle.std.specs.List.{prefix_len}
use Rattle.std.proofs.lemmas.Bool.{eqb-true}
use Rattle.vlog_lex.specs.declared.bytes.Class.{Class}
use Rattle.vlog_lex.specs.declared.bytes.Class.TheVariants.{Letter, Digit, Backslash}
use Rattle.vlog_lex.specs.declared.constant.Suffix.{Suffix}
use Rattle.vlog_lex.specs.declared.token.Token.{Token}
use Rattle.vlog_lex.specs.declared.token.TokenKind.{TokenKind}
use Rattle.vlog_lex.specs.declared.token.TokenKind.TheVariants.{Ident, Escaped, Number, Sized, Text, Mark, Outside}
use Rattle.ila_base.specs.declared.fault.NetFault.{NetFault}
use Rattle.vlog_lex.specs.declared.token.Flaw.{Flaw}
use Rattle.vlog_lex.specs.declared.token.Flaw.TheVariants.{BadByte, XZ, NameLength, Constant}
use Rattle.vlog_lex.specs.declared.token.Piece.{Piece}
use Rattle.vlog_lex.specs.declared.token.Piece.TheVariants.{Skip, Token as Taken, Refused}
use Rattle.ila_base.specs.Bytes.{is_digit, value}
use Rattle.vlog_lex.specs.Bytes.{is_name_byte, is_number_byte, is_printable, is_mark, class_of}
use Rattle.vlog_lex.specs.Construct.{is_construct}
use Rattle.vlog_lex.specs.Runs.{IsRun}
use Rattle.vlog_lex.specs.Skipped.{Skips, blank, line_comment, block_comment, attribute, timescale, glbl}
use Rattle.vlog_lex.specs.Pieces.{begins_as, IsName, IsEscapedName, Parts, IsConstant, width_of, word_of, IsNumber, opens_attribute, IsOutside, operator, slash, keyword, directive, IsToken}
use Rattle.vlog_lex.specs.Refusals.{Refuses}
use Rattle.vlog_lex.specs.Cutting.{token_behind, refusal_of, Cuts, ends, skips, takes, refuses, settled, IsReading, too_long, cut, IsSizeRefusal, IsCutInto, ends_there, skips_there, takes_there, AreTokens}
use Rattle.vlog_lex.specs.Reading.{suffix_at, by_class, piece_at}
use Rattle.vlog_lex.proofs.RunLaws.{run_length, run_take, run_drop}
use Rattle.vlog_lex.proofs.ClassLaws.{blank_class, letter_class, digit_class, mark_class, operator_class}
use Rattle.vlog_lex.proofs.SkipLaws.{skips_again}
use Rattle.vlog_lex.proofs.ConstantLaws.{behind_number, suffix_value, suffix_is, digits_range, constant_whole, constant_count, Either, number_either}
use Rattle.vlog_lex.proofs.PieceLaws.{token_again, refuses_again, allowed_token, IsSize, token_something}
use Rattle.ila_base.proofs.TextLaws.{same_front}
use Rattle.vlog_lex.proofs.CuttingLaws.{nothing_refused}

-- what a text begins with, as the reader tells it, but for the sizes of tokens
abbrev number_lexeme : ℕ → ℕ → List ℕ → Option Suffix → Piece
number_lexeme width count behind None = Taken (Number width) count
number_lexeme width count behind (Some suffix) =
    cond (nat_eq width 0) (Taken (Number width) count) (Taken (Sized (record { width = width; value = value suffix.base (slice_range behind suffix.digits suffix.end) % 2 ^ width })) (count + suffix.end))

abbrev number_there : List ℕ → Piece
number_there text =
    number_lexeme (value 10 (take (prefix_len is_number_byte text) text)) (prefix_len is_number_byte text) (drop (prefix_len is_number_byte text) text) (suffix_at (drop (prefix_len is_number_byte text) text))

abbrev word_there : List ℕ → Piece
word_there text = cond (is_construct (take (prefix_len is_name_byte text) text)) (Taken Outside (prefix_len is_name_byte text)) (Taken Ident (prefix_len is_name_byte text))

abbrev lexeme_of : Class → ℕ → List ℕ → Piece
lexeme_of Letter b text = word_there (b ∷ text)
lexeme_of Digit b text = number_there (b ∷ text)
lexeme_of Backslash b text = Taken Escaped (prefix_len is_printable text + 1)
lexeme_of class b text = by_class class b text

abbrev lexeme_at : List ℕ → Piece
lexeme_at [] = Refused BadByte
lexeme_at (b ∷ text) = lexeme_of (class_of b) b text

word_run : (text word : List ℕ) (n : ℕ) → take (prefix_len is_name_byte text) text ≡ word → prefix_len is_name_byte text ≡ n → word_there text ≡ cond (is_construct word) (Taken Outside n) (Taken Ident n)
word_run text word n taken count = rw (taken, count) refl

name_there : (bytes rest : List ℕ) → IsName bytes rest → lexeme_at (bytes ++ rest) ≡ cond (is_construct bytes) (Taken Outside (length bytes)) (Taken Ident (length bytes))
name_there [] rest name = cc
name_there (b ∷ bytes) rest name =
    rw (letter_class b name.0) (word_run (b ∷ bytes ++ rest) (b ∷ bytes) (length (b ∷ bytes)) (run_take is_name_byte (b ∷ bytes) rest name.1) (run_length is_name_byte (b ∷ bytes) rest name.1))

number_run_there : (number behind : List ℕ) → IsRun is_number_byte number behind → number_there (number ++ behind) ≡ number_lexeme (value 10 number) (length number) behind (suffix_at behind)
number_run_there number behind run =
    rw (run_take is_number_byte number behind run, run_drop is_number_byte number behind run, run_length is_number_byte number behind run) refl

digit_there : (number behind : List ℕ) → begins_as is_digit number ≡ true → lexeme_at (number ++ behind) ≡ number_there (number ++ behind)
digit_there [] behind begins = cc
digit_there (b ∷ number) behind begins = rw (digit_class b begins) refl

some_width : (n : ℕ) → n ≢ 0 → (v : Bool) → nat_eq n 0 ≡ v → v ≡ false
some_width n some true is = absurd (some (eqb-true n 0 is))
some_width n some false is = refl

constant_there : (p : Parts) (bytes rest : List ℕ) → IsConstant p bytes rest → lexeme_at (bytes ++ rest) ≡ Taken (Sized (word_of p)) (length bytes)
constant_there p bytes rest c =
    let behind = behind_number p rest in
    let width : nat_eq (width_of p) 0 ≡ false = some_width (width_of p) c.some_width (nat_eq (width_of p) 0) refl in
    let with_suffix : number_lexeme (width_of p) (length p.number) behind (suffix_at behind) ≡ Taken (Sized (word_of p)) (length bytes) =
    rw (suffix_value p rest (suffix_is c), width, digits_range p rest, constant_count p bytes rest c) refl in
    ap lexeme_at (constant_whole p bytes rest c) ∙ digit_there p.number behind c.begins ∙ number_run_there p.number behind c.number ∙ with_suffix

whole_of : (number behind : List ℕ) (suffix : Option Suffix) → value 10 number ≡ 0 → number_lexeme (value 10 number) (length number) behind suffix ≡ Taken (Number (value 10 number)) (length number)
whole_of number behind None zero_width = refl
whole_of number behind (Some suffix) zero_width = rw zero_width refl

whole_there : (bytes rest : List ℕ) → IsNumber bytes rest → Either bytes rest → number_lexeme (value 10 bytes) (length bytes) rest (suffix_at rest) ≡ Taken (Number (value 10 bytes)) (length bytes)
whole_there bytes rest n (inl h) = absurd (n.unsized h.p h.bytes h.rest h.whole h.is)
whole_there bytes rest n (inr (inl none, nothing)) = rw none refl
whole_there bytes rest n (inr (inr zero_width, nothing)) = whole_of bytes rest (suffix_at rest) zero_width

number_is_there : (bytes rest : List ℕ) → IsNumber bytes rest → lexeme_at (bytes ++ rest) ≡ Taken (Number (value 10 bytes)) (length bytes)
number_is_there bytes rest n =
    digit_there bytes rest n.begins ∙ number_run_there bytes rest n.number ∙ whole_there bytes rest n (number_either bytes rest n.begins n.number)

escaped_there : (name rest : List ℕ) → IsEscapedName name rest → lexeme_at (92 ∷ name ++ rest) ≡ Taken Escaped (suc (length name))
escaped_there name rest e = rw (run_length is_printable name rest e.1) (ap (λ n. Taken Escaped n) (omega arith))

-- what has no size is told as ever
skips_same : {bytes rest : List ℕ} → Skips bytes rest → lexeme_at (bytes ++ rest) ≡ piece_at (bytes ++ rest)
skips_same (blank b same passes) = rw same (rw (blank_class b passes) refl)
skips_same (line_comment line same run) = rw same refl
skips_same (block_comment comment same inner) = rw same refl
skips_same (attribute inner same not_mark closed) = rw same refl
skips_same (timescale line same word run) = rw same refl
skips_same (glbl blanks part same ifndef blanks_run word first) = rw same refl

skips_there_again : {bytes rest : List ℕ} → Skips bytes rest → lexeme_at (bytes ++ rest) ≡ Skip (length bytes)
skips_there_again s = skips_same s ∙ skips_again s

outside_there : {bytes rest : List ℕ} → IsOutside bytes rest → lexeme_at (bytes ++ rest) ≡ Taken Outside (length bytes)
outside_there (operator b same passes) = rw same (rw (operator_class b passes) refl)
outside_there {bytes = bytes} {rest = rest} (slash same fails) = (let is : lexeme_at (bytes ++ rest) ≡ piece_at (bytes ++ rest) = rw same refl in is) ∙ token_again Outside bytes rest (slash same fails)
outside_there {bytes = bytes} {rest = rest} (keyword name construct) = name_there bytes rest name ∙ rw construct refl
outside_there {bytes = bytes} {rest = rest} (directive word same name nothing) = (let is : lexeme_at (bytes ++ rest) ≡ piece_at (bytes ++ rest) = rw same refl in is) ∙ token_again Outside bytes rest (directive word same name nothing)

mark_there : (m : ℕ) (rest : List ℕ) → (is_mark m ≡ true) ⊎ ((m ≡ 40) × (opens_attribute rest ≡ false)) → lexeme_at (m ∷ rest) ≡ Taken (Mark m) 1
mark_there m rest (inl mark) = rw (mark_class m mark) refl
mark_there m rest (inr p) = rw p.0 (rw p.1 refl)

token_there : (kind : TokenKind) (bytes rest : List ℕ) → IsToken kind bytes rest → lexeme_at (bytes ++ rest) ≡ Taken kind (length bytes)
token_there Ident bytes rest t = name_there bytes rest t.0 ∙ rw t.1 refl
token_there Escaped bytes rest t = rw t.1 (escaped_there t.0 rest t.2)
token_there (Number n) bytes rest t = rw t.1 (number_is_there bytes rest t.0)
token_there (Sized w) bytes rest t = rw t.3 (constant_there t.0 bytes rest t.1)
token_there Text bytes rest t = (let is : lexeme_at (bytes ++ rest) ≡ piece_at (bytes ++ rest) = rw t.1 refl in is) ∙ token_again Text bytes rest t
token_there (Mark m) bytes rest t = rw t.0 (mark_there m rest t.1)
token_there Outside bytes rest t = outside_there t

skip_there : (text bytes rest : List ℕ) → text ≡ bytes ++ rest → Skips bytes rest → lexeme_at text ≡ Skip (length bytes)
skip_there text bytes rest same s = ap lexeme_at same ∙ skips_there_again s

take_there : (kind : TokenKind) (text bytes rest : List ℕ) → text ≡ bytes ++ rest → IsToken kind bytes rest → lexeme_at text ≡ Taken kind (length bytes)
take_there kind text bytes rest same t = ap lexeme_at same ∙ token_there kind bytes rest t

-- how the tokens go on, by what the text begins with
end_next : {before text : List ℕ} {us : List Token} → text ≡ [] → IsCutInto before text us → us ≡ []
end_next none (ends_there same no_tokens) = no_tokens
end_next {text = text} none (skips_there bytes rest same s more) =
    absurd (let told : Skip (length bytes) ≡ Refused BadByte = sym (skip_there text bytes rest same s) ∙ ap lexeme_at none in cc)
end_next {text = text} none (takes_there kind bytes rest tokens same t is more) =
    absurd (let told : Taken kind (length bytes) ≡ Refused BadByte = sym (take_there kind text bytes rest same t) ∙ ap lexeme_at none in cc)

-- the first of the tokens, and those behind it
abbrev Next : List ℕ → TokenKind → List ℕ → List ℕ → List Token → Type 0
Next before kind bytes rest us = (more : List Token) × (us ≡ token_behind before kind bytes ∷ more) × IsCutInto (before ++ bytes) rest more

module _ {before text : List ℕ} (bytes rest : List ℕ) (whole : text ≡ bytes ++ rest) where
  skip_next : {us : List Token} → Skips bytes rest → IsCutInto before text us → IsCutInto (before ++ bytes) rest us
  skip_next s (ends_there none no_tokens) =
      absurd (let told : Skip (length bytes) ≡ Refused BadByte = sym (skip_there text bytes rest whole s) ∙ ap lexeme_at none in cc)
  skip_next {us} s (skips_there front after same other more) =
      let told : Skip (length front) ≡ Skip (length bytes) = sym (skip_there text front after same other) ∙ skip_there text bytes rest whole s in
      let long : length front ≡ length bytes = cc in
      let is = same_front text front after bytes rest same whole long in
      subst (λ r. IsCutInto (before ++ bytes) r us) is.1 (subst (λ b. IsCutInto (before ++ b) after us) is.0 more)
  skip_next s (takes_there kind front after tokens same t is more) =
      absurd (let told : Taken kind (length front) ≡ Skip (length bytes) = sym (take_there kind text front after same t) ∙ skip_there text bytes rest whole s in cc)

  take_next : {us : List Token} (kind : TokenKind) → IsToken kind bytes rest → IsCutInto before text us → Next before kind bytes rest us
  take_next kind t (ends_there none no_tokens) =
      absurd (let told : Taken kind (length bytes) ≡ Refused BadByte = sym (take_there kind text bytes rest whole t) ∙ ap lexeme_at none in cc)
  take_next kind t (skips_there front after same s more) =
      absurd (let told : Skip (length front) ≡ Taken kind (length bytes) = sym (skip_there text front after same s) ∙ take_there kind text bytes rest whole t in cc)
  take_next {us} kind t (takes_there other front after tokens same u is more) =
      let told : Taken other (length front) ≡ Taken kind (length bytes) = sym (take_there other text front after same u) ∙ take_there kind text bytes rest whole t in
      let long : length front ≡ length bytes = cc in
      let same_kind : other ≡ kind = cc in
      let fronts = same_front text front after bytes rest same whole long in
      (tokens, is ∙ (λ i. token_behind before (same_kind i) (fronts.0 i) ∷ tokens), subst (λ r. IsCutInto (before ++ bytes) r tokens) fronts.1 (subst (λ b. IsCutInto (before ++ b) after tokens) fronts.0 more))

one_list : {before text : List ℕ} {ts us : List Token} → IsCutInto before text ts → IsCutInto before text us → ts ≡ us
one_list (ends_there none no_tokens) other = no_tokens ∙ sym (end_next none other)
one_list (skips_there bytes rest same s more) other = one_list more (skip_next bytes rest same s other)
one_list {before = before} (takes_there kind bytes rest tokens same t is more) other =
    let n = take_next bytes rest same kind t other in
    is ∙ ap (λ l. token_behind before kind bytes ∷ l) (one_list more n.2) ∙ sym n.1

-- a text has one list of tokens
pub same_tokens : {text : List ℕ} {ts us : List Token} → AreTokens text ts → AreTokens text us → ts ≡ us
same_tokens a b = a.settled_pieces ∙ ap settled (one_list a.cut b.cut) ∙ sym b.settled_pieces

-- a text that is cut to its end without a fault is cut into tokens
whole_cut : {before text : List ℕ} {ts : List Token} {fault : Option NetFault} → Cuts before text ts fault → fault ≡ None → IsCutInto before text ts
whole_cut (ends none no_tokens no_fault) whole = ends_there none no_tokens
whole_cut (skips bytes rest same s more) whole = skips_there bytes rest same s (whole_cut more whole)
whole_cut (takes kind bytes rest tokens same t is more) whole = takes_there kind bytes rest tokens same (allowed_token kind bytes rest t) is (whole_cut more whole)
whole_cut (refuses flaw r no_tokens is) whole = cc

pub reading_tokens : {text : List ℕ} {ts : List Token} → IsReading text ts None → AreTokens text ts
reading_tokens (too_long long none is) = cc
reading_tokens (cut pieces short c is) = record { pieces = pieces; cut = whole_cut c refl; settled_pieces = is }

-- a text that is cut into tokens is read so, or refused for a size
abbrev Sized_or : List Token → List Token → Option NetFault → Type 0
Sized_or ts us fault = ((fault ≡ None) × (us ≡ ts)) ⊎ IfSome fault (λ f. IsSizeRefusal f.refusal)

size_refusal : (before : List ℕ) (flaw : Flaw) → IsSize flaw → IsSizeRefusal (refusal_of flaw)
size_refusal before BadByte size = absurd size
size_refusal before XZ size = absurd size
size_refusal before (NameLength n) size = tt
size_refusal before (Constant n) size = tt

refused_size : {before text : List ℕ} {ts : List Token} (flaw : Flaw) → Refuses flaw text → IsCutInto before text ts → IsSize flaw
refused_size {text = text} flaw r (ends_there none no_tokens) = absurd (nothing_refused flaw text none r)
refused_size {text = text} flaw r (skips_there bytes rest same s more) =
    absurd (let told : Skip (length bytes) ≡ Refused flaw = sym (ap piece_at same ∙ skips_again s) ∙ refuses_again flaw text r in cc)
refused_size {text = text} flaw r (takes_there kind bytes rest tokens same t is more) = token_something kind bytes rest t flaw (ap piece_at (sym same) ∙ refuses_again flaw text r)

behind_token : (before bytes : List ℕ) (kind : TokenKind) (ts tokens us more : List Token) (fault : Option NetFault) → ts ≡ token_behind before kind bytes ∷ more → us ≡ token_behind before kind bytes ∷ tokens → Sized_or more tokens fault → Sized_or ts us fault
behind_token before bytes kind ts tokens us more fault ts_is us_is (inl same) = inl (same.0, us_is ∙ ap (λ l. token_behind before kind bytes ∷ l) same.1 ∙ sym ts_is)
behind_token before bytes kind ts tokens us more fault ts_is us_is (inr size) = inr size

cut_or_size : {before text : List ℕ} {ts us : List Token} {fault : Option NetFault} → Cuts before text us fault → IsCutInto before text ts → Sized_or ts us fault
cut_or_size (ends none no_tokens no_fault) other = inl (no_fault, no_tokens ∙ sym (end_next none other))
cut_or_size (skips bytes rest same s more) other = cut_or_size more (skip_next bytes rest same s other)
cut_or_size {before = before} (takes kind bytes rest tokens same t is more) other =
    let n = take_next bytes rest same kind (allowed_token kind bytes rest t) other in
    behind_token before bytes kind _ tokens _ n.0 _ n.1 is (cut_or_size more n.2)
cut_or_size {before = before} (refuses flaw r no_tokens is) other =
    inr (subst (λ f. IfSome f (λ f. IsSizeRefusal f.refusal)) (sym is) (size_refusal before flaw (refused_size flaw r other)))

settle_both : {text : List ℕ} {ts us : List Token} {fault : Option NetFault} (a : AreTokens text ts) (pieces : List Token) → us ≡ settled pieces → Sized_or a.pieces pieces fault → Sized_or ts us fault
settle_both a pieces is (inl same) = inl (same.0, is ∙ ap settled same.1 ∙ sym a.settled_pieces)
settle_both a pieces is (inr size) = inr size

pub read_or_size : {text : List ℕ} {ts us : List Token} {fault : Option NetFault} → AreTokens text ts → IsReading text us fault → ((fault ≡ None) × (us ≡ ts)) ⊎ IfSome fault (λ f. IsSizeRefusal f.refusal)
read_or_size a (too_long long none is) = inr (subst (λ f. IfSome f (λ f. IsSizeRefusal f.refusal)) (sym is) tt)
read_or_size a (cut pieces short c is) = settle_both a pieces is (cut_or_size c a.cut)
