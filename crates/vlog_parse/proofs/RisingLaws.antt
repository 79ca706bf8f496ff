-- The places of a text's tokens rise, by their lines and in a line by their columns.
use Rattle.std.proofs.Common.{◌≡◌, refl, sym, ◌∙◌, ap, subst, ℕ, ◌+◌, ◌<◌, Bool, true, false, cond, not, ◌&&◌, List, [], ◌∷◌, ◌++◌, map, length, arith, ◌⊎◌, inl, inr, append_assoc, append-nil, Option, None}
use Rattle.std.specs.Prelude.{count_by, All}
use Rattle.std.specs.List.{suffix_len, prefix_len}
use Rattle.std.proofs.lemmas.List.{reverse-append}
use Rattle.std.proofs.lemmas.List.Elements.{All-head, All-tail}
use Rattle.std.proofs.lemmas.List.Sums.{sum_by_push}
use Rattle.ila_base.specs.declared.place.Place.{Place}
use Rattle.ila_base.specs.declared.fault.NetFault.{NetFault}
use Rattle.vlog_lex.specs.declared.token.Token.{Token}
use Rattle.ila_base.specs.Bytes.{is_newline, is_in_line}
use Rattle.vlog_lex.specs.Cutting.{IsReading, too_long, cut as cut_into, Cuts, ends, skips, takes, refuses, token_behind, is_mark_of, parenthesis_next, settled_token, settled, IsWithin}
use Rattle.ila_base.specs.Places.{place_behind}
use Rattle.vlog_lex.proofs.TokenLaws.{cut_within}
use Rattle.vlog_parse.specs.Lexemes.{lexemes}
use Rattle.vlog_parse.specs.Items.{place_of}
use Rattle.ila_base.specs.declared.place.TheConstants.Place.{NOWHERE}

-- the place stands before the other one in a text
abbrev pub IsBefore : Place → Place → Type 0
IsBefore p q = (p.line < q.line) ⊎ ((p.line ≡ q.line) × (p.col < q.col))

pub before_that : (p q r : Place) → IsBefore p q → IsBefore q r → IsBefore p r
before_that p q r (inl one) (inl other) = inl (omega (arith, one, other))
before_that p q r (inl one) (inr (same, other)) = inl (omega (arith, one, same))
before_that p q r (inr (same, one)) (inl other) = inl (omega (arith, same, other))
before_that p q r (inr (same, one)) (inr (also, other)) = inr (same ∙ also, omega (arith, one, other))

pub not_before : (p : Place) → IsBefore p p → ⊥
not_before p (inl less) = omega (arith, less)
not_before p (inr (same, less)) = omega (arith, less)

-- the first of the places stands behind this one, and each behind the one before it
abbrev pub RiseBehind : Place → List Place → Type 0
RiseBehind p [] = Unit {0}
RiseBehind p (q ∷ qs) = IsBefore p q × RiseBehind q qs

pub rise_before : (p q : Place) (qs : List Place) → IsBefore p q → RiseBehind q qs → RiseBehind p qs
rise_before p q [] first rise = tt
rise_before p q (r ∷ qs) first rise = (before_that p q r first rise.0, rise.1)

-- Places in a text

lines : (before : List ℕ) (b : ℕ) → count_by is_newline (before ++ b ∷ []) ≡ count_by is_newline before + cond (is_newline b) 1 0
lines before b = sum_by_push (λ (x : ℕ). cond (is_newline x) 1 0) before b

columns : (before : List ℕ) (b : ℕ) → suffix_len is_in_line (before ++ b ∷ []) ≡ cond (not (is_newline b)) (1 + suffix_len is_in_line before) 0
columns before b = ap (prefix_len is_in_line) (reverse-append before (b ∷ []))

-- the place behind one more byte
place_step : (before : List ℕ) (b : ℕ) (v : Bool) → is_newline b ≡ v → IsBefore (place_behind before) (place_behind (before ++ b ∷ []))
place_step before b true is =
    let line : count_by is_newline (before ++ b ∷ []) ≡ count_by is_newline before + 1 = lines before b ∙ ap (λ t. count_by is_newline before + cond t 1 0) is in
    inl (omega (arith, line))
place_step before b false is =
    let line : count_by is_newline (before ++ b ∷ []) ≡ count_by is_newline before + 0 = lines before b ∙ ap (λ t. count_by is_newline before + cond t 1 0) is in
    let col : suffix_len is_in_line (before ++ b ∷ []) ≡ 1 + suffix_len is_in_line before = columns before b ∙ ap (λ t. cond (not t) (1 + suffix_len is_in_line before) 0) is in
    inr (omega (arith, line), omega (arith, col))

-- what stands before a place in a text stands before each later one
before_more : (p : Place) (before bytes : List ℕ) → IsBefore p (place_behind before) → IsBefore p (place_behind (before ++ bytes))
before_more p before [] first = subst (λ us. IsBefore p (place_behind us)) (sym (append-nil before)) first
before_more p before (b ∷ bytes) first =
    let next : IsBefore p (place_behind (before ++ b ∷ [])) = before_that p (place_behind before) (place_behind (before ++ b ∷ [])) first (place_step before b _ refl) in
    subst (λ us. IsBefore p (place_behind us)) (append_assoc before (b ∷ []) bytes) (before_more p (before ++ b ∷ []) bytes next)

before_bytes : (before bytes : List ℕ) → 0 < length bytes → IsBefore (place_behind before) (place_behind (before ++ bytes))
before_bytes before [] some = absurd (omega (arith, some))
before_bytes before (b ∷ bytes) some =
    subst (λ us. IsBefore (place_behind before) (place_behind us)) (append_assoc before (b ∷ []) bytes)
    (before_more (place_behind before) (before ++ b ∷ []) bytes (place_step before b _ refl))

-- Tokens

abbrev token_place : Token → Place
token_place token = token.place

-- the places of the tokens that a text is cut into rise from the place where the cut begins
cut_rise : (n : ℕ) {before text : List ℕ} {tokens : List Token} {fault : Option NetFault} → Cuts before text tokens fault → All (IsWithin n) tokens → (p : Place) → IsBefore p (place_behind before)
    → RiseBehind p (map token_place tokens)
cut_rise n (ends none no_tokens no_fault) within p first = rw no_tokens tt
cut_rise n {before = before} (skips bytes rest same s more) within p first = cut_rise n more within p (before_more p before bytes first)
cut_rise n {before = before} (takes kind bytes rest tokens same t is more) within p first =
    let all : All (IsWithin n) (token_behind before kind bytes ∷ tokens) = subst (All (IsWithin n)) is within in
    let one : IsWithin n (token_behind before kind bytes) = All-head (IsWithin n) (token_behind before kind bytes) tokens all in
    rw is (
      first,
      cut_rise n more (All-tail (IsWithin n) (token_behind before kind bytes) tokens all) (place_behind before) (before_bytes before bytes (omega (arith, one.0))),
    )
cut_rise n (refuses flaw r no_tokens is) within p first = rw no_tokens tt

-- a token keeps its place
settled_place : (token : Token) (b v : Bool) → (is_mark_of 35 token.kind && not b) ≡ v → token_place (settled_token token b) ≡ token_place token
settled_place token b true is = rw is refl
settled_place token b false is = rw is refl

settled_places : (tokens : List Token) → map token_place (settled tokens) ≡ map token_place tokens
settled_places [] = refl
settled_places (token ∷ tokens) = λ i. settled_place token (parenthesis_next tokens) _ refl i ∷ settled_places tokens i

lexeme_places : (text : List ℕ) (tokens : List Token) → map place_of (lexemes text tokens) ≡ map token_place tokens
lexeme_places text [] = refl
lexeme_places text (token ∷ tokens) = ap (λ ps. token_place token ∷ ps) (lexeme_places text tokens)

-- the places of a text's tokens rise
pub places_rise : (text : List ℕ) (tokens : List Token) → IsReading text tokens None → RiseBehind NOWHERE (map place_of (lexemes text tokens))
places_rise text tokens (too_long long none fault) = absurd cc
places_rise text tokens (cut_into pieces short cuts is) =
    let rise : RiseBehind NOWHERE (map token_place pieces) = cut_rise (length text) cuts (cut_within cuts (length text) (omega arith)) NOWHERE (inl (omega arith)) in
    let places : map place_of (lexemes text tokens) ≡ map token_place pieces = lexeme_places text tokens ∙ ap (map token_place) is ∙ settled_places pieces in
    subst (RiseBehind NOWHERE) (sym places) rise
