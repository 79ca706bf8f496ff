-- What holds of each token of a text.
use Rattle.std.proofs.Common.{◌≡◌, ◌≢◌, ℕ, ◌+◌, ◌^◌, ◌<◌, ◌≤◌, List, [], ◌∷◌, Bool, true, false, refl, sym, ap, subst, arith, length, length-append}
use Rattle.std.specs.Prelude.{Option, not, ◌&&◌, All}
use Rattle.std.proofs.lemmas.List.Elements.{All-nil, All-cons, All-head, All-tail}
use Rattle.std.proofs.lemmas.Nat.{pow_pos}
use Rattle.vlog_lex.specs.declared.token.Token.{Token}
use Rattle.vlog_lex.specs.declared.token.TokenKind.{TokenKind}
use Rattle.vlog_lex.specs.declared.token.TokenKind.TheVariants.{Ident, Escaped, Number, Sized, Text, Mark, Outside}
use Rattle.ila_base.specs.declared.fault.NetFault.{NetFault}
use Rattle.vlog_lex.specs.declared.token.Flaw.TheVariants.{BadByte}
use Rattle.vlog_lex.specs.declared.token.Piece.TheVariants.{Token as Taken, Refused}
use Rattle.ila_base.specs.Bytes.{value}
use Rattle.vlog_lex.specs.Pieces.{Parts, width_of, word_of}
use Rattle.vlog_lex.specs.Refusals.{IsAllowed}
use Rattle.vlog_lex.specs.Cutting.{token_behind, Cuts, ends, skips, takes, refuses, is_mark_of, settled_token, settled, IsWithin, RiseFrom, HasWord}
use Rattle.vlog_lex.proofs.Found.{Found}
use Rattle.vlog_lex.proofs.PieceLaws.{token_again, piece_found}

-- a token has bytes
empty_token : (kind : TokenKind) (rest : List ℕ) → rest ≢ [] → IsAllowed kind [] rest → ⊥
empty_token kind rest some t =
    let found : Found (Taken kind 0) rest = subst (λ p. Found p rest) (token_again kind [] rest t) (piece_found rest some) in
    omega (arith, found.some)

token_some : (kind : TokenKind) (bytes rest : List ℕ) → IsAllowed kind bytes rest → 0 < length bytes
token_some kind [] [] t = let told : Refused BadByte ≡ Taken kind 0 = token_again kind [] [] t in cc
token_some kind [] (b ∷ rest) t = absurd (empty_token kind (b ∷ rest) (λ none. cc) t)
token_some kind (b ∷ bytes) rest t = omega arith

word_small : (p : Parts) → value 10 p.number ≢ 0 → width_of p ≤ 128 → HasWord (Sized (word_of p))
word_small p some narrow =
    let positive : 0 < 2 ^ width_of p = pow_pos (width_of p) in
    (omega arith, narrow, omega arith)

has_word : (kind : TokenKind) (bytes rest : List ℕ) → IsAllowed kind bytes rest → HasWord kind
has_word Ident bytes rest t = tt
has_word Escaped bytes rest t = tt
has_word (Number n) bytes rest t = tt
has_word (Sized w) bytes rest t = subst (λ w. HasWord (Sized w)) (sym t.5) (word_small t.0 t.1.some_width t.3)
has_word Text bytes rest t = tt
has_word (Mark m) bytes rest t = tt
has_word Outside bytes rest t = tt

pub cut_rise : {before text : List ℕ} {tokens : List Token} {fault : Option NetFault} → Cuts before text tokens fault → (from : ℕ) → from ≤ length before → RiseFrom from tokens
cut_rise (ends none no_tokens no_fault) from behind = rw no_tokens tt
cut_rise {before = before} (skips bytes rest same s more) from behind = cut_rise more from (omega (arith, length-append before bytes))
cut_rise {before = before} (takes kind bytes rest tokens same t is more) from behind =
    rw is (behind, cut_rise more (length before + length bytes) (omega (arith, length-append before bytes)))
cut_rise (refuses flaw r no_tokens is) from behind = rw no_tokens tt

pub cut_within : {before text : List ℕ} {tokens : List Token} {fault : Option NetFault} → Cuts before text tokens fault → (n : ℕ) → length before + length text ≤ n → All (IsWithin n) tokens
cut_within (ends none no_tokens no_fault) n room = rw no_tokens (All-nil (IsWithin n))
cut_within {before = before} (skips bytes rest same s more) n room =
    cut_within more n (omega (arith, length-append before bytes, ap length same, length-append bytes rest))
cut_within {before = before} (takes kind bytes rest tokens same t is more) n room =
    let there : IsWithin n (token_behind before kind bytes) = (omega (arith, token_some kind bytes rest t), omega (arith, ap length same, length-append bytes rest)) in
    rw is (All-cons (IsWithin n) (token_behind before kind bytes) tokens there (cut_within more n (omega (arith, length-append before bytes, ap length same, length-append bytes rest))))
cut_within (refuses flaw r no_tokens is) n room = rw no_tokens (All-nil (IsWithin n))

abbrev TokenHasWord : Token → Type 0
TokenHasWord token = HasWord token.kind

pub cut_words : {before text : List ℕ} {tokens : List Token} {fault : Option NetFault} → Cuts before text tokens fault → All TokenHasWord tokens
cut_words (ends none no_tokens no_fault) = rw no_tokens (All-nil TokenHasWord)
cut_words (skips bytes rest same s more) = cut_words more
cut_words {before = before} (takes kind bytes rest tokens same t is more) =
    rw is (All-cons TokenHasWord (token_behind before kind bytes) tokens (has_word kind bytes rest t) (cut_words more))
cut_words (refuses flaw r no_tokens is) = rw no_tokens (All-nil TokenHasWord)

-- what a settled token keeps
settled_keeps : (P : Token → Type 0) → ((token : Token) → P token → P (record token { kind = Outside })) → (token : Token) (b v : Bool) → (is_mark_of 35 token.kind && not b) ≡ v → P token → P (settled_token token b)
settled_keeps P keeps token b true is holds = rw is (keeps token holds)
settled_keeps P keeps token b false is holds = rw is holds

settled_all : (P : Token → Type 0) → ((token : Token) → P token → P (record token { kind = Outside })) → (tokens : List Token) → All P tokens → All P (settled tokens)
settled_all P keeps [] all = All-nil P
settled_all P keeps (token ∷ tokens) all =
    All-cons P _ (settled tokens) (settled_keeps P keeps token _ _ refl (All-head P token tokens all)) (settled_all P keeps tokens (All-tail P token tokens all))

-- a token keeps its bytes
rise_one : (token : Token) (b v : Bool) (from : ℕ) (tokens : List Token) → (is_mark_of 35 token.kind && not b) ≡ v → from ≤ token.start → RiseFrom token.end tokens → RiseFrom from (settled_token token b ∷ tokens)
rise_one token b true from tokens is behind rise = rw is (behind, rise)
rise_one token b false from tokens is behind rise = rw is (behind, rise)

settled_rise : (from : ℕ) (tokens : List Token) → RiseFrom from tokens → RiseFrom from (settled tokens)
settled_rise from [] rise = tt
settled_rise from (token ∷ tokens) rise = rise_one token _ _ from (settled tokens) refl rise.0 (settled_rise token.end tokens rise.1)

pub settled_within : (n : ℕ) (tokens : List Token) → All (IsWithin n) tokens → All (IsWithin n) (settled tokens)
settled_within n tokens all = settled_all (IsWithin n) (λ token holds. holds) tokens all

pub settled_words : (tokens : List Token) → All TokenHasWord tokens → All TokenHasWord (settled tokens)
settled_words tokens all = settled_all TokenHasWord (λ token holds. tt) tokens all

pub tokens_rise : (text : List ℕ) (tokens : List Token) (fault : Option NetFault) → Cuts [] text tokens fault → RiseFrom 0 (settled tokens)
tokens_rise text tokens fault c = settled_rise 0 tokens (cut_rise c 0 (omega arith))

pub tokens_within : (text : List ℕ) (tokens : List Token) (fault : Option NetFault) → Cuts [] text tokens fault → All (IsWithin (length text)) (settled tokens)
tokens_within text tokens fault c = settled_within (length text) tokens (cut_within c (length text) (omega arith))

pub tokens_words : (text : List ℕ) (tokens : List Token) (fault : Option NetFault) → Cuts [] text tokens fault → All TokenHasWord (settled tokens)
tokens_words text tokens fault c = settled_words tokens (cut_words c)
