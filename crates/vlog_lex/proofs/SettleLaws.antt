-- Tokens that are settled one by one, as the next one comes.
use Rattle.std.proofs.Common.{◌≡◌, ℕ, zero, suc, ◌+◌, List, [], ◌∷◌, ◌++◌, Bool, true, false, not, ◌&&◌, refl, sym, ◌∙◌, ap, arith, length, set, get_or}
use Rattle.ila_base.specs.declared.place.Place.{Place}
use Rattle.vlog_lex.specs.declared.token.Token.{Token}
use Rattle.vlog_lex.specs.declared.token.Piece.{Piece}
use Rattle.vlog_lex.specs.declared.token.Piece.TheVariants.{Skip, Token as Taken, Refused}
use Rattle.vlog_lex.specs.declared.token.TokenKind.TheVariants.{Outside}
use Rattle.vlog_lex.specs.Cutting.{is_mark_of, settled_token, settled}
use Rattle.vlog_lex.specs.Taking.{settled_last, IsTaken}

-- The last token

same_token : (token : Token) (b v : Bool) → (is_mark_of 35 token.kind && not b) ≡ v → v ≡ false → settled_token token b ≡ token
same_token token b true is fails = absurd cc
same_token token b false is fails = rw is refl

and_false : (b : Bool) → (b && false) ≡ false
and_false true = refl
and_false false = refl

-- a token before a `(` stays
pub kept_before : (tokens : List Token) (b : Bool) → b ≡ true → tokens ≡ settled_last tokens b
kept_before [] b is = refl
kept_before (token ∷ []) b is =
    let no : (is_mark_of 35 token.kind && not b) ≡ false = ap (λ v. is_mark_of 35 token.kind && not v) is ∙ and_false (is_mark_of 35 token.kind) in
    ap (λ t. t ∷ []) (sym (same_token token b _ refl no))
kept_before (token ∷ next ∷ tokens) b is = ap (λ ts. token ∷ ts) (kept_before (next ∷ tokens) b is)

-- so does one that is no `#`
pub kept_other : (tokens : List Token) (n : ℕ) (last : Token) (b : Bool) → length tokens ≡ suc n → last ≡ get_or tokens n last → is_mark_of 35 last.kind ≡ false → tokens ≡ settled_last tokens b
kept_other [] n last b long is other = absurd (omega (arith, long))
kept_other (token ∷ []) n last b long is other =
    let first : n ≡ 0 = omega (arith, long) in
    let same : last ≡ token = is ∙ ap (λ k. get_or (token ∷ []) k last) first in
    let no : (is_mark_of 35 token.kind && not b) ≡ false = ap (λ v. v && not b) (ap (λ t. is_mark_of 35 t.kind) (sym same) ∙ other) in
    ap (λ t. t ∷ []) (sym (same_token token b _ refl no))
kept_other (token ∷ next ∷ tokens) zero last b long is other = absurd (omega (arith, long))
kept_other (token ∷ next ∷ tokens) (suc n) last b long is other = ap (λ ts. token ∷ ts) (kept_other (next ∷ tokens) n last b (omega (arith, long)) is other)

-- and a `#` is made what it is where no `(` follows
pub changed_last : (tokens : List Token) (n : ℕ) (last : Token) (b : Bool) → length tokens ≡ suc n → last ≡ get_or tokens n last → is_mark_of 35 last.kind ≡ true → b ≡ false
    → set tokens n (record last { kind = Outside }) ≡ settled_last tokens b
changed_last [] n last b long is mark other = absurd (omega (arith, long))
changed_last (token ∷ []) zero last b long is mark other = rw (sym is, other, mark) refl
changed_last (token ∷ []) (suc n) last b long is mark other = absurd (omega (arith, long))
changed_last (token ∷ next ∷ tokens) zero last b long is mark other = absurd (omega (arith, long))
changed_last (token ∷ next ∷ tokens) (suc n) last b long is mark other = ap (λ ts. token ∷ ts) (changed_last (next ∷ tokens) n last b (omega (arith, long)) is mark other)

-- All tokens

-- the tokens of these pieces, with the last not settled yet
abbrev pub open_last : List Token → List Token
open_last [] = []
open_last (token ∷ []) = token ∷ []
open_last (token ∷ next ∷ tokens) = settled_token token (is_mark_of 40 next.kind) ∷ open_last (next ∷ tokens)

behind_first : (first token : Token) (tokens : List Token) (b : Bool) → settled_last (first ∷ open_last (token ∷ tokens)) b ≡ first ∷ settled_last (open_last (token ∷ tokens)) b
behind_first first token [] b = refl
behind_first first token (next ∷ tokens) b = refl

open_more : (tokens : List Token) (new : Token) → settled_last (open_last tokens) (is_mark_of 40 new.kind) ++ new ∷ [] ≡ open_last (tokens ++ new ∷ [])
open_more [] new = refl
open_more (token ∷ []) new = refl
open_more (token ∷ next ∷ tokens) new =
    ap (λ ts. ts ++ new ∷ []) (behind_first (settled_token token (is_mark_of 40 next.kind)) next tokens (is_mark_of 40 new.kind))
    ∙ ap (λ ts. settled_token token (is_mark_of 40 next.kind) ∷ ts) (open_more (next ∷ tokens) new)

-- at the end all are settled
pub open_end : (tokens : List Token) → settled_last (open_last tokens) false ≡ settled tokens
open_end [] = refl
open_end (token ∷ []) = refl
open_end (token ∷ next ∷ tokens) =
    behind_first (settled_token token (is_mark_of 40 next.kind)) next tokens false
    ∙ ap (λ ts. settled_token token (is_mark_of 40 next.kind) ∷ ts) (open_end (next ∷ tokens))

-- a piece with so many bytes is skipped, or is a token that comes behind the others
abbrev pub IsCutOff : ℕ → Place → Piece → ℕ → List Token → List Token → Type 0
IsCutOff at place (Skip n) count old new = (count ≡ n) × (new ≡ old)
IsCutOff at place (Taken kind n) count old new = (count ≡ n)
    × (new ≡ old ++ record { kind = kind; place = place; start = at; end = at + n } ∷ [])
IsCutOff at place (Refused flaw) count old new = ⊥

-- what is cut off comes behind the pieces
pub follows : (at : ℕ) (place : Place) (piece : Piece) (count : ℕ) (old new pieces : List Token) → old ≡ open_last pieces → IsTaken at place piece count old new
    → (more : List Token) × IsCutOff at place piece count pieces more × (new ≡ open_last more)
follows at place (Skip n) count old new pieces is taken = (pieces, (taken.0, refl), taken.1 ∙ is)
follows at place (Taken kind n) count old new pieces is taken =
    let token : Token = record { kind = kind; place = place; start = at; end = at + n } in
    (pieces ++ token ∷ [], (taken.0, refl), taken.1 ∙ ap (λ ts. settled_last ts (is_mark_of 40 kind) ++ token ∷ []) is ∙ open_more pieces token)
follows at place (Refused flaw) count old new pieces is taken = absurd taken
