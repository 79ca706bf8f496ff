-- What a piece adds to the tokens.
use Rattle.std.specs.Prelude.{◌≡◌, ℕ, ◌+◌, Bool, List, [], ◌∷◌, ◌++◌}
use Rattle.ila_base.specs.declared.place.Place.{Place}
use Rattle.vlog_lex.specs.declared.token.Token.{Token as TokenOf}
use Rattle.ila_base.specs.declared.fault.NetFault.{NetFault}
use Rattle.vlog_lex.specs.declared.token.Piece.{Piece}
use Rattle.vlog_lex.specs.declared.token.Piece.TheVariants.{Skip, Token, Refused}
use Rattle.vlog_lex.specs.Cutting.{refusal_of, is_mark_of, settled_token}

-- the tokens, of which the last is settled: a `(` comes behind it or doesn't
abbrev pub settled_last : List TokenOf → Bool → List TokenOf
settled_last [] parenthesis = []
settled_last (token ∷ []) parenthesis = settled_token token parenthesis ∷ []
settled_last (token ∷ next ∷ tokens) parenthesis = token ∷ settled_last (next ∷ tokens) parenthesis

-- a piece with so many bytes is skipped, or is a token that comes behind the others, of which the last is settled then
abbrev pub IsTaken : ℕ → Place → Piece → ℕ → List TokenOf → List TokenOf → Type 0
IsTaken at place (Skip n) count old new = (count ≡ n) × (new ≡ old)
IsTaken at place (Token kind n) count old new = (count ≡ n)
    × (new ≡ settled_last old (is_mark_of 40 kind) ++ record { kind = kind; place = place; start = at; end = at + n } ∷ [])
IsTaken at place (Refused flaw) count old new = ⊥

-- the piece is a flaw, and this is its fault
abbrev pub IsFlawAt : Place → Piece → NetFault → Type 0
IsFlawAt place (Skip n) fault = ⊥
IsFlawAt place (Token kind n) fault = ⊥
IsFlawAt place (Refused flaw) fault = fault ≡ record { refusal = refusal_of flaw; place = place }
