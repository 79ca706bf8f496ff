-- One piece on through a text.
use Rattle.std.proofs.Common.{◌≡◌, ◌≢◌, ℕ, ◌+◌, ◌<◌, ◌≤◌, List, [], ◌∷◌, ◌++◌, refl, sym, ◌∙◌, ap, subst, arith, length, take, drop, append_assoc, length-drop, length-take-le}
use Rattle.std.specs.Prelude.{Option, Some, None}
use Rattle.std.proofs.lemmas.List.{drop_all, append-nil}
use Rattle.ila_base.specs.declared.place.Place.{Place}
use Rattle.tsm_parse.specs.declared.token.Token.{Token}
use Rattle.tsm_parse.specs.declared.types.TsmStop.{TsmStop}
use Rattle.tsm_parse.specs.declared.types.TsmStop.TheVariants.{Refused, NoMemory}
use Rattle.tsm_parse.specs.declared.piece.Piece.{Piece}
use Rattle.tsm_parse.specs.declared.piece.Piece.TheVariants.{Skip, Token as Taken, Nothing}
use Rattle.tsm_parse.specs.Tokens.{IsLongest, token_behind, Cuts, ends, skips, takes, stops, StopsAt}
use Rattle.ila_base.specs.Places.{place_behind}
use Rattle.tsm_parse.specs.Reading.{piece_at, bytes_of, IsTaken, IsNothing}
use Rattle.ila_base.proofs.TextLaws.{Begins, rest_behind, front_with, front_within}
use Rattle.tsm_parse.proofs.PieceLaws.{Told, piece_told}

some_left : (text : List ℕ) (at : ℕ) → at < length text → drop at text ≢ []
some_left text at within none = omega (arith, length-drop at text, ap length none)

-- however what is left is cut, the whole is cut so behind the tokens
abbrev pub Rests : List ℕ → ℕ → List Token → Type 0
Rests text at tokens = (more : List Token) (fault : Option Place) → Cuts (take at text) (drop at text) more fault → Cuts [] text (tokens ++ more) fault

module _ (text : List ℕ) (at : ℕ) (within : at < length text) where
  told : (piece : Piece) → piece ≡ piece_at (drop at text) → Told piece (drop at text)
  told piece is = subst (λ p. Told p (drop at text)) (sym is) (piece_told (drop at text) (some_left text at within))

  moved : {R : List ℕ → List ℕ → Type 0} {n : ℕ} (b : Begins R n (drop at text)) (count : ℕ) (more : List Token) (fault : Option Place) → count ≡ n → Cuts (take (at + count) text) (drop (at + count) text) more fault → Cuts (take at text ++ b.bytes) b.rest more fault
  moved {n = n} b count more fault same c =
      let here : Cuts (take (at + n) text) (drop (at + n) text) more fault = subst (λ k. Cuts (take (at + k) text) (drop (at + k) text) more fault) same c in
      subst (λ r. Cuts (take at text ++ b.bytes) r more fault) (rest_behind text at within b) (subst (λ f. Cuts f (drop (at + n) text) more fault) (front_with text at within b) here)

  told_within : (piece : Piece) → Told piece (drop at text) → at + bytes_of piece ≤ length text
  told_within (Skip n) t = front_within text at within t
  told_within (Taken sort n) t = front_within text at within t
  told_within Nothing t = omega arith

  -- a piece is within the text
  pub piece_within : (piece : Piece) → piece ≡ piece_at (drop at text) → at + bytes_of piece ≤ length text
  piece_within piece is = told_within piece (told piece is)

  taken_count : (place : Place) (piece : Piece) (count : ℕ) (old new : List Token) → Told piece (drop at text) → IsTaken at place piece count old new → (0 < count) × (at + count ≤ length text)
  taken_count place (Skip n) count old new t taken = (omega (arith, t.some, taken.0), omega (arith, front_within text at within t, taken.0))
  taken_count place (Taken sort n) count old new t taken = (omega (arith, t.some, taken.0), omega (arith, front_within text at within t, taken.0))
  taken_count place Nothing count old new t taken = absurd taken

  -- a piece that is taken has bytes of the text
  pub taken_within : (place : Place) (piece : Piece) (count : ℕ) (old new : List Token) → piece ≡ piece_at (drop at text) → IsTaken at place piece count old new → (0 < count) × (at + count ≤ length text)
  taken_within place piece count old new is taken = taken_count place piece count old new (told piece is) taken

  rests : (place : Place) (piece : Piece) (count : ℕ) (old new : List Token) → place ≡ place_behind (take at text) → Told piece (drop at text) → IsTaken at place piece count old new → Rests text at old → Rests text (at + count) new
  rests place (Skip n) count old new there t taken so more fault c =
      rw taken.1 (so more fault (skips t.bytes t.rest t.whole t.holds (moved t count more fault taken.0 c)))
  rests place (Taken sort n) count old new there t taken so more fault c =
      let long : at ≡ length (take at text) = sym (length-take-le at text (omega arith)) in
      let longest : IsLongest (drop at text) (length t.bytes) = subst (λ l. IsLongest l (length t.bytes)) (sym t.whole) t.holds.longest in
      let token : Token = record { sort = sort; place = place; start = at; end = at + n } in
      let same : token ∷ more ≡ token_behind (take at text) t.bytes ∷ more = (λ i. record { sort = t.holds.sorted i; place = there i; start = long i; end = long i + t.count i } ∷ more) in
      rw (taken.1, append_assoc old (token ∷ []) more) (so (token ∷ more) fault (takes t.bytes t.rest more t.whole longest same (moved t count more fault taken.0 c)))
  rests place Nothing count old new there t taken so more fault c = absurd taken

  pub piece_rests : (place : Place) (piece : Piece) (count : ℕ) (old new : List Token) → place ≡ place_behind (take at text) → piece ≡ piece_at (drop at text) → IsTaken at place piece count old new → Rests text at old → Rests text (at + count) new
  piece_rests place piece count old new there is taken so = rests place piece count old new there (told piece is) taken so

  -- the text is refused where nothing is
  pub piece_refused : (place stop : Place) (piece : Piece) (tokens : List Token) → place ≡ place_behind (take at text) → piece ≡ piece_at (drop at text) → IsNothing piece → stop ≡ place → Rests text at tokens → Cuts [] text tokens (Some stop)
  piece_refused place stop (Skip n) tokens there is nothing at_place so = absurd nothing
  piece_refused place stop (Taken sort n) tokens there is nothing at_place so = absurd nothing
  piece_refused place stop Nothing tokens there is nothing at_place so =
      subst (λ ts. Cuts [] text ts (Some stop)) (append-nil tokens) (so [] (Some stop) (stops (told Nothing is) refl (ap Some (at_place ∙ there))))

-- at its end a text is cut
pub rests_end : (text : List ℕ) (at : ℕ) (tokens : List Token) → length text ≤ at → Rests text at tokens → Cuts [] text tokens None
rests_end text at tokens past so = subst (λ ts. Cuts [] text ts None) (append-nil tokens) (so [] None (ends (drop_all at text past) refl refl))

-- a stop at the piece is a stop of the whole text
pub piece_stops : (text : List ℕ) (at : ℕ) → at < length text → (place : Place) (piece : Piece) (tokens : List Token) (stop : TsmStop) → place ≡ place_behind (take at text) → piece ≡ piece_at (drop at text) → Rests text at tokens
    → StopsAt (λ p. IsNothing piece × (p ≡ place)) stop → StopsAt (λ p. (ts : List Token) × Cuts [] text ts (Some p)) stop
piece_stops text at within place piece tokens (Refused fault) there is so told = (told.0, (tokens, piece_refused text at within place fault.place piece tokens there is told.1.0 told.1.1 so))
piece_stops text at within place piece tokens NoMemory there is so told = tt
