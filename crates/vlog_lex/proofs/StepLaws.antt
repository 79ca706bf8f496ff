-- One piece on through a text.
use Rattle.std.proofs.Common.{◌≡◌, ◌≢◌, ℕ, ◌+◌, ◌<◌, ◌≤◌, List, [], ◌∷◌, ◌++◌, refl, sym, ◌∙◌, ap, subst, arith, length, take, drop, append_assoc, length-drop, length-take-le}
use Rattle.std.specs.Prelude.{Option, Some, None}
use Rattle.std.proofs.lemmas.List.{drop_all, append-nil}
use Rattle.ila_base.proofs.TextLaws.{rest_behind, front_with, front_within}
use Rattle.ila_base.specs.declared.place.Place.{Place}
use Rattle.vlog_lex.specs.declared.token.Token.{Token}
use Rattle.ila_base.specs.declared.fault.NetFault.{NetFault}
use Rattle.ila_base.specs.declared.fault.NetStop.{NetStop}
use Rattle.ila_base.specs.declared.fault.NetStop.TheVariants.{Refused as Stopped, NoMemory}
use Rattle.vlog_lex.specs.declared.token.Piece.{Piece}
use Rattle.vlog_lex.specs.declared.token.Piece.TheVariants.{Skip, Token as Taken, Refused}
use Rattle.ila_base.specs.Places.{place_behind}
use Rattle.vlog_lex.specs.Cutting.{token_behind, refusal_of, fault_behind, Cuts, ends, skips, takes, refuses, settled, IsReading, cut}
use Rattle.ila_base.specs.Stops.{StopsFor}
use Rattle.vlog_lex.specs.Reading.{piece_at, bytes_of}
use Rattle.vlog_lex.specs.Taking.{IsTaken, IsFlawAt}
use Rattle.vlog_lex.proofs.PieceLaws.{Told, piece_told}
use Rattle.vlog_lex.proofs.SettleLaws.{IsCutOff}

some_left : (text : List ℕ) (at : ℕ) → at < length text → drop at text ≢ []
some_left text at within none = omega (arith, length-drop at text, ap length none)

-- however what is left is cut, the whole is cut so behind the tokens
abbrev pub Rests : List ℕ → ℕ → List Token → Type 0
Rests text at tokens = (more : List Token) (fault : Option NetFault) → Cuts (take at text) (drop at text) more fault → Cuts [] text (tokens ++ more) fault

module _ (text : List ℕ) (at : ℕ) (within : at < length text) where
  told : (piece : Piece) → piece ≡ piece_at (drop at text) → Told piece (drop at text)
  told piece is = subst (λ p. Told p (drop at text)) (sym is) (piece_told (drop at text) (some_left text at within))

  told_within : (piece : Piece) → Told piece (drop at text) → at + bytes_of piece ≤ length text
  told_within (Skip n) t = front_within text at within t
  told_within (Taken kind n) t = front_within text at within t
  told_within (Refused flaw) t = omega arith

  -- a piece is within the text
  pub piece_within : (piece : Piece) → piece ≡ piece_at (drop at text) → at + bytes_of piece ≤ length text
  piece_within piece is = told_within piece (told piece is)

  taken_count : (place : Place) (piece : Piece) (count : ℕ) (old new : List Token) → Told piece (drop at text) → IsTaken at place piece count old new → (0 < count) × (at + count ≤ length text)
  taken_count place (Skip n) count old new t taken = (omega (arith, t.some, taken.0), omega (arith, front_within text at within t, taken.0))
  taken_count place (Taken kind n) count old new t taken = (omega (arith, t.some, taken.0), omega (arith, front_within text at within t, taken.0))
  taken_count place (Refused flaw) count old new t taken = absurd taken

  -- a piece that is taken has bytes of the text
  pub taken_within : (place : Place) (piece : Piece) (count : ℕ) (old new : List Token) → piece ≡ piece_at (drop at text) → IsTaken at place piece count old new → (0 < count) × (at + count ≤ length text)
  taken_within place piece count old new is taken = taken_count place piece count old new (told piece is) taken

  rests : (place : Place) (piece : Piece) (count : ℕ) (old new : List Token) → place ≡ place_behind (take at text) → Told piece (drop at text) → IsCutOff at place piece count old new → Rests text at old → Rests text (at + count) new
  rests place (Skip n) count old new there t taken so more fault c =
      let here : Cuts (take (at + n) text) (drop (at + n) text) more fault = subst (λ k. Cuts (take (at + k) text) (drop (at + k) text) more fault) taken.0 c in
      let moved : Cuts (take at text ++ t.bytes) t.rest more fault = subst (λ r. Cuts (take at text ++ t.bytes) r more fault) (rest_behind text at within t) (subst (λ b. Cuts b (drop (at + n) text) more fault) (front_with text at within t) here) in
      rw taken.1 (so more fault (skips t.bytes t.rest t.whole t.holds moved))
  rests place (Taken kind n) count old new there t taken so more fault c =
      let here : Cuts (take (at + n) text) (drop (at + n) text) more fault = subst (λ k. Cuts (take (at + k) text) (drop (at + k) text) more fault) taken.0 c in
      let moved : Cuts (take at text ++ t.bytes) t.rest more fault = subst (λ r. Cuts (take at text ++ t.bytes) r more fault) (rest_behind text at within t) (subst (λ b. Cuts b (drop (at + n) text) more fault) (front_with text at within t) here) in
      let long : at ≡ length (take at text) = sym (length-take-le at text (omega arith)) in
      let token : Token = record { kind = kind; place = place; start = at; end = at + n } in
      let same : token ∷ more ≡ token_behind (take at text) kind t.bytes ∷ more = (λ i. record { kind = kind; place = there i; start = long i; end = long i + t.count i } ∷ more) in
      rw (taken.1, append_assoc old (token ∷ []) more) (so (token ∷ more) fault (takes kind t.bytes t.rest more t.whole t.holds same moved))
  rests place (Refused flaw) count old new there t taken so more fault c = absurd taken

  pub piece_rests : (place : Place) (piece : Piece) (count : ℕ) (old new : List Token) → place ≡ place_behind (take at text) → piece ≡ piece_at (drop at text) → IsCutOff at place piece count old new → Rests text at old → Rests text (at + count) new
  piece_rests place piece count old new there is taken so = rests place piece count old new there (told piece is) taken so

  -- the text is refused for the flaw that the piece is
  pub piece_refused : (place : Place) (piece : Piece) (tokens : List Token) (fault : NetFault) → place ≡ place_behind (take at text) → piece ≡ piece_at (drop at text) → IsFlawAt place piece fault → Rests text at tokens → Cuts [] text tokens (Some fault)
  piece_refused place (Skip n) tokens fault there is flaw so = absurd flaw
  piece_refused place (Taken kind n) tokens fault there is flaw so = absurd flaw
  piece_refused place (Refused flaw) tokens fault there is fault_is so =
      let fault_there : Some fault ≡ Some (fault_behind (take at text) flaw) = ap Some fault_is ∙ ap (λ p. Some (record { refusal = refusal_of flaw; place = p })) there in
      subst (λ ts. Cuts [] text ts (Some fault)) (append-nil tokens) (so [] (Some fault) (refuses flaw (told (Refused flaw) is) refl fault_there))

-- at its end a text is cut
pub rests_end : (text : List ℕ) (at : ℕ) (tokens : List Token) → length text ≤ at → Rests text at tokens → Cuts [] text tokens None
rests_end text at tokens past so = subst (λ ts. Cuts [] text ts None) (append-nil tokens) (so [] None (ends (drop_all at text past) refl refl))

-- a stop at the piece is a stop for a fault of the whole text
pub piece_stops : (text : List ℕ) (at : ℕ) → at < length text → (place : Place) (piece : Piece) (tokens : List Token) (stop : NetStop) → place ≡ place_behind (take at text) → piece ≡ piece_at (drop at text) → Rests text at tokens
    → StopsFor (IsFlawAt place piece) stop → StopsFor (λ fault. (ts : List Token) × Cuts [] text ts (Some fault)) stop
piece_stops text at within place piece tokens (Stopped fault) there is so flaw = (tokens, piece_refused text at within place piece tokens fault there is flaw so)
piece_stops text at within place piece tokens NoMemory there is so flaw = tt

-- a stop for a fault of the cut is a stop for a fault of the reading
pub reading_stops : (text : List ℕ) → length text ≤ 67108864 → (stop : NetStop) → StopsFor (λ fault. (ts : List Token) × Cuts [] text ts (Some fault)) stop → StopsFor (λ fault. (ts : List Token) × IsReading text ts (Some fault)) stop
reading_stops text short (Stopped fault) c = (settled c.0, cut c.0 short c.1 refl)
reading_stops text short NoMemory c = tt
