-- A text is cut in one way.
use Rattle.std.proofs.Common.{◌≡◌, ℕ, List, [], ◌∷◌, ◌++◌, sym, ◌∙◌, ap, subst, arith, length}
use Rattle.std.specs.Prelude.{Option, Some, None}
use Rattle.vlog_lex.specs.declared.token.Token.{Token}
use Rattle.vlog_lex.specs.declared.token.TokenKind.{TokenKind}
use Rattle.ila_base.proofs.TextLaws.{same_front}
use Rattle.ila_base.specs.declared.fault.NetFault.{NetFault}
use Rattle.vlog_lex.specs.declared.token.Flaw.{Flaw}
use Rattle.vlog_lex.specs.declared.token.Flaw.TheVariants.{BadByte, XZ, NameLength, Constant}
use Rattle.vlog_lex.specs.declared.token.Piece.TheVariants.{Skip, Token as Taken, Refused}
use Rattle.vlog_lex.specs.Skipped.{Skips}
use Rattle.vlog_lex.specs.Refusals.{IsAllowed, Refuses}
use Rattle.vlog_lex.specs.Cutting.{token_behind, fault_behind, Cuts, ends, skips, takes, refuses, settled, IsReading, too_long, cut}
use Rattle.vlog_lex.specs.Reading.{piece_at}
use Rattle.vlog_lex.proofs.SkipLaws.{skips_again}
use Rattle.vlog_lex.proofs.PieceLaws.{token_again, refuses_again}

-- what the reader makes of the empty text
pub nothing_refused : (flaw : Flaw) (text : List ℕ) → text ≡ [] → Refuses flaw text → ⊥
nothing_refused BadByte text none nothing = nothing.some none
nothing_refused XZ text none r = let told : Refused XZ ≡ Refused BadByte = sym (refuses_again XZ text r) ∙ ap piece_at none in cc
nothing_refused (NameLength n) text none r = let told : Refused (NameLength n) ≡ Refused BadByte = sym (refuses_again (NameLength n) text r) ∙ ap piece_at none in cc
nothing_refused (Constant n) text none r = let told : Refused (Constant n) ≡ Refused BadByte = sym (refuses_again (Constant n) text r) ∙ ap piece_at none in cc

-- what each way to go on tells of the piece
skip_piece : (text bytes rest : List ℕ) → text ≡ bytes ++ rest → Skips bytes rest → piece_at text ≡ Skip (length bytes)
skip_piece text bytes rest same s = ap piece_at same ∙ skips_again s

take_piece : (kind : TokenKind) (text bytes rest : List ℕ) → text ≡ bytes ++ rest → IsAllowed kind bytes rest → piece_at text ≡ Taken kind (length bytes)
take_piece kind text bytes rest same t = ap piece_at same ∙ token_again kind bytes rest t

-- how a cut goes on, by the piece that the text begins with
end_next : {before text : List ℕ} {us : List Token} {g : Option NetFault} → text ≡ [] → Cuts before text us g → (us ≡ []) × (g ≡ None)
end_next none (ends same no_tokens no_fault) = (no_tokens, no_fault)
end_next {text = text} none (skips bytes rest same s more) =
    absurd (let told : Skip (length bytes) ≡ Refused BadByte = sym (skip_piece text bytes rest same s) ∙ ap piece_at none in cc)
end_next {text = text} none (takes kind bytes rest tokens same t is more) =
    absurd (let told : Taken kind (length bytes) ≡ Refused BadByte = sym (take_piece kind text bytes rest same t) ∙ ap piece_at none in cc)
end_next {text = text} none (refuses flaw r no_tokens is) = absurd (nothing_refused flaw text none r)

-- the first of the tokens, and those behind it
abbrev Next : List ℕ → TokenKind → List ℕ → List ℕ → List Token → Option NetFault → Type 0
Next before kind bytes rest us g = (more : List Token) × (us ≡ token_behind before kind bytes ∷ more) × Cuts (before ++ bytes) rest more g

module _ {before text : List ℕ} (bytes rest : List ℕ) (whole : text ≡ bytes ++ rest) where
  skip_next : {us : List Token} {g : Option NetFault} → Skips bytes rest → Cuts before text us g → Cuts (before ++ bytes) rest us g
  skip_next s (ends none no_tokens no_fault) =
      absurd (let told : Skip (length bytes) ≡ Refused BadByte = sym (skip_piece text bytes rest whole s) ∙ ap piece_at none in cc)
  skip_next {us} {g} s (skips front after same other more) =
      let told : Skip (length front) ≡ Skip (length bytes) = sym (skip_piece text front after same other) ∙ skip_piece text bytes rest whole s in
      let long : length front ≡ length bytes = cc in
      let is = same_front text front after bytes rest same whole long in
      subst (λ r. Cuts (before ++ bytes) r us g) is.1 (subst (λ b. Cuts (before ++ b) after us g) is.0 more)
  skip_next s (takes kind front after tokens same t is more) =
      absurd (let told : Taken kind (length front) ≡ Skip (length bytes) = sym (take_piece kind text front after same t) ∙ skip_piece text bytes rest whole s in cc)
  skip_next s (refuses flaw r no_tokens is) =
      absurd (let told : Refused flaw ≡ Skip (length bytes) = sym (refuses_again flaw text r) ∙ skip_piece text bytes rest whole s in cc)

  take_next : {us : List Token} {g : Option NetFault} (kind : TokenKind) → IsAllowed kind bytes rest → Cuts before text us g → Next before kind bytes rest us g
  take_next kind t (ends none no_tokens no_fault) =
      absurd (let told : Taken kind (length bytes) ≡ Refused BadByte = sym (take_piece kind text bytes rest whole t) ∙ ap piece_at none in cc)
  take_next kind t (skips front after same s more) =
      absurd (let told : Skip (length front) ≡ Taken kind (length bytes) = sym (skip_piece text front after same s) ∙ take_piece kind text bytes rest whole t in cc)
  take_next {us} {g} kind t (takes other front after tokens same u is more) =
      let told : Taken other (length front) ≡ Taken kind (length bytes) = sym (take_piece other text front after same u) ∙ take_piece kind text bytes rest whole t in
      let long : length front ≡ length bytes = cc in
      let same_kind : other ≡ kind = cc in
      let fronts = same_front text front after bytes rest same whole long in
      (tokens, is ∙ (λ i. token_behind before (same_kind i) (fronts.0 i) ∷ tokens), subst (λ r. Cuts (before ++ bytes) r tokens g) fronts.1 (subst (λ b. Cuts (before ++ b) after tokens g) fronts.0 more))
  take_next kind t (refuses flaw r no_tokens is) =
      absurd (let told : Refused flaw ≡ Taken kind (length bytes) = sym (refuses_again flaw text r) ∙ take_piece kind text bytes rest whole t in cc)

refuse_next : {before text : List ℕ} {us : List Token} {g : Option NetFault} (flaw : Flaw) → Refuses flaw text → Cuts before text us g → (us ≡ []) × (g ≡ Some (fault_behind before flaw))
refuse_next {text = text} flaw r (ends none no_tokens no_fault) = absurd (nothing_refused flaw text none r)
refuse_next {text = text} flaw r (skips bytes rest same s more) =
    absurd (let told : Skip (length bytes) ≡ Refused flaw = sym (skip_piece text bytes rest same s) ∙ refuses_again flaw text r in cc)
refuse_next {text = text} flaw r (takes kind bytes rest tokens same t is more) =
    absurd (let told : Taken kind (length bytes) ≡ Refused flaw = sym (take_piece kind text bytes rest same t) ∙ refuses_again flaw text r in cc)
refuse_next {before} {text} flaw r (refuses other q no_tokens is) =
    let told : Refused other ≡ Refused flaw = sym (refuses_again other text q) ∙ refuses_again flaw text r in
    let same : other ≡ flaw = cc in
    (no_tokens, is ∙ ap (λ f. Some (fault_behind before f)) same)

pub one_cut : {before text : List ℕ} {ts us : List Token} {f g : Option NetFault} → Cuts before text ts f → Cuts before text us g → (ts ≡ us) × (f ≡ g)
one_cut (ends none no_tokens no_fault) other =
    let e = end_next none other in
    (no_tokens ∙ sym e.0, no_fault ∙ sym e.1)
one_cut (skips bytes rest same s more) other = one_cut more (skip_next bytes rest same s other)
one_cut {before = before} (takes kind bytes rest tokens same t is more) other =
    let n = take_next bytes rest same kind t other in
    let behind = one_cut more n.2 in
    (is ∙ ap (λ l. token_behind before kind bytes ∷ l) behind.0 ∙ sym n.1, behind.1)
one_cut (refuses flaw r no_tokens is) other =
    let e = refuse_next flaw r other in
    (no_tokens ∙ sym e.0, is ∙ sym e.1)

pub one_reading : {text : List ℕ} {ts us : List Token} {f g : Option NetFault} → IsReading text ts f → IsReading text us g → (ts ≡ us) × (f ≡ g)
one_reading (too_long long none is) (too_long also other said) = (none ∙ sym other, is ∙ sym said)
one_reading (too_long long none is) (cut pieces short c said) = absurd (omega arith)
one_reading (cut pieces short c is) (too_long long none said) = absurd (omega arith)
one_reading (cut pieces short c is) (cut others also d said) =
    let one = one_cut c d in
    (is ∙ ap settled one.0 ∙ sym said, one.1)
