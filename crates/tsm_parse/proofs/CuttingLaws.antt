-- A text is cut in one way.
use Rattle.std.proofs.Common.{◌≡◌, ℕ, List, [], ◌∷◌, ◌++◌, sym, ◌∙◌, ap, subst, arith, length}
use Rattle.std.specs.Prelude.{Option, Some, None}
use Rattle.grammar.proofs.Outcomes.{no_end}
use Rattle.ila_base.proofs.TextLaws.{same_front}
use Rattle.ila_base.specs.declared.place.Place.{Place}
use Rattle.tsm_parse.specs.declared.token.Token.{Token}
use Rattle.tsm_parse.specs.Tokens.{Skips, IsLongest, BeginsNothing, token_behind, Cuts, ends, skips, takes, stops}
use Rattle.ila_base.specs.Places.{place_behind}
use Rattle.tsm_parse.specs.Reading.{skip_length}
use Rattle.tsm_parse.proofs.PieceLaws.{skips_again, skips_some, skip_no_token, same_count}

-- what excludes what

skip_some : (text bytes rest : List ℕ) → text ≡ bytes ++ rest → Skips bytes rest → skip_length text ≡ length bytes
skip_some text bytes rest whole s = ap skip_length whole ∙ skips_again s

nothing_skipped : (text bytes rest : List ℕ) → text ≡ [] → text ≡ bytes ++ rest → Skips bytes rest → ⊥
nothing_skipped text bytes rest none whole s = omega (arith, skips_some s, skip_some text bytes rest whole s, ap skip_length none)

nothing_taken : (text : List ℕ) (n : ℕ) → text ≡ [] → IsLongest text n → ⊥
nothing_taken text n none t = omega (arith, t.some, t.within, ap length none)

skip_or_take : (text bytes rest : List ℕ) (n : ℕ) → text ≡ bytes ++ rest → Skips bytes rest → IsLongest text n → ⊥
skip_or_take text bytes rest n whole s t =
    no_end (sym (skip_no_token text n (omega (arith, skips_some s, skip_some text bytes rest whole s)) t.some) ∙ t.token)

nothing_or_take : (text : List ℕ) (n : ℕ) → BeginsNothing text → IsLongest text n → ⊥
nothing_or_take text n nothing t = no_end (sym (nothing.no_token n t.some t.within) ∙ t.token)

-- how a cut goes on

end_next : {before text : List ℕ} {us : List Token} {g : Option Place} → text ≡ [] → Cuts before text us g → (us ≡ []) × (g ≡ None)
end_next none (ends same no_tokens no_fault) = (no_tokens, no_fault)
end_next {text = text} none (skips bytes rest whole s more) = absurd (nothing_skipped text bytes rest none whole s)
end_next {text = text} none (takes bytes rest tokens whole t is more) = absurd (nothing_taken text (length bytes) none t)
end_next none (stops nothing no_tokens is) = absurd (nothing.some none)

stop_next : {before text : List ℕ} {us : List Token} {g : Option Place} → BeginsNothing text → Cuts before text us g → (us ≡ []) × (g ≡ Some (place_behind before))
stop_next nothing (ends none no_tokens no_fault) = absurd (nothing.some none)
stop_next nothing (skips bytes rest whole s more) = absurd (nothing.no_skipped bytes rest whole s)
stop_next {text = text} nothing (takes bytes rest tokens whole t is more) = absurd (nothing_or_take text (length bytes) nothing t)
stop_next nothing (stops other no_tokens is) = (no_tokens, is)

-- the first of the tokens, and those behind it
abbrev Next : List ℕ → List ℕ → List ℕ → List Token → Option Place → Type 0
Next before bytes rest us g = (more : List Token) × (us ≡ token_behind before bytes ∷ more) × Cuts (before ++ bytes) rest more g

module _ {before text : List ℕ} (bytes rest : List ℕ) (whole : text ≡ bytes ++ rest) where
  skip_next : {us : List Token} {g : Option Place} → Skips bytes rest → Cuts before text us g → Cuts (before ++ bytes) rest us g
  skip_next s (ends none no_tokens no_fault) = absurd (nothing_skipped text bytes rest none whole s)
  skip_next {us} {g} s (skips front after same other more) =
      let long : length front ≡ length bytes = sym (skip_some text front after same other) ∙ skip_some text bytes rest whole s in
      let is = same_front text front after bytes rest same whole long in
      subst (λ r. Cuts (before ++ bytes) r us g) is.1 (subst (λ b. Cuts (before ++ b) after us g) is.0 more)
  skip_next s (takes front after tokens same t is more) = absurd (skip_or_take text bytes rest (length front) whole s t)
  skip_next s (stops nothing no_tokens is) = absurd (nothing.no_skipped bytes rest whole s)

  take_next : {us : List Token} {g : Option Place} → IsLongest text (length bytes) → Cuts before text us g → Next before bytes rest us g
  take_next t (ends none no_tokens no_fault) = absurd (nothing_taken text (length bytes) none t)
  take_next t (skips front after same s more) = absurd (skip_or_take text front after (length bytes) same s t)
  take_next {us} {g} t (takes front after tokens same u is more) =
      let fronts = same_front text front after bytes rest same whole (same_count text (length front) (length bytes) u t) in
      (tokens, is ∙ ap (λ b. token_behind before b ∷ tokens) fronts.0, subst (λ r. Cuts (before ++ bytes) r tokens g) fronts.1 (subst (λ b. Cuts (before ++ b) after tokens g) fronts.0 more))
  take_next t (stops nothing no_tokens is) = absurd (nothing_or_take text (length bytes) nothing t)

pub one_cut : {before text : List ℕ} {ts us : List Token} {f g : Option Place} → Cuts before text ts f → Cuts before text us g → (ts ≡ us) × (f ≡ g)
one_cut (ends none no_tokens no_fault) other =
    let e = end_next none other in
    (no_tokens ∙ sym e.0, no_fault ∙ sym e.1)
one_cut (skips bytes rest same s more) other = one_cut more (skip_next bytes rest same s other)
one_cut {before = before} (takes bytes rest tokens same t is more) other =
    let n = take_next bytes rest same t other in
    let behind = one_cut more n.2 in
    (is ∙ ap (λ l. token_behind before bytes ∷ l) behind.0 ∙ sym n.1, behind.1)
one_cut (stops nothing no_tokens is) other =
    let e = stop_next nothing other in
    (no_tokens ∙ sym e.0, is ∙ sym e.1)
