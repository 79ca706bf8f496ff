use Rattle.std.proofs.Common.{◌≡◌, ◌&&◌, Bool, not, true, false, refl, sym, ap, ◌∙◌, subst}
use Rattle.ila_base.specs.declared.refusal.NetRefusal.TheVariants as refusals
use Rattle.vlog_check.specs.declared.found.Detail.TheVariants.{NoPin}
use Rattle.vlog_check.specs.Found.{IsLeastFinding, FindsIf}
use Rattle.vlog_check.specs.FindingPins.{goes_in, is_missing}
use Rattle.vlog_check.specs.FindingWidths.{finding}
use Rattle.vlog_check.specs.Scope.{OfCell, pin_of, is_given}
use Rattle.vlog_check.proofs.missing.find_missing_pin.Goals as goal
use Rattle.vlog_check.proofs.missing.find_missing_pin.Goals.{then-not-is_given, else-not-is_given}

only_in : (b : Bool) → b ≡ (b && true && not false)
only_in true = refl
only_in false = refl

none_given : (b : Bool) → false ≡ (b && true && not true)
none_given true = refl
none_given false = refl

pub returns : goal.returns
returns c cell is =
    let i = c.args.i.now in
    let k = c.args.k in
    let name = c.args.name.now in
    let own = finding i.place (NoPin k) (refusals.OpenInput name) in
    let whole = goes_in (pin_of i (OfCell cell) name) in
    let given : c.is_given.result ≡ is_given i.conns k name = c.is_given.ensures i.conns c.requires.given in
    let same : c.if-not-is_given.missing ≡ is_missing i (OfCell cell) k name =
    elim c.if-not-is_given.branch [
      | then-not-is_given w ↦
          w.missing-is ∙ w.goes_in-missing.ensures ∙ ap goes_in (w.pin_of.ensures i c.requires.kind ∙ ap (λ x. pin_of i x name) is) ∙ only_in whole ∙ ap (λ g. whole && true && not g) (sym w.if-not-is_given.true ∙ given)
      | else-not-is_given w ↦ w.missing-is ∙ ap not w.if-not-is_given.false ∙ none_given whole ∙ ap (λ g. whole && true && not g) (sym w.if-not-is_given.false ∙ given)
    ] in
    subst (λ b. IsLeastFinding (FindsIf b own) c.in_ok-found.found) same c.in_ok-found.ensures
