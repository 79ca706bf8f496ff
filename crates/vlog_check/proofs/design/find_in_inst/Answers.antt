use Rattle.std.proofs.Common.{◌⊎◌, subst, sym, ap, ◌∙◌, Some, inr, ⊎_elim}
use Rattle.std.specs.Option.{option_map}
use Rattle.vlog_check.specs.Found.{IsLeastFinding}
use Rattle.vlog_check.specs.FindingPins.{FindsUnknown, FindsInKind}
use Rattle.vlog_check.specs.Kinds.{kind_seen}
use Rattle.vlog_check.proofs.LeastLaws.{least_as}
use Rattle.vlog_check.proofs.design.find_in_inst.Goals as goal

pub returns-in_ok-found-in-None : goal.returns-in_ok-found-in-None
returns-in_ok-found-in-None c =
    let m = c.args.names.now.module.now in
    let i = c.args.i.now in
    subst (λ k. IsLeastFinding (λ f. FindsUnknown i k f ⊎ FindsInKind m i k f) c.in_ok-found-in-None.found) (sym (ap (option_map kind_seen) c.in-None.is) ∙ c.kind_of.ensures.same) c.in_ok-found-in-None.ensures

pub returns-in_ok-found-in-Some : goal.returns-in_ok-found-in-Some
returns-in_ok-found-in-Some c =
    let m = c.args.names.now.module.now in
    let i = c.args.i.now in
    let kind = kind_seen c.in-Some.kind in
    let f = c.in_ok-found-in-Some.found in
    subst (λ k. IsLeastFinding (λ g. FindsUnknown i k g ⊎ FindsInKind m i k g) f) (sym (ap (option_map kind_seen) c.in-Some.is) ∙ c.kind_of.ensures.same)
    (least_as (FindsInKind m i (Some kind)) (λ g. FindsUnknown i (Some kind) g ⊎ FindsInKind m i (Some kind) g) f (λ g h. inr h) (λ g h. ⊎_elim (λ x. absurd x) (λ x. x) h) c.in_ok-found-in-Some.ensures)
