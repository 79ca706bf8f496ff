use Rattle.std.proofs.Common.{sym, ap, ◌∙◌, codes}
use Rattle.ila_base.specs.declared.refusal.NetRefusal.TheVariants as refusals
use Rattle.vlog_check.specs.FindingWidths.{finding}
use Rattle.vlog_check.specs.declared.found.Detail.TheVariants.{Alone}
use Rattle.vlog_check.specs.Scope.{has_constant, place_of}
use Rattle.vlog_check.proofs.LeastLaws.{least_found}
use Rattle.vlog_check.proofs.WidthLaws.{fixed_is}
use Rattle.vlog_check.proofs.width.find_fixed_target.Goals as goal

pub returns : goal.returns
returns c m e is =
    least_found (has_constant e) (finding (place_of e) Alone (refusals.Pin (codes "assign"))) c.pin_finding.result
    (sym (fixed_is m e c.args.reading.now is) ∙ c.if-not-reading.false)
    (c.pin_finding.ensures ∙ ap (λ p. finding p Alone (refusals.Pin c.in_ok-name.name)) (c.place_of.ensures m e is) ∙ ap (λ n. finding (place_of e) Alone (refusals.Pin n)) c.in_ok-name.ensures)
