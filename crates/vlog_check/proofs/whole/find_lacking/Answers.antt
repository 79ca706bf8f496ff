use Rattle.std.proofs.Common.{◌∙◌, ap, subst, codes}
use Rattle.ila_base.specs.declared.refusal.NetRefusal.TheVariants as refusals
use Rattle.vlog_check.specs.declared.found.Detail.TheVariants.{NoParameter}
use Rattle.vlog_check.specs.Found.{IsLeastFinding, FindsIf}
use Rattle.vlog_check.specs.FindingPins.{is_lacking}
use Rattle.vlog_check.specs.FindingWidths.{finding}
use Rattle.vlog_check.specs.Kinds.{kind_seen}
use Rattle.vlog_check.proofs.LeastLaws.{least_joined}
use Rattle.vlog_check.proofs.whole.find_lacking.Goals as goal

pub returns : goal.returns
returns c =
    let i = c.args.i.now in
    let kind = kind_seen c.args.kind.now in
    let address = finding i.place (NoParameter 0) (refusals.Pin (codes "AW")) in
    let bits = finding i.place (NoParameter 1) (refusals.Pin (codes "DW")) in
    least_joined (FindsIf (is_lacking kind i.params (codes "AW")) address) (FindsIf (is_lacking kind i.params (codes "DW")) bits) c.in_ok-first.first c.in_ok-second.second c.keep_earlier.new.best
    (subst (λ b. IsLeastFinding (FindsIf b address) c.in_ok-first.first) (c.is_lacking-address.ensures ∙ ap (λ ps. is_lacking kind ps (codes "AW")) c.as_slice-params.ensures) c.in_ok-first.ensures)
    (subst (λ b. IsLeastFinding (FindsIf b bits) c.in_ok-second.second) (c.is_lacking-data.ensures ∙ ap (λ ps. is_lacking kind ps (codes "DW")) c.as_slice-params.ensures) c.in_ok-second.ensures)
    c.keep_earlier.ensures
