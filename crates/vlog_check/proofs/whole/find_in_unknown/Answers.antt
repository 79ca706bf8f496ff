use Rattle.std.proofs.Common.{◌≡◌, subst, Some, None}
use Rattle.ila_base.specs.declared.refusal.NetRefusal.TheVariants as refusals
use Rattle.vlog_check.specs.declared.found.Detail.TheVariants.{Alone}
use Rattle.vlog_check.specs.Found.{IsLeastFinding}
use Rattle.vlog_check.specs.FindingPins.{FindsUnknown, FindsInExprs}
use Rattle.vlog_check.specs.FindingWidths.{finding}
use Rattle.vlog_check.proofs.LeastLaws.{least_one, least_joined}
use Rattle.vlog_check.proofs.whole.find_in_unknown.Goals as goal

pub returns : goal.returns
returns c =
    let i = c.args.i.now in
    let own = finding i.place Alone (refusals.UnknownModule c.in_ok-name.name) in
    least_joined (FindsUnknown i None) (FindsInExprs c.args.names.now.module.now i.conns) (Some own) c.in_ok-exprs.exprs c.earlier.result
    (subst (λ n. IsLeastFinding (λ f. f ≡ finding i.place Alone (refusals.UnknownModule n)) (Some own)) c.in_ok-name.ensures (least_one own)) c.in_ok-exprs.ensures c.earlier.ensures
