use Rattle.std.proofs.Common.{subst}
use Rattle.vlog_check.specs.Found.{IsLeastFinding}
use Rattle.vlog_check.specs.FindingWidths.{FindsUndeclared, FindsFixedTarget, FindsWidth, target_width}
use Rattle.vlog_check.proofs.LeastLaws.{least_four}
use Rattle.vlog_check.proofs.WidthLaws.{undeclared_is}
use Rattle.vlog_check.proofs.width.find_in_assign.Goals as goal

pub returns : goal.returns
returns c =
    let m = c.args.names.now.module.now in
    let target = c.args.target.now in
    let value = c.args.value.now in
    least_four (FindsUndeclared m target) (FindsUndeclared m value) (FindsFixedTarget target) (FindsWidth m (target_width m target) value)
    c.in_ok-to.to.found c.in_ok-from.from.found c.in_ok-fixed.fixed c.find_width-width.result c.earlier-2.result c.earlier.result c.earlier-last.result
    (undeclared_is m target c.in_ok-to.to c.in_ok-to.ensures) (undeclared_is m value c.in_ok-from.from c.in_ok-from.ensures)
    (c.in_ok-fixed.ensures m target c.in_ok-to.ensures)
    (subst (λ w. IsLeastFinding (FindsWidth m w value) c.find_width-width.result) (c.target_width.ensures m target c.in_ok-to.ensures) (c.find_width-width.ensures m value c.in_ok-from.ensures))
    c.earlier-last.ensures c.earlier.ensures c.earlier-2.ensures
