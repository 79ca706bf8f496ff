use Rattle.std.proofs.Common.{Some}
use Rattle.vlog_check.specs.FindingWidths.{FindsUndeclared, FindsWidth, FindsFixedTerminal}
use Rattle.vlog_check.proofs.LeastLaws.{least_three}
use Rattle.vlog_check.proofs.WidthLaws.{undeclared_is}
use Rattle.vlog_check.proofs.width.find_in_terminal.Goals as goal

pub returns : goal.returns
returns c =
    let m = c.args.names.now.module.now in
    let e = c.args.e.now in
    let r = c.in_ok-reading.reading in
    least_three (FindsUndeclared m e) (FindsWidth m (Some 1) e) (FindsFixedTerminal c.args.g.now c.args.k e)
    r.found c.find_width-width.result c.in_ok-fixed.fixed c.earlier-2.result c.earlier.result
    (undeclared_is m e r c.in_ok-reading.ensures) (c.find_width-width.ensures m e c.in_ok-reading.ensures) (c.in_ok-fixed.ensures m e c.in_ok-reading.ensures)
    c.earlier.ensures c.earlier-2.ensures
