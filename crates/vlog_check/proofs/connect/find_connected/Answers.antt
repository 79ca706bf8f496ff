use Rattle.std.proofs.Common.{subst, sym, Some}
use Rattle.vlog_check.specs.Found.{IsLeastFinding}
use Rattle.vlog_check.specs.FindingPins.{FindsConnected}
use Rattle.vlog_check.specs.FindingWidths.{FindsUndeclared, FindsWidth}
use Rattle.vlog_check.proofs.LeastLaws.{least_joined}
use Rattle.vlog_check.proofs.WidthLaws.{undeclared_is}
use Rattle.vlog_check.proofs.connect.find_connected.Goals as goal

pub returns-in-None : goal.returns-in-None
returns-in-None c m e is =
    subst (λ p. IsLeastFinding (FindsConnected m p (Some e)) c.args.reading.found) (sym c.in-None.is) (undeclared_is m e c.args.reading is)

pub returns-in-Some : goal.returns-in-Some
returns-in-Some c m e is =
    subst (λ p. IsLeastFinding (FindsConnected m p (Some e)) c.keep_earlier.new.best) (sym c.in-Some.is)
    (least_joined (FindsUndeclared m e) (FindsWidth m c.in-Some.pin.width e) c.args.reading.found c.find_width-width.result c.keep_earlier.new.best
    (undeclared_is m e c.args.reading is) (c.find_width-width.ensures m e is) c.keep_earlier.ensures)
