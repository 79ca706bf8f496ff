use Rattle.std.proofs.Common.{subst, sym, ap}
use Rattle.std.specs.Option.{option_copied}
use Rattle.vlog_check.specs.Found.{IsLeastFinding}
use Rattle.vlog_check.specs.FindingPins.{FindsConnected}
use Rattle.vlog_check.proofs.connect.read_connected.Goals as goal

pub returns-in_ok-reading-in-Some-clause-least : goal.returns-in_ok-reading-in-Some-clause-least
returns-in_ok-reading-in-Some-clause-least c =
    subst (λ o. IsLeastFinding (FindsConnected c.args.names.now.module.now c.args.pin o) c.find_connected.result) (sym (ap option_copied c.in-Some.is))
    (c.find_connected.ensures c.args.names.now.module.now c.in-Some.e.now c.in_ok-reading-in-Some.ensures)
