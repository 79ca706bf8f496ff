use Rattle.vlog_check.specs.Found.{FindsAmong}
use Rattle.vlog_check.specs.FindingNames.{FindsSecondPort, FindsSecond}
use Rattle.vlog_check.proofs.LeastLaws.{least_joined}
use Rattle.vlog_check.proofs.names.read_names.Goals as goal

pub returns-clause-least : goal.returns-clause-least
returns-clause-least c =
    let m = c.args.m.now in
    least_joined (FindsAmong (FindsSecondPort m) m.ports) (FindsAmong (FindsSecond m) m.items) c.in_ok-ports.first c.in_ok-past.second c.earlier.result c.in_ok-ports.ensures.least c.in_ok-past.ensures.least c.earlier.ensures
