use Rattle.vlog_check.specs.Design.{FindsLateItem}
use Rattle.vlog_check.specs.Found.{FindsAmong}
use Rattle.vlog_check.specs.FindingNames.{FindsNoDirection}
use Rattle.vlog_check.proofs.LeastLaws.{least_joined}
use Rattle.vlog_check.proofs.design.find_late.Goals as goal

pub returns : goal.returns
returns c k =
    let m = c.args.names.now.module.now in
    least_joined (FindsAmong (FindsNoDirection m) m.ports) (FindsAmong (FindsLateItem c.args.scope.now.tree.now m) m.items) c.in_ok-header.header c.in_ok-items.items c.earlier.result c.in_ok-header.ensures c.in_ok-items.ensures c.earlier.ensures
