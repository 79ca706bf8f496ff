use Rattle.vlog_check.specs.FindingNames.{FindsNoDirection}
use Rattle.vlog_check.proofs.LeastLaws.{least_start, least_step, least_end}
use Rattle.vlog_check.proofs.design.find_in_header.Goals as goal

pub loop-k-init : goal.loop-k-init
loop-k-init c = least_start (FindsNoDirection c.args.names.now.module.now) c.args.names.now.module.now.ports

pub loop-k-preserved : goal.loop-k-preserved
loop-k-preserved c =
    let m = c.args.names.now.module.now in
    least_step (FindsNoDirection m) c.as_slice-name-items.result.now m.ports c.loop-k.k c.name-item.result c.loop-k.best c.in_ok-found.found c.keep_earlier.new.best c.as_slice-name-items.ensures c.loop-k-test.true c.name-item.is c.loop-k.invariant c.in_ok-found.ensures c.keep_earlier.ensures

pub returns : goal.returns
returns c = least_end (FindsNoDirection c.args.names.now.module.now) c.as_slice-name-items.result.now c.args.names.now.module.now.ports c.loop-k.k c.loop-k.best c.as_slice-name-items.ensures c.loop-k-test.false c.loop-k.invariant
