use Rattle.std.proofs.Common.{length, ap, arith}
use Rattle.vlog_check.specs.Found.{FindsAmong}
use Rattle.vlog_check.specs.FindingWidths.{FindsInTerminal, FindsFewTerminals}
use Rattle.vlog_check.proofs.LeastLaws.{least_start, least_step, least_end, least_joined, at_index}
use Rattle.vlog_check.proofs.width.find_in_gate.Goals as goal

pub find_in_terminal-requires : goal.find_in_terminal-requires
find_in_terminal-requires c = record {
  names = c.requires.names;
  within = omega (arith, ap length c.as_slice-e-items.ensures);
  few = c.requires.few c.loop-k.k c.e-item.result (at_index c.as_slice-e-items.result.now c.args.g.now.args c.loop-k.k c.e-item.result c.as_slice-e-items.ensures c.loop-k-test.true c.e-item.is);
}

pub loop-k-init : goal.loop-k-init
loop-k-init c = least_start (FindsInTerminal c.args.names.now.module.now c.args.g.now) c.args.g.now.args

pub loop-k-preserved : goal.loop-k-preserved
loop-k-preserved c =
    least_step (FindsInTerminal c.args.names.now.module.now c.args.g.now) c.as_slice-e-items.result.now c.args.g.now.args c.loop-k.k c.e-item.result c.loop-k.best c.in_ok-found.found c.earlier-best.result
    c.as_slice-e-items.ensures c.loop-k-test.true c.e-item.is c.loop-k.invariant c.in_ok-found.ensures c.earlier-best.ensures

pub returns : goal.returns
returns c =
    let m = c.args.names.now.module.now in
    let g = c.args.g.now in
    least_joined (FindsAmong (FindsInTerminal m g) g.args) (FindsFewTerminals g) c.loop-k.best c.in_ok-few.few c.earlier.result
    (least_end (FindsInTerminal m g) c.as_slice-e-items.result.now g.args c.loop-k.k c.loop-k.best c.as_slice-e-items.ensures c.loop-k-test.false c.loop-k.invariant) c.in_ok-few.ensures c.earlier.ensures
