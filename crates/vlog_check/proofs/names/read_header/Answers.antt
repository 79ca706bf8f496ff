use Rattle.std.proofs.Common.{length, ap, arith}
use Rattle.vlog_check.specs.FindingNames.{FindsSecondPort}
use Rattle.vlog_check.specs.Scope.{value_of}
use Rattle.vlog_check.proofs.LeastLaws.{least_start, least_step, least_end}
use Rattle.vlog_check.proofs.NameLaws.{numbering_step, numbering_all}
use Rattle.vlog_check.proofs.names.read_header.Goals as goal

pub second_port-requires-clause-numbering : goal.second_port-requires-clause-numbering
second_port-requires-clause-numbering c = c.loop-k.invariant.0

pub loop-k-init : goal.loop-k-init
loop-k-init c = (λ name. ap (λ t. value_of t name) c.new-numbers.ensures, least_start (FindsSecondPort c.args.m.now) c.args.m.now.ports)

pub loop-k-preserved : goal.loop-k-preserved
loop-k-preserved c =
    let m = c.args.m.now in
    let ys = c.as_slice-name-items.result.now in (
      numbering_step ys m.ports c.loop-k.k c.bytes.result.now c.name-item.result c.loop-k.numbers c.put.new.self c.as_slice-name-items.ensures c.loop-k-test.true c.name-item.is c.bytes.ensures c.loop-k.invariant.0 c.in_ok-put.ensures,
      least_step (FindsSecondPort m) ys m.ports c.loop-k.k c.name-item.result c.loop-k.best c.in_ok-found.found c.keep_earlier.new.best c.as_slice-name-items.ensures c.loop-k-test.true c.name-item.is c.loop-k.invariant.1 c.in_ok-found.ensures c.keep_earlier.ensures,
    )

pub returns : goal.returns
returns c =
    let m = c.args.m.now in
    record {
      numbers = numbering_all m.ports c.loop-k.k c.loop-k.numbers (omega (arith, ap length c.as_slice-name-items.ensures)) c.loop-k.invariant.0;
      least = least_end (FindsSecondPort m) c.as_slice-name-items.result.now m.ports c.loop-k.k c.loop-k.best c.as_slice-name-items.ensures c.loop-k-test.false c.loop-k.invariant.1;
    }
