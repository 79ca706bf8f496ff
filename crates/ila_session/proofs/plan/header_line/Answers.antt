use Rattle.std.proofs.Common.{◌≤◌, arith}
use Rattle.stim_read.specs.Ports.{port_name}
use Rattle.ila_session.proofs.WordLaws.{ports_more, words_more, few_words}
use Rattle.ila_session.proofs.plan.header_line.Goals as goal

pub push_name-requires : goal.push_name-requires
push_name-requires c =
    let few : c.loop-port.words ≤ c.loop-port.port-index = few_words c.ports-port-items.result.now c.loop-port.port-index c.loop-port.words c.loop-port.invariant.count in
    omega (arith, few, c.loop-port-test.true)

pub loop-port-preserved : goal.loop-port-preserved
loop-port-preserved c = record {
  count = words_more c.ports-port-items.result.now c.loop-port.port-index _ c.loop-port.words c.in_ok-words.words c.loop-port-test.true c.loop-port.invariant.count c.in_ok-words.ensures.words;
  joined = ports_more (port_name c.args.flat.now) c.ports-port-items.result.now c.loop-port.port-index _ c.loop-port.words c.loop-port-test.true c.loop-port.invariant.count
      c.loop-port.line.items c.push_name.new.line.items c.loop-port.invariant.joined c.in_ok-words.ensures.line;
}
