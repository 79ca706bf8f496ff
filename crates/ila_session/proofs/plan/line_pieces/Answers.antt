use Rattle.std.proofs.Common.{◌≤◌, arith}
use Rattle.ila_session.specs.Outputs.{word_at}
use Rattle.ila_session.proofs.WordLaws.{ports_more, words_more, few_words}
use Rattle.ila_session.proofs.DataNets.{port_in}
use Rattle.ila_session.proofs.plan.line_pieces.Goals as goal

pub push_digits-requires : goal.push_digits-requires
push_digits-requires c =
    let few : c.loop-port.words ≤ c.loop-port.port-index = few_words c.ports-port-items.result.now c.loop-port.port-index c.loop-port.words c.loop-port.invariant.count in
    omega (arith, few, c.loop-port-test.true)

pub loop-port-preserved : goal.loop-port-preserved
loop-port-preserved c = record {
  count = words_more c.ports-port-items.result.now c.loop-port.port-index _ c.loop-port.words c.in_ok-words.words c.loop-port-test.true c.loop-port.invariant.count c.in_ok-words.ensures.words;
  joined = λ bit. ports_more (word_at c.args.flat.now bit) c.ports-port-items.result.now c.loop-port.port-index _ c.loop-port.words c.loop-port-test.true c.loop-port.invariant.count
      _ _ (c.loop-port.invariant.joined bit) (c.in_ok-words.ensures.text bit);
  nets = c.in_ok-words.ensures.nets c.ports-port-items.ensures.kept c.loop-port.invariant.nets
      (port_in c.args.flat.now c.ports-port-items.result.now c.loop-port.port-index _ c.ports-port-items.ensures.value c.loop-port-test.true);
}
