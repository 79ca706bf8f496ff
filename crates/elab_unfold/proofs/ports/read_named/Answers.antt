use Rattle.elab_unfold.proofs.LeafLaws.{named_step}
use Rattle.elab_unfold.proofs.ports.read_named.Goals as goal

pub loop-conn-preserved : goal.loop-conn-preserved
loop-conn-preserved c =
    named_step c.args.conns.now c.loop-conn.conn-index c.conn-item.result c.bytes.result.now c.as_ref.result c.loop-conn.given c.put.new.self c.loop-conn-test.true c.conn-item.is c.bytes.ensures c.as_ref.ensures.value c.loop-conn.invariant c.in_ok-put.ensures
