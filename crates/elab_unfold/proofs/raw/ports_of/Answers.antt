use Rattle.elab_unfold.proofs.RawLaws.{ports_step}
use Rattle.elab_unfold.proofs.raw.ports_of.Goals as goal

pub loop-k-preserved : goal.loop-k-preserved
loop-k-preserved c = ports_step c.args.ports.now c.loop-k.k _ c.loop-k.out c.push.new.self c.loop-k-test.true c.loop-k.invariant c.in_ok-push.ensures.ok
