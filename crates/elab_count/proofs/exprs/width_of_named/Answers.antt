use Rattle.std.proofs.Common.{arith, refl}
use Rattle.elab_count.proofs.WidthLaws.{pins_more}
use Rattle.elab_count.proofs.exprs.width_of_named.Goals as goal

pub loop-conn-preserved : goal.loop-conn-preserved
loop-conn-preserved c m are =
    let more = pins_more m c.args.given.now c.args.given.now c.loop-conn.conn-index c.conn-item.result refl c.loop-conn-test.true c.conn-item.is in
    omega (arith, c.saturating_add-width.ensures, c.loop-conn.invariant m are, c.width_of_conn.ensures m are, more)
