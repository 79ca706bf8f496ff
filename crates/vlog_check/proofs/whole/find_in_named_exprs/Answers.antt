use Rattle.std.proofs.Common.{refl, subst, None}
use Rattle.vlog_check.specs.Found.{IsLeastFinding}
use Rattle.vlog_check.specs.FindingPins.{FindsConnected}
use Rattle.vlog_check.proofs.LeastLaws.{least_start, least_step, least_end, at_index}
use Rattle.vlog_check.proofs.SeenLaws.{few_link}
use Rattle.vlog_check.proofs.whole.find_in_named_exprs.Goals as goal

pub read_connected-requires : goal.read_connected-requires
read_connected-requires c =
    let given = c.args.given.now in
    record {
      names = c.requires.names;
      few = few_link c.conn-item.result.1 c.as_ref.result c.as_ref.ensures.value (λ e is. c.requires.few c.loop-conn.conn-index c.conn-item.result e (at_index given given c.loop-conn.conn-index c.conn-item.result refl c.loop-conn-test.true c.conn-item.is) is);
    }

pub loop-conn-init : goal.loop-conn-init
loop-conn-init c = least_start (λ k x g. FindsConnected c.args.names.now.module.now None x.1 g) c.args.given.now

pub loop-conn-preserved : goal.loop-conn-preserved
loop-conn-preserved c =
    let m = c.args.names.now.module.now in
    let given = c.args.given.now in
    least_step (λ k x g. FindsConnected m None x.1 g) given given c.loop-conn.conn-index c.conn-item.result c.loop-conn.best c.in_ok-reading.reading.1 c.keep_earlier.new.best refl c.loop-conn-test.true c.conn-item.is c.loop-conn.invariant
    (subst (λ o. IsLeastFinding (FindsConnected m None o) c.in_ok-reading.reading.1) c.as_ref.ensures.value c.in_ok-reading.ensures.least) c.keep_earlier.ensures

pub returns : goal.returns
returns c = least_end (λ k x g. FindsConnected c.args.names.now.module.now None x.1 g) c.args.given.now c.args.given.now c.loop-conn.conn-index c.loop-conn.best refl c.loop-conn-test.false c.loop-conn.invariant
