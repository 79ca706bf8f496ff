use Rattle.std.proofs.Common.{refl}
use Rattle.vlog_check.specs.FindingWidths.{FindsUndeclared}
use Rattle.vlog_check.proofs.LeastLaws.{least_start, least_step, least_end, at_index}
use Rattle.vlog_check.proofs.whole.find_in_placed_exprs.Goals as goal

pub read-requires : goal.read-requires
read-requires c =
    let given = c.args.given.now in
    record {
      names = c.requires.names;
      few = c.requires.few c.loop-e.e-index c.e-item.result (at_index given given c.loop-e.e-index c.e-item.result refl c.loop-e-test.true c.e-item.is);
    }

pub loop-e-init : goal.loop-e-init
loop-e-init c = least_start (λ k e g. FindsUndeclared c.args.names.now.module.now e g) c.args.given.now

pub loop-e-preserved : goal.loop-e-preserved
loop-e-preserved c =
    let m = c.args.names.now.module.now in
    let given = c.args.given.now in
    least_step (λ k e g. FindsUndeclared m e g) given given c.loop-e.e-index c.e-item.result c.loop-e.best c.find_connected-found.result c.keep_earlier.new.best refl c.loop-e-test.true c.e-item.is c.loop-e.invariant
    (c.find_connected-found.ensures m c.e-item.result c.in_ok-read.ensures) c.keep_earlier.ensures

pub returns : goal.returns
returns c = least_end (λ k e g. FindsUndeclared c.args.names.now.module.now e g) c.args.given.now c.args.given.now c.loop-e.e-index c.loop-e.best refl c.loop-e-test.false c.loop-e.invariant
