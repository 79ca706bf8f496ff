use Rattle.std.proofs.Common.{length, ap, subst, arith, take}
use Rattle.std.proofs.lemmas.List.{take_all}
use Rattle.vlog_check.specs.FindingNames.{FindsSecond}
use Rattle.vlog_check.specs.Names.{IsPast}
use Rattle.vlog_check.proofs.LeastLaws.{least_start, least_step, least_end, take_step}
use Rattle.vlog_check.proofs.names.read_items.Goals as goal

pub loop-item-init : goal.loop-item-init
loop-item-init c = (c.new-past.ensures, least_start (FindsSecond c.args.m.now) c.args.m.now.items)

pub loop-item-preserved : goal.loop-item-preserved
loop-item-preserved c =
    let m = c.args.m.now in
    let ys = c.as_slice-item-items.result.now in
    let i = c.loop-item.item-index in (
      subst (IsPast c.add.new.self) (take_step ys m.items i c.item-item.result c.as_slice-item-items.ensures c.loop-item-test.true c.item-item.is) (c.in_ok-add.ensures (take i m.items) c.loop-item.invariant.0),
      least_step (FindsSecond m) ys m.items i c.item-item.result c.loop-item.best c.in_ok-found.found c.keep_earlier.new.best c.as_slice-item-items.ensures c.loop-item-test.true c.item-item.is
          c.loop-item.invariant.1 (c.in_ok-found.ensures m i c.requires c.loop-item.invariant.0) c.keep_earlier.ensures,
    )

pub returns : goal.returns
returns c =
    let m = c.args.m.now in
    let i = c.loop-item.item-index in
    record {
      past = subst (IsPast c.loop-item.past) (take_all i m.items (omega (arith, ap length c.as_slice-item-items.ensures))) c.loop-item.invariant.0;
      least = least_end (FindsSecond m) c.as_slice-item-items.result.now m.items i c.loop-item.best c.as_slice-item-items.ensures c.loop-item-test.false c.loop-item.invariant.1;
    }
