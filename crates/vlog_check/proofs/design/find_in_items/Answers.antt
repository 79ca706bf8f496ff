use Rattle.vlog_check.specs.Design.{FindsLateItem}
use Rattle.vlog_check.proofs.LeastLaws.{least_start, least_step, least_end, at_index}
use Rattle.vlog_check.proofs.design.find_in_items.Goals as goal

pub find_in_item-requires : goal.find_in_item-requires
find_in_item-requires c =
    let m = c.args.names.now.module.now in
    record {
      scope = c.requires.scope;
      names = c.requires.names;
      few = c.requires.few c.loop-item.item-index c.item-item.result (at_index c.as_slice-item-items.result.now m.items c.loop-item.item-index c.item-item.result c.as_slice-item-items.ensures c.loop-item-test.true c.item-item.is);
    }

pub loop-item-init : goal.loop-item-init
loop-item-init c = least_start (FindsLateItem c.args.scope.now.tree.now c.args.names.now.module.now) c.args.names.now.module.now.items

pub loop-item-preserved : goal.loop-item-preserved
loop-item-preserved c =
    let tree = c.args.scope.now.tree.now in
    let m = c.args.names.now.module.now in
    let item = c.item-item.result in
    least_step (FindsLateItem tree m) c.as_slice-item-items.result.now m.items c.loop-item.item-index item c.loop-item.best c.in_ok-found.found c.keep_earlier.new.best c.as_slice-item-items.ensures c.loop-item-test.true c.item-item.is c.loop-item.invariant
    (c.in_ok-found.ensures c.loop-item.item-index) c.keep_earlier.ensures

pub returns : goal.returns
returns c = least_end (FindsLateItem c.args.scope.now.tree.now c.args.names.now.module.now) c.as_slice-item-items.result.now c.args.names.now.module.now.items c.loop-item.item-index c.loop-item.best c.as_slice-item-items.ensures c.loop-item-test.false c.loop-item.invariant
