use Rattle.std.proofs.Common.{map, ap, ◌∙◌}
use Rattle.elab_count.specs.Counting.{capped, all_together, net_count, item_count}
use Rattle.elab_scope.specs.Nets.{named_nets}
use Rattle.elab_count.proofs.AmountLaws.{one_more_behind}
use Rattle.elab_count.proofs.items.count_module.Goals as goal

pub loop-item-preserved : goal.loop-item-preserved
loop-item-preserved c =
    let m = c.args.m.now in
    let f = item_count c.args.modules.now.tree.now c.args.counts.now m in
    c.with-count.ensures _ (f c.item-item.result) c.loop-item.invariant (c.count_item.ensures m c.requires.nets)
    ∙ ap (λ a. capped a) (one_more_behind f c.as_slice-item-items.result.now m.items c.loop-item.item-index c.item-item.result c.as_slice-item-items.ensures c.loop-item-test.true c.item-item.is (all_together (map net_count (named_nets m))))
