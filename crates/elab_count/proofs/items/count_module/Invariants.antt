use Rattle.std.proofs.Common.{◌≡◌, take, map}
use Rattle.elab_count.specs.Counting.{capped, together, all_together, net_count, item_count}
use Rattle.elab_scope.specs.Nets.{named_nets}
use Rattle.elab_count.proofs.items.count_module.Given as goal

abbrev pub invariant-loop-item : goal.invariant-loop-item
invariant-loop-item l = l.count ≡ capped (together (all_together (map net_count (named_nets l.m))) (all_together (map (item_count l.modules.tree.now l.counts l.m) (take l.item-index l.m.items))))
