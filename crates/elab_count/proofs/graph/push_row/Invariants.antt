use Rattle.std.proofs.Common.{◌≡◌, ◌++◌, take, filter_map}
use Rattle.elab_count.specs.Instances.{contained_by}
use Rattle.elab_count.proofs.graph.push_row.Given as goal

abbrev pub invariant-loop-item : goal.invariant-loop-item
invariant-loop-item l = l.sources.items ≡ l.initial.sources.items ++ filter_map (contained_by l.modules.tree.now) (take l.item-index l.m.items)
