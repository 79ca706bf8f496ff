use Rattle.std.proofs.Common.{◌≡◌, take, map}
use Rattle.elab_count.specs.Counting.{capped, all_together}
use Rattle.elab_count.proofs.AmountLaws.{row_count}
use Rattle.elab_count.proofs.items.count_nets.Given as goal

abbrev pub invariant-loop-net : goal.invariant-loop-net
invariant-loop-net l = l.count ≡ capped (all_together (map row_count (take l.net-index l.nets.order.items)))
