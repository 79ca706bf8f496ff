use Rattle.std.proofs.Common.{◌≡◌, take}
use Rattle.elab_count.proofs.SortLaws.{numbered}
use Rattle.elab_count.proofs.every.by_rank.Given as goal

abbrev pub invariant-loop-k : goal.invariant-loop-k
invariant-loop-k l = l.order.items ≡ numbered 0 (take l.k l.ranks)
