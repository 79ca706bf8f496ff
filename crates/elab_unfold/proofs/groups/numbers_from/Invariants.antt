use Rattle.std.proofs.Common.{◌≡◌, map}
use Rattle.std.specs.List.{range_with_len}
use Rattle.elab_design.specs.Raw.{net_id}
use Rattle.elab_unfold.proofs.groups.numbers_from.Given as goal

abbrev pub invariant-loop-k : goal.invariant-loop-k
invariant-loop-k l = l.bits ≡ map net_id (range_with_len l.first l.k)
