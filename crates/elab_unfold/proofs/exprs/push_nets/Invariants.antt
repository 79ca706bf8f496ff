use Rattle.std.proofs.Common.{◌≡◌, ◌++◌, map}
use Rattle.std.specs.List.{range_with_len}
use Rattle.elab_unfold.specs.Places.{net_pin}
use Rattle.elab_unfold.proofs.exprs.push_nets.Given as goal

abbrev pub invariant-loop-k : goal.invariant-loop-k
invariant-loop-k l = l.out ≡ l.initial.out ++ map net_pin (range_with_len l.first l.k)
