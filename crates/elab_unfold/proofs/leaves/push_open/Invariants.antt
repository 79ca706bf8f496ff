use Rattle.std.proofs.Common.{◌≡◌, ◌++◌, replicate, None}
use Rattle.elab_unfold.proofs.leaves.push_open.Given as goal

abbrev pub invariant-loop-k : goal.invariant-loop-k
invariant-loop-k l = l.out ≡ l.initial.out ++ replicate l._k None
