use Rattle.std.proofs.Common.{◌≡◌, [], replicate}
use Rattle.flat_settle.proofs.steps.no_rows.Given as goal

abbrev pub invariant-loop-node : goal.invariant-loop-node
invariant-loop-node l = l.rows.items ≡ replicate l._node []
