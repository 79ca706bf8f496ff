use Rattle.std.proofs.Common.{◌≡◌, ◌≤◌, length, drop}
use Rattle.ila_base.specs.Comparison.{value_of}
use Rattle.ila_base.proofs.comparison.value_of.Given as goal

abbrev pub invariant-loop-left : goal.invariant-loop-left
invariant-loop-left l = (l.left ≤ length l.digits) × (l.value ≡ value_of (drop l.left l.digits))

abbrev pub decreases-loop-left : goal.decreases-loop-left
decreases-loop-left l = l.left
