use Rattle.std.proofs.Common.{◌≡◌, drop}
use Rattle.std.specs.List.{list_all, list_any}
use Rattle.tsm_check.specs.Truth.{truth, is_met}
use Rattle.tsm_check.proofs.types.Formula.+is_true.Given as goal

abbrev pub decreases-is_true : goal.decreases-is_true
decreases-is_true l = goal.size-is_true l

abbrev pub invariant-loop-part : goal.invariant-loop-part
invariant-loop-part l = list_all (truth (is_met l.before l.now l.counters)) (drop l.part-index l.part-items) ≡ truth (is_met l.fn.before l.fn.now l.fn.counters) l.fn.self

abbrev pub invariant-loop-choice : goal.invariant-loop-choice
invariant-loop-choice l = list_any (truth (is_met l.before l.now l.counters)) (drop l.choice-index l.choice-items) ≡ truth (is_met l.fn.before l.fn.now l.fn.counters) l.fn.self
