use Rattle.vlog_check.specs.Found.{IsLeastFinding}
use Rattle.vlog_check.specs.FindingPins.{FindsMissing}
use Rattle.vlog_check.specs.Scope.{OfCell, pin_names}
use Rattle.vlog_check.proofs.LeastLaws.{FindsBelow}
use Rattle.vlog_check.proofs.missing.find_missing_of_cell.Given as goal

abbrev pub invariant-loop-k : goal.invariant-loop-k
invariant-loop-k l = IsLeastFinding (FindsBelow (FindsMissing l.i (OfCell l.fn.cell)) (pin_names (OfCell l.fn.cell)) l.k) l.best
