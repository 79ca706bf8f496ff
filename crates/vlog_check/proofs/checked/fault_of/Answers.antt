use Rattle.std.proofs.Common.{subst, sym, None}
use Rattle.vlog_check.specs.Checked.{Finds}
use Rattle.vlog_check.specs.Found.{IsLeastFinding}
use Rattle.vlog_check.proofs.CheckedLaws.{finding_refused}
use Rattle.vlog_check.proofs.checked.fault_of.Goals as goal

pub fault_of_top-requires-clause-clean : goal.fault_of_top-requires-clause-clean
fault_of_top-requires-clause-clean c =
    subst (λ t. IsLeastFinding (Finds t) None) (sym c.in_ok-scope.ensures.own) (rw c.in-None.is at c.in_ok-scope.ensures.least)

pub returns : goal.returns
returns c = finding_refused c.args.tree.now c.args.top.now c.in-Some.found c.fault.result (rw c.in-Some.is at c.in_ok-scope.ensures.least) c.fault.ensures
