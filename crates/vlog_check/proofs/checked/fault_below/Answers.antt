use Rattle.vlog_check.proofs.CheckedLaws.{recursion_refused}
use Rattle.vlog_check.proofs.checked.fault_below.Goals as goal

pub returns-in_ok-name-in-Some : goal.returns-in_ok-name-in-Some
returns-in_ok-name-in-Some c = λ top there.
    recursion_refused c.args.scope.now.tree.now top c.args.number c.in-Some.inside c.as_slice.result.now c.index-as_slice-inside.result c.in_ok-name-in-Some.name c.nowhere.result
    c.as_slice.ensures c.requires.clean there (rw c.in-Some.is at c.in_ok-first_inside.ensures) c.in_ok-name-in-Some.ensures c.nowhere.ensures
