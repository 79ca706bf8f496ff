use Rattle.std.proofs.Common.{sym, ◌∙◌}
use Rattle.vlog_check.proofs.ContainedLaws.{module_low}
use Rattle.vlog_check.proofs.checked.fault_of_top.Goals as goal

pub fault_below-requires-clause-top : goal.fault_below-requires-clause-top
fault_below-requires-clause-top c =
    module_low c.args.scope.now.tree.now c.args.top.now c.in-Some.number (sym (c.requires.scope.numbers c.args.top.now) ∙ sym c.get.ensures ∙ c.in-Some.is)
