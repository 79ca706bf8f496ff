use Rattle.vlog_parse.proofs.RefusalLaws.{one_fault, not_both}
use Rattle.vlog_parse.proofs.laws.one_refusal.Goals as goal

pub returns-clause-one : goal.returns-clause-one
returns-clause-one c = one_fault

pub returns-clause-none : goal.returns-clause-none
returns-clause-none c = not_both
