use Rattle.tsm_parse.proofs.SourceLaws.{one_fault, no_fault}
use Rattle.tsm_parse.proofs.laws.one_refusal.Goals as goal

pub returns-clause-one : goal.returns-clause-one
returns-clause-one c = λ text fault other is said. one_fault text fault other is said

pub returns-clause-none : goal.returns-clause-none
returns-clause-none c = λ text ast fault short is said. no_fault text ast fault short is said
