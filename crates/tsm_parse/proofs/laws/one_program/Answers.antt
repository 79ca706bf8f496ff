use Rattle.tsm_parse.proofs.SourceLaws.{one_ast}
use Rattle.tsm_parse.proofs.laws.one_program.Goals as goal

pub returns : goal.returns
returns c = λ text ast other one two. one_ast text ast other one two
