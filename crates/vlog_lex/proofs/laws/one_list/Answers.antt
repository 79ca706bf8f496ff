use Rattle.vlog_lex.proofs.LexemeLaws.{same_tokens}
use Rattle.vlog_lex.proofs.laws.one_list.Goals as goal

pub returns : goal.returns
returns c text tokens others first second = same_tokens first second
