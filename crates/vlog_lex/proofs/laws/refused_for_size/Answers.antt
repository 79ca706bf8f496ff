use Rattle.vlog_lex.proofs.LexemeLaws.{read_or_size}
use Rattle.vlog_lex.proofs.laws.refused_for_size.Goals as goal

pub returns : goal.returns
returns c text tokens others fault are read = read_or_size are read
