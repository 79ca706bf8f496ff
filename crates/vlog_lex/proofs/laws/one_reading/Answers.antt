use Rattle.vlog_lex.proofs.CuttingLaws.{one_reading}
use Rattle.vlog_lex.proofs.laws.one_reading.Goals as goal

pub returns : goal.returns
returns c text tokens others fault other first second = one_reading first second
