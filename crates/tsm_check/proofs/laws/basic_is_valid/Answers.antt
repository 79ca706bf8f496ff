use Rattle.tsm_check.proofs.ValidLaws.{basic_is_valid}
use Rattle.tsm_check.proofs.laws.basic_is_valid.Goals as goal

pub returns : goal.returns
returns c = basic_is_valid
