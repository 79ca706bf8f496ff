use Rattle.tsm_check.proofs.ValidLaws.{valid_is_short}
use Rattle.tsm_check.proofs.laws.valid_steps.Goals as goal

pub returns : goal.returns
returns c = valid_is_short
