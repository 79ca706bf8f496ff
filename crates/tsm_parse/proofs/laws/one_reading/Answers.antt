use Rattle.tsm_parse.proofs.CuttingLaws.{one_cut}
use Rattle.tsm_parse.proofs.laws.one_reading.Goals as goal

pub returns : goal.returns
returns c text tokens others fault other first second = one_cut first second
