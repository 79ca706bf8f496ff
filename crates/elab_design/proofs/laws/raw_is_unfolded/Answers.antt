use Rattle.elab_design.proofs.UnfoldedLaws.{is_unfolded}
use Rattle.elab_design.proofs.laws.raw_is_unfolded.Goals as goal

pub returns : goal.returns
returns c = λ d raw read checked clock limits is. is_unfolded d raw is read checked clock limits
