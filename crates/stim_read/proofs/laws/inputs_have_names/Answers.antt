use Rattle.stim_read.proofs.DataNames.{names}
use Rattle.stim_read.proofs.laws.inputs_have_names.Goals as goal

pub returns : goal.returns
returns c = names
