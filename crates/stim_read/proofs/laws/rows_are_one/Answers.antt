use Rattle.stim_read.proofs.Once.{stimulus_once}
use Rattle.stim_read.proofs.laws.rows_are_one.Goals as goal

pub returns : goal.returns
returns c = stimulus_once
