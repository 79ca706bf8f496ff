use Rattle.elab_design.proofs.SoundLaws.{sound_design}
use Rattle.elab_design.proofs.SettledLaws.{elaborates_from}
use Rattle.elab_design.proofs.laws.elaborates.Goals as goal

pub returns : goal.returns
returns c = λ d raw net checked is flat settled. elaborates_from d raw net is (sound_design d checked) flat settled
