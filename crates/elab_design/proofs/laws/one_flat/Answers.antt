use Rattle.elab_design.proofs.SoundLaws.{sound_design}
use Rattle.elab_design.proofs.OneFlatLaws as laws
use Rattle.elab_design.proofs.laws.one_flat.Goals as goal

pub returns : goal.returns
returns c = λ d net other checked left right. laws.one_flat d net other (sound_design d checked) left right
