use Rattle.elab_design.proofs.SoundLaws.{sound_design}
use Rattle.elab_design.proofs.FaultLaws as laws
use Rattle.elab_design.proofs.laws.one_fault.Goals as goal

pub returns-clause-one : goal.returns-clause-one
returns-clause-one c = λ d fault other checked first second. laws.one_fault d (sound_design d checked) fault other first second

pub returns-clause-none : goal.returns-clause-none
returns-clause-none c = λ d raw parts fault checked clock limits own settled holds. laws.no_fault d (sound_design d checked) raw parts clock limits own settled fault holds
