use Rattle.elab_design.proofs.CarriedRuns.{bit_carried}
use Rattle.elab_design.proofs.laws.bits_carried.Goals as goal

pub returns : goal.returns
returns c = λ d net own h g carries t b is. bit_carried d net own h g carries t b is
