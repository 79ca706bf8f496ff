use Rattle.elab_design.proofs.CarriedRuns.{one_back}
use Rattle.elab_design.proofs.laws.one_run_carried.Goals as goal

pub returns : goal.returns
returns c = λ d net checked flat own rows g one. one_back d net checked.clean flat own rows g one
