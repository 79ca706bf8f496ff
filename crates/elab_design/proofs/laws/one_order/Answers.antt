use Rattle.elab_design.proofs.OneLaws as laws
use Rattle.elab_design.proofs.laws.one_order.Goals as goal

pub returns : goal.returns
returns c = λ d groups others cells more one other. laws.one_order d groups others cells more one other
