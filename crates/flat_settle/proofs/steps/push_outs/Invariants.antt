use Rattle.net_core.proofs.MarkLemmas.{Below, OutAt}
use Rattle.flat_settle.specs.Tables.{Appends}
use Rattle.flat_settle.proofs.steps.push_outs.Given as goal

abbrev pub invariant-loop-out : goal.invariant-loop-out
invariant-loop-out l = Appends l.initial.list l.list (Below (OutAt l.outs) l.out-index)
