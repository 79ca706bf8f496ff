use Rattle.net_core.proofs.MarkLemmas.{Below}
use Rattle.flat_settle.specs.Tables.{Appends, HasAt, SharedPinHas}
use Rattle.flat_settle.proofs.owners.push_shared_outs.Given as goal

abbrev pub invariant-loop-pin : goal.invariant-loop-pin
invariant-loop-pin l = Appends l.initial.list l.list (Below (HasAt (SharedPinHas l.table l.inputs l.cell) l.outs) l.pin)
