use Rattle.net_core.proofs.MarkLemmas.{Below}
use Rattle.flat_settle.specs.Tables.{Appends, HasAt, PinHas}
use Rattle.flat_settle.proofs.pushes.push_pins.Given as goal

abbrev pub invariant-loop-pin : goal.invariant-loop-pin
invariant-loop-pin l = Appends l.initial.list l.list (Below (HasAt PinHas l.ins) l.pin-index)
