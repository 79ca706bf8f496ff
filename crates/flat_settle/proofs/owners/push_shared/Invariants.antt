use Rattle.net_core.proofs.MarkLemmas.{Below}
use Rattle.flat_settle.specs.Tables.{Appends, HasAt, SharedHas}
use Rattle.flat_settle.proofs.owners.push_shared.Given as goal

abbrev pub invariant-loop-number : goal.invariant-loop-number
invariant-loop-number l = Appends l.initial.list l.list (Below (HasAt (SharedHas l.table l.inputs) l.cells) l.number)
