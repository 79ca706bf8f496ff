use Rattle.net_core.proofs.MarkLemmas.{Below}
use Rattle.flat_settle.specs.Tables.{Appends, HasAt, ClockHas}
use Rattle.flat_settle.proofs.pushes.push_clocks.Given as goal

abbrev pub invariant-loop-cell : goal.invariant-loop-cell
invariant-loop-cell l = Appends l.initial.list l.list (Below (HasAt ClockHas l.cells) l.cell-index)
