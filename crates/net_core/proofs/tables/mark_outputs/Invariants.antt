use Rattle.net_core.specs.Tables.{AddsMarks}
use Rattle.net_core.proofs.MarkLemmas.{Below, CellDrives}
use Rattle.net_core.proofs.tables.mark_outputs.Given as goal

abbrev pub invariant-loop-cell : goal.invariant-loop-cell
invariant-loop-cell l = AddsMarks l.initial.marks.items l.marks.items (Below (CellDrives l.cells) l.cell-index)
