use Rattle.net_core.specs.Tables.{AddsMarks}
use Rattle.net_core.proofs.MarkLemmas.{Below}
use Rattle.flat_settle.proofs.MarkedLemmas.{NumberAt}
use Rattle.flat_settle.proofs.marks.marks_of.Given as goal

abbrev pub invariant-loop-number : goal.invariant-loop-number
invariant-loop-number l = AddsMarks l.initial.marks.items l.marks.items (Below (NumberAt l.list) l.number-index)
