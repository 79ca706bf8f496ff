use Rattle.net_core.specs.Tables.{AddsMarks}
use Rattle.net_core.proofs.MarkLemmas.{Below, PortGives}
use Rattle.net_core.proofs.tables.mark_inputs.Given as goal

abbrev pub invariant-loop-port : goal.invariant-loop-port
invariant-loop-port l = AddsMarks l.initial.marks.items l.marks.items (Below (PortGives l.groups l.ports) l.port-index)
