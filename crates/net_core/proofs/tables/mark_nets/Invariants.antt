use Rattle.std.proofs.Common.{◌≡◌, slice_get, Some}
use Rattle.net_core.specs.Tables.{AddsMarks}
use Rattle.net_core.proofs.MarkLemmas.{Below}
use Rattle.net_core.proofs.tables.mark_nets.Given as goal

abbrev pub invariant-loop-net : goal.invariant-loop-net
invariant-loop-net l = AddsMarks l.initial.marks.items l.marks.items (Below (λ k n. slice_get l.nets k ≡ Some (record { 0 = n })) l.net-index)
