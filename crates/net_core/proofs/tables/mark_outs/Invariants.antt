use Rattle.std.proofs.Common.{◌≡◌, slice_get, Some}
use Rattle.net_core.specs.Tables.{AddsMarks}
use Rattle.net_core.proofs.MarkLemmas.{Below}
use Rattle.net_core.proofs.tables.mark_outs.Given as goal

abbrev pub invariant-loop-out : goal.invariant-loop-out
invariant-loop-out l = AddsMarks l.initial.marks.items l.marks.items (Below (λ k n. slice_get l.outs k ≡ Some (Some (record { 0 = n }))) l.out-index)
