use Rattle.std.proofs.Common.{◌≤◌, take}
use Rattle.std.specs.List.{flat_map}
use Rattle.std.specs.Io.KnownBytes.{Appends}
use Rattle.ila_top.specs.ErrorLine.{spaced, detail_text}
use Rattle.ila_top.proofs.line.write_details.Given as goal

-- the details so far were appended, and no fault was uncounted
abbrev pub invariant-loop-detail : goal.invariant-loop-detail
invariant-loop-detail g l = record {
  front : Appends (g.E.Sink.written l.initial.errors) (g.E.Sink.written l.errors)
      (flat_map (λ detail. spaced (detail_text detail)) (take l.detail-index l.details));
  later : g.E.Sink.faults l.initial.errors ≤ g.E.Sink.faults l.errors;
}
