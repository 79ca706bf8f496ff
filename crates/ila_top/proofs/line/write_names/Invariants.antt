use Rattle.std.proofs.Common.{◌≤◌, take}
use Rattle.std.specs.List.{flat_map}
use Rattle.std.specs.Io.KnownBytes.{Appends}
use Rattle.ila_top.specs.ErrorLine.{spaced}
use Rattle.ila_top.proofs.line.write_names.Given as goal

-- the names so far were appended, and no fault was uncounted
abbrev pub invariant-loop-name : goal.invariant-loop-name
invariant-loop-name g l = record {
  front : Appends (g.E.Sink.written l.initial.errors) (g.E.Sink.written l.errors) (flat_map spaced (take l.name-index l.names));
  later : g.E.Sink.faults l.initial.errors ≤ g.E.Sink.faults l.errors;
}
