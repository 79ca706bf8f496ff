use Rattle.std.proofs.Common.{◌≤◌, take}
use Rattle.std.specs.List.{flat_map}
use Rattle.std.specs.Io.KnownBytes.{Appends}
use Rattle.ila_base.proofs.outside.write_pieces.Given as goal

-- the pieces so far were appended, and no fault was uncounted
abbrev pub invariant-loop-piece : goal.invariant-loop-piece
invariant-loop-piece g l = record {
  front : Appends (g.K.Sink.written l.initial.sink) (g.K.Sink.written l.sink) (flat_map (λ piece. piece.now) (take l.piece-index l.pieces));
  later : g.K.Sink.faults l.initial.sink ≤ g.K.Sink.faults l.sink;
}
