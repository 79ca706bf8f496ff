use Rattle.std.proofs.Common.{◌≡◌, map, length, take}
use Rattle.ila_session.specs.Pieces.{piece_byte}
use Rattle.ila_session.proofs.outputs.fill_line.Given as goal

abbrev pub invariant-loop-at : goal.invariant-loop-at
invariant-loop-at g l = record {
  long : length l.line ≡ length l.pieces;
  done : take l.at l.line ≡ map (piece_byte (g.M.Machine.bit l.machine)) (take l.at l.pieces);
}
