use Rattle.std.proofs.Common.{◌≡◌, ℕ, Bool, map, length, take, All}
use Rattle.std.specs.Prelude.{filter}
use Rattle.std.specs.List.{join_with_byte}
use Rattle.net_core.specs.declared.parts.Port.{Port}
use Rattle.ila_session.specs.Outputs.{word_at}
use Rattle.ila_session.specs.Pieces.{piece_byte, HasDataNets}
use Rattle.ila_session.proofs.plan.line_pieces.Given as goal

abbrev pub invariant-loop-port : goal.invariant-loop-port
invariant-loop-port l = record {
  count : l.words ≡ length (filter (λ (port : Port). port.output) (take l.port-index l.port-items));
  joined : (bit : ℕ → Bool) → map (piece_byte bit) l.pieces.items ≡ join_with_byte 32 (map (word_at l.flat bit) (filter (λ (port : Port). port.output) (take l.port-index l.port-items)));
  nets : All (HasDataNets l.flat) l.pieces.items;
}
