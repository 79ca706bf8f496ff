use Rattle.std.proofs.Common.{◌≡◌, ◌++◌, map}
use Rattle.std.specs.List.{range_with_len}
use Rattle.ila_session.specs.declared.pieces.Piece.TheVariants as pieces
use Rattle.ila_session.specs.Pieces.{digit_at}
use Rattle.ila_session.proofs.pieces.push_word.Given as goal

abbrev pub invariant-loop-k : goal.invariant-loop-k
invariant-loop-k l = l.pieces.items ≡ l.initial.pieces.items ++ map (λ k. pieces.Nets (digit_at l.nets k)) (range_with_len 0 l.k)
