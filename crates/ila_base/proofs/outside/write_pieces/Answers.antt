use Rattle.std.proofs.lemmas.Result.{err_from_is_err_and}
use Rattle.ila_base.specs.FaultLaws.{front_of_pieces}
use Rattle.ila_base.proofs.outside.write_pieces.Goals as goal

pub returns-in_err-write_all-clause-bytes : goal.returns-in_err-write_all-clause-bytes
returns-in_err-write_all-clause-bytes g c =
    let p = err_from_is_err_and c.from_residual.result c.from_residual.ensures.1 in
    rw p.1 (front_of_pieces (λ piece. piece.now) _ _ _ c.args.pieces.now c.loop-piece.piece-index _ c.loop-piece-test.true
    c.loop-piece.invariant.front c.in_err-write_all.ensures.bytes)
