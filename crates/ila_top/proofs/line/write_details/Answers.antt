use Rattle.std.proofs.lemmas.Result.{err_from_is_err_and}
use Rattle.ila_base.specs.FaultLaws.{front_of_pieces}
use Rattle.ila_top.specs.ErrorLine.{spaced, detail_text}
use Rattle.ila_top.proofs.line.write_details.Goals as goal

pub returns-in_err-write_detail-clause-bytes : goal.returns-in_err-write_detail-clause-bytes
returns-in_err-write_detail-clause-bytes g c =
    let p = err_from_is_err_and c.from_residual.result c.from_residual.ensures.1 in
    rw p.1 (front_of_pieces (λ detail. spaced (detail_text detail)) _ _ _ c.args.details.now c.loop-detail.detail-index _ c.loop-detail-test.true
    c.loop-detail.invariant.front c.in_err-write_detail.ensures.bytes)
