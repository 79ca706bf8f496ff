use Rattle.std.proofs.Common.{false, ◌∙◌, ap, arith}
use Rattle.std.proofs.lemmas.List.{take_rest}
use Rattle.std.proofs.lemmas.Result.{err_from_is_err_and}
use Rattle.vlog_lex.specs.Reading.{piece_at}
use Rattle.vlog_lex.specs.Taking.{settled_last}
use Rattle.vlog_lex.proofs.SettleLaws.{open_end, follows}
use Rattle.vlog_lex.proofs.StepLaws.{piece_within, taken_within, piece_rests, rests_end, piece_stops}
use Rattle.vlog_lex.proofs.cutting.cut.Goals as goal

pub take_piece-requires : goal.take_piece-requires
take_piece-requires c =
    let text = c.args.text.now in
    let at = c.loop-at.at in
    omega (arith, piece_within text at c.loop-at-test.true _ (c.piece_at-piece.ensures ∙ ap piece_at (take_rest text at)), c.requires)

pub returns-in_err-count-clause-refused : goal.returns-in_err-count-clause-refused
returns-in_err-count-clause-refused c =
    let text = c.args.text.now in
    let at = c.loop-at.at in
    let is = c.piece_at-piece.ensures ∙ ap piece_at (take_rest text at) in
    let p = err_from_is_err_and c.from_residual.result c.from_residual.ensures.1 in
    rw (p.1, p.2) (piece_stops text at c.loop-at-test.true _ _ _ _ c.loop-at.invariant.there is c.loop-at.invariant.cuts.2 c.in_err-count.ensures.refused)

pub loop-at-preserved : goal.loop-at-preserved
loop-at-preserved c =
    let text = c.args.text.now in
    let at = c.loop-at.at in
    let n = c.in_ok-count.count in
    let is = c.piece_at-piece.ensures ∙ ap piece_at (take_rest text at) in
    let within = taken_within text at c.loop-at-test.true _ _ _ _ _ is c.in_ok-count.ensures.taken in
    let (pieces, is_open, so) = c.loop-at.invariant.cuts in
    let (more, taken, still_open) = follows at c.loop-at.place c.piece_at-piece.result n c.loop-at.tokens.items _ pieces is_open c.in_ok-count.ensures.taken in
    record {
      within = within.1;
      there = c.further-place.ensures;
      cuts = (more, still_open, piece_rests text at c.loop-at-test.true _ _ n pieces more c.loop-at.invariant.there is taken so);
    }

pub returns-clause-found : goal.returns-clause-found
returns-clause-found c =
    let (pieces, is_open, so) = c.loop-at.invariant.cuts in
    (pieces, rests_end c.args.text.now c.loop-at.at pieces c.loop-at-test.false so, c.settle_last.ensures ∙ ap (λ ts. settled_last ts false) is_open ∙ open_end pieces)

pub overflow_add-end : goal.overflow_add-end
overflow_add-end c =
    let text = c.args.text.now in
    let at = c.loop-at.at in
    let within = taken_within text at c.loop-at-test.true _ _ _ _ _ (c.piece_at-piece.ensures ∙ ap piece_at (take_rest text at)) c.in_ok-count.ensures.taken in
    omega (arith, within.1, c.requires)

pub further-place-requires-clause-within : goal.further-place-requires-clause-within
further-place-requires-clause-within c =
    let text = c.args.text.now in
    let at = c.loop-at.at in
    let within = taken_within text at c.loop-at-test.true _ _ _ _ _ (c.piece_at-piece.ensures ∙ ap piece_at (take_rest text at)) c.in_ok-count.ensures.taken in
    within.1

pub loop-at-smaller : goal.loop-at-smaller
loop-at-smaller c =
    let text = c.args.text.now in
    let at = c.loop-at.at in
    let within = taken_within text at c.loop-at-test.true _ _ _ _ _ (c.piece_at-piece.ensures ∙ ap piece_at (take_rest text at)) c.in_ok-count.ensures.taken in
    omega (arith, within.0, within.1)
