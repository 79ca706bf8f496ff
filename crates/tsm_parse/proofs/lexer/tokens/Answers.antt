use Rattle.std.proofs.Common.{◌∙◌, ap, arith}
use Rattle.std.specs.Prelude.{None}
use Rattle.std.proofs.lemmas.List.{take_rest}
use Rattle.std.proofs.lemmas.Result.{err_from_is_err_and}
use Rattle.tsm_parse.specs.Reading.{piece_at}
use Rattle.tsm_parse.proofs.StepLaws.{piece_within, taken_within, piece_rests, rests_end, piece_stops}
use Rattle.tsm_parse.proofs.SpanLaws.{tokens_within, tokens_rise, tokens_sorted}
use Rattle.tsm_parse.proofs.lexer.tokens.Goals as goal

pub take_piece-requires : goal.take_piece-requires
take_piece-requires c =
    let text = c.args.text.now in
    let at = c.loop-at.at in
    omega (arith, piece_within text at c.loop-at-test.true _ (c.piece_at-piece.ensures ∙ ap piece_at (take_rest text at)), c.requires)

pub returns-in_err-count-clause-refused : goal.returns-in_err-count-clause-refused
returns-in_err-count-clause-refused c =
    let text = c.args.text.now in
    let at = c.loop-at.at in
    let is = c.piece_at-piece.ensures ∙ ap piece_at (take_rest text at) in
    let p = err_from_is_err_and c.from_residual.result c.from_residual.ensures.1 in
    rw (p.1, p.2) (piece_stops text at c.loop-at-test.true _ _ _ _ c.loop-at.invariant.there is c.loop-at.invariant.cuts c.in_err-count.ensures.refused)

pub overflow_add-end : goal.overflow_add-end
overflow_add-end c =
    let text = c.args.text.now in
    let at = c.loop-at.at in
    let within = taken_within text at c.loop-at-test.true _ _ _ _ _ (c.piece_at-piece.ensures ∙ ap piece_at (take_rest text at)) c.in_ok-count.ensures.taken in
    omega (arith, within.1, c.requires)

pub further-place-requires-clause-within : goal.further-place-requires-clause-within
further-place-requires-clause-within c =
    let text = c.args.text.now in
    let at = c.loop-at.at in
    let within = taken_within text at c.loop-at-test.true _ _ _ _ _ (c.piece_at-piece.ensures ∙ ap piece_at (take_rest text at)) c.in_ok-count.ensures.taken in
    within.1

pub loop-at-smaller : goal.loop-at-smaller
loop-at-smaller c =
    let text = c.args.text.now in
    let at = c.loop-at.at in
    let within = taken_within text at c.loop-at-test.true _ _ _ _ _ (c.piece_at-piece.ensures ∙ ap piece_at (take_rest text at)) c.in_ok-count.ensures.taken in
    omega (arith, within.0, within.1)

pub loop-at-preserved : goal.loop-at-preserved
loop-at-preserved c =
    let text = c.args.text.now in
    let at = c.loop-at.at in
    let n = c.in_ok-count.count in
    let is = c.piece_at-piece.ensures ∙ ap piece_at (take_rest text at) in
    let within = taken_within text at c.loop-at-test.true _ _ _ _ _ is c.in_ok-count.ensures.taken in
    record {
      within = within.1;
      there = c.further-place.ensures;
      cuts = piece_rests text at c.loop-at-test.true _ _ n _ _ c.loop-at.invariant.there is c.in_ok-count.ensures.taken c.loop-at.invariant.cuts;
    }

pub returns-clause-found : goal.returns-clause-found
returns-clause-found c = rests_end c.args.text.now c.loop-at.at c.loop-at.tokens.items c.loop-at-test.false c.loop-at.invariant.cuts

pub returns-clause-within : goal.returns-clause-within
returns-clause-within c =
    tokens_within c.args.text.now c.loop-at.tokens.items None (rests_end c.args.text.now c.loop-at.at c.loop-at.tokens.items c.loop-at-test.false c.loop-at.invariant.cuts)

pub returns-clause-rise : goal.returns-clause-rise
returns-clause-rise c =
    tokens_rise c.args.text.now c.loop-at.tokens.items None (rests_end c.args.text.now c.loop-at.at c.loop-at.tokens.items c.loop-at-test.false c.loop-at.invariant.cuts)

pub returns-clause-sorted : goal.returns-clause-sorted
returns-clause-sorted c =
    tokens_sorted c.args.text.now c.loop-at.tokens.items None (rests_end c.args.text.now c.loop-at.at c.loop-at.tokens.items c.loop-at-test.false c.loop-at.invariant.cuts)
