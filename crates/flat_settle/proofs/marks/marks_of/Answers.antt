use Rattle.std.proofs.Common.{get_or, arith, length, ap, ◌∙◌, false}
use Rattle.std.proofs.lemmas.Option.{slice_get-get_or}
use Rattle.std.proofs.lemmas.List.{length-replicate}
use Rattle.flat_settle.proofs.MarkedLemmas.{numbers_more, numbers_all}
use Rattle.flat_settle.proofs.marks.marks_of.Goals as goal

pub index_mut-requires : goal.index_mut-requires
index_mut-requires c =
    let at = slice_get-get_or c.args.list.now c.loop-number.number-index 0 c.loop-number-test.true in
    let size = ap length (c.in_ok-marks.ensures.items_if_clones_equal (λ y e. e)) ∙ length-replicate c.args.count false in
    omega (arith, c.requires (get_or c.args.list.now c.loop-number.number-index 0) (c.loop-number.number-index, at), size, c.loop-number.invariant.size, c.loop-number.marks.ok.0)

pub loop-number-preserved : goal.loop-number-preserved
loop-number-preserved c =
    let at = slice_get-get_or c.args.list.now c.loop-number.number-index 0 c.loop-number-test.true in
    let size = ap length (c.in_ok-marks.ensures.items_if_clones_equal (λ y e. e)) ∙ length-replicate c.args.count false in
    numbers_more c.args.list.now c.loop-number.number-index (get_or c.args.list.now c.loop-number.number-index 0) c.in_ok-marks.marks.items c.loop-number.marks.items at
    (omega (arith, c.requires (get_or c.args.list.now c.loop-number.number-index 0) (c.loop-number.number-index, at), size, c.loop-number.invariant.size)) c.loop-number.invariant

pub returns-clause-size : goal.returns-clause-size
returns-clause-size c = c.loop-number.invariant.size ∙ ap length (c.in_ok-marks.ensures.items_if_clones_equal (λ y e. e)) ∙ length-replicate c.args.count false

pub returns-clause-marked : goal.returns-clause-marked
returns-clause-marked c = numbers_all c.args.list.now c.loop-number.number-index c.args.count c.in_ok-marks.marks.items c.loop-number.marks.items (c.in_ok-marks.ensures.items_if_clones_equal (λ y e. e)) c.loop-number-test.false c.loop-number.invariant
