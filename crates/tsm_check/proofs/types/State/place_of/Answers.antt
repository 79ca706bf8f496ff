use Rattle.std.proofs.Common.{sym, ◌∙◌, ap}
use Rattle.tsm_check.specs.Steps.{first_place}
use Rattle.tsm_check.specs.Truth.{is_met, cond_true}
use Rattle.tsm_check.proofs.FormulaLaws.{place_further, place_here, place_none}
use Rattle.tsm_check.proofs.types.State.place_of.Goals as goal

pub loop-place-preserved : goal.loop-place-preserved
loop-place-preserved c =
    let passes = cond_true (is_met c.args.before.now c.args.now.now c.args.config.counters) in
    let conds = c.as_slice-cond-items.result.now in
    place_further passes conds c.loop-place.place (first_place passes c.args.self.now.conds) c.cond-item.result c.loop-place-test.true
    (ap passes (sym c.cond-item.is) ∙ sym c.is_true.ensures ∙ c.if-is_true.false) c.loop-place.invariant

pub returns-then-is_true : goal.returns-then-is_true
returns-then-is_true c =
    let passes = cond_true (is_met c.args.before.now c.args.now.now c.args.config.counters) in
    let conds = c.as_slice-cond-items.result.now in
    place_here passes conds c.loop-place.place (first_place passes c.args.self.now.conds) c.cond-item.result c.loop-place-test.true
    (ap passes (sym c.cond-item.is) ∙ sym c.is_true.ensures ∙ c.if-is_true.true) c.loop-place.invariant

pub returns : goal.returns
returns c =
    let passes = cond_true (is_met c.args.before.now c.args.now.now c.args.config.counters) in
    let conds = c.as_slice-cond-items.result.now in
    c.len.ensures
    ∙ place_none passes conds c.args.self.now.conds c.loop-place.place (first_place passes c.args.self.now.conds) c.as_slice-cond-items.ensures
    c.loop-place-test.false c.loop-place.auto.place-end c.loop-place.invariant
