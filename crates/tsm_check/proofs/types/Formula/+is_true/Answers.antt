use Rattle.std.proofs.Common.{rules}
use Rattle.tsm_check.specs.declared.types.Formula.{the_lemmas}
use Rattle.tsm_check.specs.Truth.{is_met}
use Rattle.tsm_check.specs.Validity.{is_short}
use Rattle.tsm_check.proofs.FormulaLaws.{part_of_all, part_of_any, all_left, any_left}
use Rattle.tsm_check.proofs.types.Formula.+is_true.Goals as goal

pub is_true-requires-in-loop-part : goal.is_true-requires-in-loop-part
is_true-requires-in-loop-part t c =
    let passes_too = part_of_all is_short c.args.self.now c.in-All.parts c.as_slice-part-items.result.now c.loop-part.part-index c.part-item.result c.in-All.is c.as_slice-part-items.ensures c.loop-part-test.true c.part-item.is c.requires in
    (search (rules, the_lemmas), passes_too)

pub loop-part-init : goal.loop-part-init
loop-part-init t c = all_left (is_met c.args.before.now c.args.now.now c.args.counters.now) c.args.self.now c.in-All.parts c.as_slice-part-items.result.now c.in-All.is c.as_slice-part-items.ensures

pub is_true-requires-in-loop-choice : goal.is_true-requires-in-loop-choice
is_true-requires-in-loop-choice t c =
    let passes_too = part_of_any is_short c.args.self.now c.in-Any.choices c.as_slice-choice-items.result.now c.loop-choice.choice-index c.choice-item.result c.in-Any.is c.as_slice-choice-items.ensures c.loop-choice-test.true c.choice-item.is c.requires in
    (search (rules, the_lemmas), passes_too)

pub loop-choice-init : goal.loop-choice-init
loop-choice-init t c = any_left (is_met c.args.before.now c.args.now.now c.args.counters.now) c.args.self.now c.in-Any.choices c.as_slice-choice-items.result.now c.in-Any.is c.as_slice-choice-items.ensures
