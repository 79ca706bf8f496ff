use Rattle.std.proofs.Common.{◌∷◌, [], List, true, slice_get, refl, ap, sym, ◌∙◌, subst, arith}
use Rattle.net_core.proofs.ClockLemmas.{ok_then}
use Rattle.flat_settle.specs.declared.raw.RawCell.{RawCell}
use Rattle.flat_settle.specs.Tables.{IsStep}
use Rattle.flat_settle.proofs.DrivenLemmas.{leads_low, step_low, clock_low, clocked_is, spread_cells}
use Rattle.flat_settle.proofs.driven.clocked_table.Goals as goal

pub spread-requires-clause-from : goal.spread-requires-clause-from
spread-requires-clause-from c = λ d m cell at leads.
    omega (arith, leads_low c.args.raw.now c.requires.unfolded true d m cell (sym (ap (λ (cells : List RawCell). slice_get cells d) c.as_slice.ensures) ∙ at) leads, c.requires.count)

pub spread-requires-clause-to : goal.spread-requires-clause-to
spread-requires-clause-to c = λ m n step.
    omega (arith, step_low c.args.raw.now c.requires.unfolded true m n (subst (λ (cells : List RawCell). IsStep true cells m n) c.as_slice.ensures step), c.requires.count)

pub spread-requires-clause-ends : goal.spread-requires-clause-ends
spread-requires-clause-ends c = λ n own. omega (arith, clock_low c.args.raw.now c.requires.unfolded n own, c.requires.count)

pub returns-clause-marked : goal.returns-clause-marked
returns-clause-marked c = ok_then c.spread.result _ _ (λ marks told n. (
    let same = clocked_is c.args.raw.now c.requires.unfolded n in
    let moved = spread_cells true c.as_slice.result.now c.args.raw.now.cells (c.args.raw.now.clock.0 ∷ []) (c.args.raw.now.clock.0 ∷ []) c.as_slice.ensures refl n in
    (λ t. same.0 (moved.0 ((told n).0 t)), λ d. (told n).1 (moved.1 (same.1 d))))) c.spread.ensures.marked
