use Rattle.std.proofs.Common.{◌⊎◌, ◌↔◌, ℕ, List, false, slice_get, ap, sym, ◌∙◌, subst, arith}
use Rattle.net_core.specs.declared.parts.Port.{Port}
use Rattle.net_graph.specs.Lists.{IsIn}
use Rattle.net_core.proofs.ClockLemmas.{ok_then}
use Rattle.flat_settle.specs.declared.raw.RawCell.{RawCell}
use Rattle.flat_settle.specs.Tables.{Appends, IsStep, IsSomewhere, PortHas, SeedHas}
use Rattle.flat_settle.proofs.DrivenLemmas.{leads_low, step_low, ends_low, driven_is, ends_of, spread_cells}
use Rattle.flat_settle.proofs.driven.driven_table.Goals as goal
use Rattle.flat_settle.proofs.driven.driven_table.Goals.{After-as_slice-4}

is_end : (c : After-as_slice-4) → (n : ℕ) → IsIn c.push_seeds.new.list n ↔ (IsSomewhere (PortHas c.args.raw.now.groups false) c.args.raw.now.ports n ⊎ IsSomewhere SeedHas c.args.raw.now.cells n)
is_end c = ends_of c.new-seeds.result c.push_ports.new.list c.push_seeds.new.list _ _ c.new-seeds.ensures
    (subst (λ (ports : List Port). Appends c.new-seeds.result c.push_ports.new.list (IsSomewhere (PortHas c.args.raw.now.groups false) ports)) c.as_slice.ensures c.in_ok-push_ports.ensures)
    (subst (λ (cells : List RawCell). Appends c.push_ports.new.list c.push_seeds.new.list (IsSomewhere SeedHas cells)) c.as_slice-2.ensures c.in_ok-push_seeds.ensures)

pub spread-requires-clause-from : goal.spread-requires-clause-from
spread-requires-clause-from c = λ d m cell at leads.
    omega (arith, leads_low c.args.raw.now c.requires.unfolded false d m cell (sym (ap (λ (cells : List RawCell). slice_get cells d) c.as_slice-3.ensures) ∙ at) leads, c.requires.count)

pub spread-requires-clause-to : goal.spread-requires-clause-to
spread-requires-clause-to c = λ m n step.
    omega (arith, step_low c.args.raw.now c.requires.unfolded false m n (subst (λ (cells : List RawCell). IsStep false cells m n) c.as_slice-3.ensures step), c.requires.count)

pub spread-requires-clause-ends : goal.spread-requires-clause-ends
spread-requires-clause-ends c = λ n own.
    omega (arith, ends_low c.args.raw.now c.requires.unfolded c.push_seeds.new.list (is_end c) n (subst (λ (xs : List ℕ). IsIn xs n) c.as_slice-4.ensures own), c.requires.count)

pub returns-clause-marked : goal.returns-clause-marked
returns-clause-marked c = ok_then c.spread.result _ _ (λ marks told n. (
    let same = driven_is c.args.raw.now c.requires.unfolded c.push_seeds.new.list (is_end (goal.at.returns-clause-marked c).After-as_slice-4) n in
    let moved = spread_cells false c.as_slice-3.result.now c.args.raw.now.cells c.as_slice-4.result.now c.push_seeds.new.list c.as_slice-3.ensures c.as_slice-4.ensures n in
    (λ t. same.0 (moved.0 ((told n).0 t)), λ d. (told n).1 (moved.1 (same.1 d))))) c.spread.ensures.marked
