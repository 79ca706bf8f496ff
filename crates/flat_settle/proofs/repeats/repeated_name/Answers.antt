use Rattle.std.proofs.Common.{◌++◌, [], List, length, ap, sym, subst, arith}
use Rattle.std.specs.List.{flat_map}
use Rattle.net_core.specs.declared.parts.Group.{Group}
use Rattle.net_core.specs.WellFormed.{HasRange, IsIdentifier}
use Rattle.net_graph.specs.Lists.{AllDiffer, Each}
use Rattle.net_core.proofs.ClockLemmas.{ok_then}
use Rattle.flat_settle.specs.declared.raw.RawCell.{RawCell}
use Rattle.flat_settle.specs.Refusals.{group_names, cell_names, flat_order}
use Rattle.flat_settle.specs.Naming.{AreSeen, RepeatsAfter}
use Rattle.flat_settle.proofs.RepeatLemmas.{few_names, spelled_groups, at_some, at_none, match_as, first_repeat, no_repeat, repeats_widen, repeats_shift}
use Rattle.flat_settle.proofs.repeats.repeated_name.Goals as goal
use Rattle.flat_settle.proofs.repeats.repeated_name.Goals.{After-as_slice-in-None}

pub see_groups-requires-clause-ranges : goal.see_groups-requires-clause-ranges
see_groups-requires-clause-ranges c = subst (λ (groups : List Group). Each HasRange groups) (sym c.as_slice.ensures) c.requires.ranges

pub see_groups-requires-clause-spelled : goal.see_groups-requires-clause-spelled
see_groups-requires-clause-spelled c = subst (λ (groups : List Group). Each (λ (group : Group). IsIdentifier group.name) groups) (sym c.as_slice.ensures) (spelled_groups c.args.raw.now c.requires)

pub see_groups-requires-clause-few : goal.see_groups-requires-clause-few
see_groups-requires-clause-few c =
    let few = few_names c.args.raw.now c.requires in
    omega (arith, few, ap (λ (groups : List Group). length (flat_map group_names groups)) c.as_slice.ensures)

pub returns-in-Some : goal.returns-in-Some
returns-in-Some c =
    let names = flat_map group_names c.args.raw.now.groups in
    let repeats = at_some c.in_ok-name.field-0 c.in-Some.name _ (λ name. RepeatsAfter [] (flat_map group_names c.as_slice.result.now) name) c.in-Some.is c.in_ok-name.ensures in
    first_repeat (flat_order c.args.raw.now) c.in-Some.name
    (repeats_widen [] names (cell_names c.args.raw.now.cells) c.in-Some.name (subst (λ (groups : List Group). RepeatsAfter [] (flat_map group_names groups) c.in-Some.name) c.as_slice.ensures repeats))

-- the groups were met
met : (c : After-as_slice-in-None) → AreSeen c.see_groups.new.seen (flat_map group_names c.args.raw.now.groups)
met c = subst (λ (groups : List Group). AreSeen c.see_groups.new.seen (flat_map group_names groups)) c.as_slice.ensures
    (at_none c.in_ok-name.field-0 (AreSeen c.see_groups.new.seen (flat_map group_names c.as_slice.result.now)) _ c.in-None.is c.in_ok-name.ensures)

pub see_cells-requires : goal.see_cells-requires
see_cells-requires c =
    omega (arith, (met c).few, few_names c.args.raw.now c.requires, ap (λ (cells : List RawCell). length cells) c.as_slice-in-None.ensures, c.requires.limits.cells)

pub returns : goal.returns
returns c = ok_then c.see_cells.result _ _ (λ found told. (
    let groups_met = met (goal.at.returns c).After-as_slice-in-None in
    let names = flat_map group_names c.args.raw.now.groups in
    match_as found _ _ _ _
    (λ all. no_repeat (flat_order c.args.raw.now) (subst (λ (cells : List RawCell). AllDiffer (names ++ cell_names cells)) c.as_slice-in-None.ensures all.differ))
    (λ name repeats. first_repeat (flat_order c.args.raw.now) name
    (repeats_shift [] names (cell_names c.args.raw.now.cells) name (subst (λ (cells : List RawCell). RepeatsAfter names (cell_names cells) name) c.as_slice-in-None.ensures repeats)))
    (told names groups_met))) c.see_cells.ensures
