use Rattle.std.proofs.Common.{◌≡◌, ◌<◌, ◌≤◌, List, ℕ, subst, sym, map, length, ap, ◌∙◌, slice_get}
use Rattle.std.specs.List.{filter_map}
use Rattle.net_core.specs.declared.parts.Group.{Group}
use Rattle.net_core.specs.declared.parts.Cell.{Cell}
use Rattle.net_core.specs.declared.parts.Port.{Port}
use Rattle.net_core.specs.Netlist.{net_count, HasDriver, Reads}
use Rattle.net_core.specs.Lookup.{named_groups, named_cells}
use Rattle.net_core.specs.Tables.{IsInputOf, IsClockTable, IsDrivenTable}
use Rattle.net_core.specs.WellFormed.{AllDiffer}
use Rattle.net_core.proofs.PartsLemmas.{group_names_differ, cell_names_differ, few_groups, input_within, driver_within, read_within, clock_within, tables_tell}
use Rattle.net_core.proofs.flat.Flat.from_parts.Goals as goal

pub number_groups-requires-clause-differ : goal.number_groups-requires-clause-differ
number_groups-requires-clause-differ c =
    subst (λ (groups : List Group). AllDiffer (map (λ (group : Group). group.name) groups)) (sym c.as_slice-2.ensures.value) (group_names_differ _ c.requires)

pub number_groups-requires-clause-few : goal.number_groups-requires-clause-few
number_groups-requires-clause-few c = subst (λ (groups : List Group). length groups ≤ 4294967296) (sym c.as_slice-2.ensures.value) (few_groups _ c.requires)

pub number_cells-requires-clause-differ : goal.number_cells-requires-clause-differ
number_cells-requires-clause-differ c =
    subst (λ (cells : List Cell). AllDiffer (filter_map (λ (cell : Cell). cell.name) cells)) (sym c.as_slice-3.ensures.value) (cell_names_differ _ c.requires)

pub clock_table-requires-clause-driven : goal.clock_table-requires-clause-driven
clock_table-requires-clause-driven c = λ n driver.
    let count : c.count_nets-count.result ≡ net_count c.args.groups.items = c.count_nets-count.ensures ∙ ap net_count c.as_slice.ensures.value in
    subst (λ (count : ℕ). n < count) (sym count) (driver_within _ c.requires n (subst (λ (cells : List Cell). HasDriver cells n) c.as_slice-4.ensures.value driver))

pub clock_table-requires-clause-read : goal.clock_table-requires-clause-read
clock_table-requires-clause-read c = λ place i m cell reads.
    let count : c.count_nets-count.result ≡ net_count c.args.groups.items = c.count_nets-count.ensures ∙ ap net_count c.as_slice.ensures.value in
    subst (λ (count : ℕ). m < count) (sym count) (read_within _ c.requires place i m cell (subst (λ (cells : List Cell). Reads cells place cell i m) c.as_slice-4.ensures.value reads))

pub clock_table-requires-clause-clock : goal.clock_table-requires-clause-clock
clock_table-requires-clause-clock c =
    let count : c.count_nets-count.result ≡ net_count c.args.groups.items = c.count_nets-count.ensures ∙ ap net_count c.as_slice.ensures.value in
    subst (λ (count : ℕ). c.args.clock.0 < count) (sym count) (clock_within _ c.requires)

pub driven_table-requires-clause-inputs : goal.driven_table-requires-clause-inputs
driven_table-requires-clause-inputs c = λ n p port at is.
    let count : c.count_nets-count.result ≡ net_count c.args.groups.items = c.count_nets-count.ensures ∙ ap net_count c.as_slice.ensures.value in
    subst (λ (count : ℕ). n < count) (sym count)
    (input_within _ c.requires n p port (sym (ap (λ ports. slice_get ports p) c.as_slice-7.ensures.value) ∙ at)
    (subst (λ (groups : List Group). IsInputOf groups port n) c.as_slice-5.ensures.value is))

pub driven_table-requires-clause-driven : goal.driven_table-requires-clause-driven
driven_table-requires-clause-driven c = λ n driver.
    let count : c.count_nets-count.result ≡ net_count c.args.groups.items = c.count_nets-count.ensures ∙ ap net_count c.as_slice.ensures.value in
    subst (λ (count : ℕ). n < count) (sym count) (driver_within _ c.requires n (subst (λ (cells : List Cell). HasDriver cells n) c.as_slice-6.ensures.value driver))

pub invariant_of-result : goal.invariant_of-result
invariant_of-result c =
    let count : c.count_nets-count.result ≡ net_count c.args.groups.items = c.count_nets-count.ensures ∙ ap net_count c.as_slice.ensures.value in
    let clocks : IsClockTable c.args.cells.items (net_count c.args.groups.items) c.args.clock.0 c.in_ok-clocked.clocked.items =
    subst (λ (count : ℕ). IsClockTable c.args.cells.items count c.args.clock.0 c.in_ok-clocked.clocked.items) count
    (subst (λ (cells : List Cell). IsClockTable cells c.count_nets-count.result c.args.clock.0 c.in_ok-clocked.clocked.items) c.as_slice-4.ensures.value c.in_ok-clocked.ensures) in
    let drivens : IsDrivenTable c.args.groups.items c.args.cells.items c.args.ports.items (net_count c.args.groups.items) c.in_ok-driven.driven.items =
    subst (λ (count : ℕ). IsDrivenTable c.args.groups.items c.args.cells.items c.args.ports.items count c.in_ok-driven.driven.items) count
    (subst (λ (ports : List Port). IsDrivenTable c.args.groups.items c.args.cells.items ports c.count_nets-count.result c.in_ok-driven.driven.items) c.as_slice-7.ensures.value
    (subst (λ (cells : List Cell). IsDrivenTable c.args.groups.items cells c.as_slice-7.result.now c.count_nets-count.result c.in_ok-driven.driven.items) c.as_slice-6.ensures.value
    (subst (λ (groups : List Group). IsDrivenTable groups c.as_slice-6.result.now c.as_slice-7.result.now c.count_nets-count.result c.in_ok-driven.driven.items) c.as_slice-5.ensures.value c.in_ok-driven.ensures))) in
    record {
      flat = record { formed = c.requires; tables = tables_tell _ c.requires c.in_ok-clocked.clocked.items c.in_ok-driven.driven.items clocks drivens };
      groups = c.in_ok-group_numbers.ensures ∙ ap named_groups c.as_slice-2.ensures.value;
      cells = c.in_ok-cell_numbers.ensures ∙ ap named_cells c.as_slice-3.ensures.value;
    }
