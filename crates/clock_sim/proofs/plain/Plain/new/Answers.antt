use Rattle.std.proofs.Common.{◌≡◌, ℕ, ◌+◌, List, length, map, sum_by, slice_get, slice_index, ap, sym, ◌∙◌, subst, arith}
use Rattle.net_core.specs.declared.parts.Cell.{Cell}
use Rattle.net_core.specs.Netlist.{net_count}
use Rattle.clock_sim.specs.declared.plan.Row.{Row}
use Rattle.clock_sim.specs.declared.plan.Slot.{Slot}
use Rattle.clock_sim.specs.Plan.{AreRowsTo, AreBases, AreRegisters, AreFormulasTo, IsStartTo}
use Rattle.clock_sim.proofs.PlanLemmas.{few_pins, all_allowed, places_fit, rows_range, slot_has_row, bases_new, keeps_new, stands_new}
use Rattle.clock_sim.proofs.plain.Plain.new.Goals as goal
use Rattle.clock_sim.proofs.plain.Plain.new.Goals.{In_ok-stored}

pub push_rows-requires-clause-pins : goal.push_rows-requires-clause-pins
push_rows-requires-clause-pins c =
    let one : List Cell → ℕ = sum_by (λ (cell : Cell). length cell.ins) in
    omega (arith, few_pins c.args.flat.now c.cells.ensures.kept, ap one c.cells.ensures.value)

pub push_rows-requires-clause-allowed : goal.push_rows-requires-clause-allowed
push_rows-requires-clause-allowed c = λ d cell at. all_allowed c.args.flat.now c.cells.ensures.kept d cell (ap (λ (cells : List Cell). slice_get cells d) (sym c.cells.ensures.value) ∙ at)

pub push_rows-requires-clause-nets : goal.push_rows-requires-clause-nets
push_rows-requires-clause-nets c = λ d i cell pin at from. places_fit c.args.flat.now c.cells.ensures.kept d i cell pin (ap (λ (cells : List Cell). slice_get cells d) (sym c.cells.ensures.value) ∙ at) from

pub push_registers-requires-clause-pins : goal.push_registers-requires-clause-pins
push_registers-requires-clause-pins c =
    let one : List Cell → ℕ = sum_by (λ (cell : Cell). length cell.ins) in
    omega (arith, few_pins c.args.flat.now c.cells.ensures.kept, ap one c.cells-2.ensures.value)

pub push_registers-requires-clause-allowed : goal.push_registers-requires-clause-allowed
push_registers-requires-clause-allowed c = λ d cell at. all_allowed c.args.flat.now c.cells.ensures.kept d cell (ap (λ (cells : List Cell). slice_get cells d) (sym c.cells-2.ensures.value) ∙ at)

pub push_registers-requires-clause-nets : goal.push_registers-requires-clause-nets
push_registers-requires-clause-nets c = λ d i cell pin at from. places_fit c.args.flat.now c.cells.ensures.kept d i cell pin (ap (λ (cells : List Cell). slice_get cells d) (sym c.cells-2.ensures.value) ∙ at) from

pub start_stored-requires-clause-allowed : goal.start_stored-requires-clause-allowed
start_stored-requires-clause-allowed c = λ d cell at. all_allowed c.args.flat.now c.cells.ensures.kept d cell (ap (λ (cells : List Cell). slice_get cells d) (sym c.cells-3.ensures.value) ∙ at)

pub push_formulas-requires-clause-ranges : goal.push_formulas-requires-clause-ranges
push_formulas-requires-clause-ranges c = λ d row at.
    let own = rows_range c.cells.result.now c.push_rows.new.places.items c.push_rows.new.rows.items c.in_ok-count.count d row c.in_ok-count.ensures (ap (λ (rows : List Row). slice_get rows d) (sym c.as_slice-3.ensures.value) ∙ at) in
    (own.0, omega (arith, own.1, ap length c.as_slice-2.ensures.value))

pub push_formulas-requires-clause-cells : goal.push_formulas-requires-clause-cells
push_formulas-requires-clause-cells c = λ j slot at.
    let told : AreRowsTo c.args.flat.now.cells (length c.args.flat.now.cells) c.push_rows.new.places.items c.push_rows.new.rows.items c.in_ok-count.count =
    subst (λ (cells : List Cell). AreRowsTo cells (length cells) c.push_rows.new.places.items c.push_rows.new.rows.items c.in_ok-count.count) c.cells.ensures.value c.in_ok-count.ensures in
    let own = slot_has_row c.args.flat.now (slice_index c.args.levels.now) c.push_rows.new.places.items c.push_rows.new.rows.items c.in_ok-slots.slots.items c.in_ok-count.count j slot told c.in_ok-slots.ensures
    (ap (λ (slots : List Slot). slice_get slots j) (sym c.as_slice-4.ensures.value) ∙ at) in
    omega (arith, own, ap length c.as_slice-3.ensures.value)

told : (c : In_ok-stored) → AreRowsTo c.args.flat.now.cells (length c.args.flat.now.cells) c.push_rows.new.places.items c.push_rows.new.rows.items c.in_ok-count.count
told c = subst (λ (cells : List Cell). AreRowsTo cells (length cells) c.push_rows.new.places.items c.push_rows.new.rows.items c.in_ok-count.count) c.cells.ensures.value c.in_ok-count.ensures

bases : (c : In_ok-stored) → AreBases c.args.flat.now.cells c.in_ok-bases.bases.items
bases c =
    bases_new c.args.flat.now c.cells.ensures.kept c.push_rows.new.places.items c.in_ok-bases.bases.items c.push_rows.new.rows.items c.in_ok-count.count (told c)
    (c.in_ok-bases.ensures ∙ ap (map (λ (row : Row). row.base)) c.as_slice.ensures.value)

registers : (c : In_ok-stored) → AreRegisters c.args.flat.now.cells c.push_registers.new.places.items c.push_registers.new.registers.items
registers c = subst (λ (cells : List Cell). AreRegisters cells c.push_registers.new.places.items c.push_registers.new.registers.items) c.cells-2.ensures.value c.in_ok-push_registers.ensures

made : (c : In_ok-stored) → AreFormulasTo c.push_rows.new.places.items c.push_rows.new.rows.items c.in_ok-slots.slots.items (length c.in_ok-slots.slots.items) c.push_formulas.new.places.items c.push_formulas.new.formulas.items
made c =
    subst (λ (pins : List ℕ). AreFormulasTo pins c.push_rows.new.rows.items c.in_ok-slots.slots.items (length c.in_ok-slots.slots.items) c.push_formulas.new.places.items c.push_formulas.new.formulas.items) c.as_slice-2.ensures.value
    (subst (λ (rows : List Row). AreFormulasTo c.as_slice-2.result.now rows c.in_ok-slots.slots.items (length c.in_ok-slots.slots.items) c.push_formulas.new.places.items c.push_formulas.new.formulas.items) c.as_slice-3.ensures.value
    (subst (λ (slots : List Slot). AreFormulasTo c.as_slice-2.result.now c.as_slice-3.result.now slots (length slots) c.push_formulas.new.places.items c.push_formulas.new.formulas.items) c.as_slice-4.ensures.value c.in_ok-push_formulas.ensures))

start : (c : In_ok-stored) → IsStartTo c.args.flat.now.cells (length c.args.flat.now.cells) c.in_ok-stored.stored
start c = subst (λ (cells : List Cell). IsStartTo cells (length cells) c.in_ok-stored.stored) c.cells-3.ensures.value c.in_ok-stored.ensures

size : (c : In_ok-stored) → length c.in_ok-values.values.items ≡ net_count c.args.flat.now.groups + 2
size c = omega (arith, c.in_ok-values.ensures.size, c.net_count.ensures)

pub invariant_of-result : goal.invariant_of-result
invariant_of-result c =
    keeps_new c.args.flat.now c.cells.ensures.kept c.args.levels.now c.in_ok-inputs.inputs.items c.push_rows.new.places.items c.push_rows.new.rows.items c.in_ok-slots.slots.items
    c.in_ok-bases.bases.items c.push_registers.new.places.items c.push_registers.new.registers.items c.push_formulas.new.places.items c.push_formulas.new.formulas.items c.in_ok-values.values.items c.in_ok-stored.stored
    c.in_ok-count.count c.requires.ranked c.in_ok-inputs.ensures (told c) (bases c) (registers c) c.in_ok-slots.ensures (made c) (size c) c.in_ok-values.ensures.constants (start c)

pub returns-clause-stands : goal.returns-clause-stands
returns-clause-stands c =
    let at = (goal.at.returns-clause-stands c).In_ok-stored in
    stands_new c.args.flat.now c.cells.ensures.kept c.in_ok-values.values.items c.in_ok-stored.stored (start at)
