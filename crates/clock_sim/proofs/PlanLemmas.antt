-- What a new plain simulator keeps.
use Rattle.std.proofs.Common.{◌≡◌, ℕ, zero, suc, ◌+◌, ◌^◌, ◌<◌, ◌≤◌, Bool, List, [], ◌∷◌, length, map, replicate, fold, sum, sum_by, slice_get, slice_index, slice_range, Some, ap, sym, ◌∙◌, subst, arith}
use Rattle.std.proofs.lemmas.List.{length-map}
use Rattle.std.proofs.lemmas.List.Sums.{sum_by-cons}
use Rattle.std.proofs.lemmas.Option.{slice_get_within, slice_get-map}
use Rattle.std.specs.Option.{option_map}
use Rattle.ila_base.specs.declared.limits.TheConstants.{CELLS, PINS}
use Rattle.net_core.specs.declared.kind.CellKind.{CellKind}
use Rattle.net_core.specs.declared.kind.CellKind.TheVariants.{Gate, Lut, Inv, Ibuf, Obuf, Bufg, Gnd, Vcc, Muxf7, Muxf8, Carry4, Fdre, Fdse, Fdce, Fdpe, Mem}
use Rattle.net_core.specs.declared.parts.Pin.{Pin}
use Rattle.net_core.specs.declared.parts.Pin.TheVariants as pins
use Rattle.net_core.specs.declared.parts.Cell.{Cell}
use Rattle.net_core.specs.CellTable.{content_size, IsAllowed, IsPinCount, input_widths, output_widths}
use Rattle.net_core.specs.Netlist.{Netlist, parts_of, net_count, input_nets, input_bits}
use Rattle.net_core.specs.WellFormed.{IsFlat, pin_count}
use Rattle.net_core.specs.Run.{StandsFor}
use Rattle.net_core.specs.Cycle.{IsRanked}
use Rattle.net_core.proofs.PartsLemmas.{filter_some, input_of, input_within, read_within}
use Rattle.net_core.proofs.RunLemmas.{stands_none}
use Rattle.clock_sim.specs.declared.plan.Row.{Row}
use Rattle.clock_sim.specs.declared.plan.Slot.{Slot}
use Rattle.clock_sim.specs.declared.plan.Formula.{Formula}
use Rattle.clock_sim.specs.Reading.{place_of, net_bit, HasPins, HasMemoryPins}
use Rattle.clock_sim.specs.Plan.{base_of, stored_bit, AreRowsTo, AreBases, AreRegisters, AreFormulasTo, AreSlots, IsFormula, IsWithin, HasConstants, HasPinsWithin, IsStartTo, KeepsPlan}
use Rattle.clock_sim.proofs.AdvanceLemmas.{there_is, base_apart}
use Rattle.clock_sim.proofs.BuildLemmas.{bases_fit}

ones_from : (n a : ℕ) → fold ◌+◌ a (replicate n 1) ≡ a + n
ones_from zero a = omega arith
ones_from (suc n) a = let sum : a + 1 + n ≡ a + suc n = omega arith in ones_from n (a + 1) ∙ sum

ones : (n : ℕ) → sum (replicate n 1) ≡ n
ones n = let sum : 0 + n ≡ n = omega arith in ones_from n 0 ∙ sum

lut_pins : (n init count out : ℕ) → IsAllowed (Lut n init) → IsPinCount (input_widths (Lut n init)) count → HasPins (Lut n init) count out
lut_pins n init count out allowed is = omega (arith, allowed.1, is, ones n)

enough_pins : (kind : CellKind) (count outs out : ℕ) → IsAllowed kind → IsPinCount (input_widths kind) count → IsPinCount (output_widths kind) outs → out < outs → HasPins kind count out
enough_pins (Lut n init) count outs out allowed is outputs low = lut_pins n init count out allowed is
enough_pins Carry4 count outs out allowed is outputs low = omega (arith, outputs, low)
enough_pins (Gate code) count outs out allowed is outputs low = tt
enough_pins Inv count outs out allowed is outputs low = tt
enough_pins Ibuf count outs out allowed is outputs low = tt
enough_pins Obuf count outs out allowed is outputs low = tt
enough_pins Bufg count outs out allowed is outputs low = tt
enough_pins Gnd count outs out allowed is outputs low = tt
enough_pins Vcc count outs out allowed is outputs low = tt
enough_pins Muxf7 count outs out allowed is outputs low = tt
enough_pins Muxf8 count outs out allowed is outputs low = tt
enough_pins (Fdre init) count outs out allowed is outputs low = tt
enough_pins (Fdse init) count outs out allowed is outputs low = tt
enough_pins (Fdce init) count outs out allowed is outputs low = tt
enough_pins (Fdpe init) count outs out allowed is outputs low = tt
enough_pins (Mem aw dw) count outs out allowed is outputs low = tt

memory_pins : (kind : CellKind) (count : ℕ) → IsAllowed kind → IsPinCount (input_widths kind) count → HasMemoryPins kind count
memory_pins (Mem aw dw) count allowed is = (omega (arith, is), allowed.1, allowed.2)
memory_pins (Lut n init) count allowed is = tt
memory_pins Carry4 count allowed is = tt
memory_pins (Gate code) count allowed is = tt
memory_pins Inv count allowed is = tt
memory_pins Ibuf count allowed is = tt
memory_pins Obuf count allowed is = tt
memory_pins Bufg count allowed is = tt
memory_pins Gnd count allowed is = tt
memory_pins Vcc count allowed is = tt
memory_pins Muxf7 count allowed is = tt
memory_pins Muxf8 count allowed is = tt
memory_pins (Fdre init) count allowed is = tt
memory_pins (Fdse init) count allowed is = tt
memory_pins (Fdce init) count allowed is = tt
memory_pins (Fdpe init) count allowed is = tt

fewer_pins : (cells : List Cell) → sum_by (λ (cell : Cell). length cell.ins) cells ≤ sum_by pin_count cells
fewer_pins [] = omega arith
fewer_pins (cell ∷ cells) = omega (arith, fewer_pins cells, sum_by-cons (λ (cell : Cell). length cell.ins) cell cells, sum_by-cons pin_count cell cells)

-- the rows of all cells have their pins in the list
pub rows_range : (cells : List Cell) (pins : List ℕ) (rows : List Row) (base c : ℕ) (row : Row) → AreRowsTo cells (length cells) pins rows base → slice_get rows c ≡ Some row → (row.first ≤ row.last) × (row.last ≤ length pins)
rows_range cells pins rows base c row told at =
    let cell = there_is cells c (omega (arith, slice_get_within rows c row at, told.size)) in
    let each = told.each c cell.0 row cell.1 at in
    (each.order, each.room)

-- each slot's cell has a row
pub slot_has_row : (net : Netlist) (rank : ℕ → ℕ) (pins : List ℕ) (rows : List Row) (slots : List Slot) (base j : ℕ) (slot : Slot) → AreRowsTo net.cells (length net.cells) pins rows base → AreSlots net rank slots → slice_get slots j ≡ Some slot
    → slot.cell < length rows
slot_has_row net rank pins rows slots base j slot told slot_each at =
    let sound = slot_each.sound j slot at in
    omega (arith, slice_get_within net.cells slot.cell sound.0 sound.1.at, told.size)

module _ (net : Netlist) (flat : IsFlat net) where
  pub few_cells : length net.cells ≤ CELLS
  few_cells = flat.formed.limits.cells

  pub few_pins : sum_by (λ (cell : Cell). length cell.ins) net.cells ≤ PINS
  few_pins = omega (arith, fewer_pins net.cells, flat.formed.limits.pins)

  pub all_allowed : (c : ℕ) (cell : Cell) → slice_get net.cells c ≡ Some cell → IsAllowed cell.kind
  all_allowed c cell at = (flat.formed.rows c cell at).allowed

  pub places_fit : (c i : ℕ) (cell : Cell) (pin : Pin) → slice_get net.cells c ≡ Some cell → slice_get cell.ins i ≡ Some pin → place_of pin < 2 ^ 32
  places_fit c i cell (pins.Net own) at from = omega (arith, read_within (parts_of net) flat.formed c i own.0 cell (record { at = at; from = from }), flat.formed.limits.nets)
  places_fit c i cell pins.Zero at from = omega arith
  places_fit c i cell pins.One at from = omega arith

  pub bases_new : (pins bases : List ℕ) (rows : List Row) (next : ℕ) → AreRowsTo net.cells (length net.cells) pins rows next → bases ≡ map (λ (row : Row). row.base) rows → AreBases net.cells bases
  bases_new pins bases rows next told is c cell at =
      let row = there_is rows c (omega (arith, slice_get_within net.cells c cell at, told.size)) in
      ap (λ xs. slice_get xs c) is ∙ slice_get-map (λ (row : Row). row.base) rows c ∙ ap (option_map (λ (row : Row). row.base)) row.1 ∙ ap Some (told.each c cell row.0 at row.1).base

  -- the registers' numbers stay within their lists
  registers_within : (pins : List ℕ) (registers : List Row) (stored : List Bool) → AreRegisters net.cells pins registers → length stored ≡ base_of net.cells (length net.cells) → IsWithin pins registers (length stored)
  registers_within pins registers stored are size = record {
    ranges = λ j row at. (let own = are.sound j row at in (own.3.order, own.3.room));
    bases = λ j row at. (
        let own = are.sound j row at in
        let kinds : content_size row.kind ≡ content_size own.1.kind = ap content_size own.3.kind in
        omega (arith, own.3.base, kinds, base_apart net.cells own.0 (length net.cells) own.1 own.2 (slice_get_within net.cells own.0 own.1 own.2), size));
    memories = λ j row at. (
        let own = are.sound j row at in
        let own_row = flat.formed.rows own.0 own.1 own.2 in
        let count : length (slice_range pins row.first row.last) ≡ length own.1.ins = ap length own.3.places ∙ length-map own.1.ins place_of in
        subst (λ (n : ℕ). HasMemoryPins row.kind n) (sym count)
        (subst (λ (kind : CellKind). HasMemoryPins kind (length own.1.ins)) (sym own.3.kind) (memory_pins own.1.kind (length own.1.ins) own_row.allowed own_row.input_count)));
    few = omega (arith, size, bases_fit net.cells (length net.cells) all_allowed few_cells);
  }

  pub stands_new : (values stored : List Bool) → IsStartTo net.cells (length net.cells) stored → StandsFor net (net_bit values) (stored_bit net.cells stored) []
  stands_new values stored start = stands_none net (net_bit values) (stored_bit net.cells stored) (λ c cell at i within. start.bits c cell i (slice_get_within net.cells c cell at) at within)

  module _ (numbers inputs row_pins : List ℕ) (rows : List Row) (slots : List Slot) (bases pins : List ℕ) (registers : List Row) (places : List ℕ) (formulas : List Formula) (values stored : List Bool) (next : ℕ)
      (ranked : IsRanked net (slice_index numbers)) (input_each : inputs ≡ input_nets net) (told : AreRowsTo net.cells (length net.cells) row_pins rows next) (base_each : AreBases net.cells bases)
      (register_each : AreRegisters net.cells pins registers) (slot_each : AreSlots net (slice_index numbers) slots) (made : AreFormulasTo row_pins rows slots (length slots) places formulas)
      (size : length values ≡ net_count net.groups + 2) (constants : HasConstants values) (start : IsStartTo net.cells (length net.cells) stored) where
    row_at : (c : ℕ) (cell : Cell) → slice_get net.cells c ≡ Some cell → (row : Row) × (slice_get rows c ≡ Some row)
    row_at c cell at = there_is rows c (omega (arith, slice_get_within net.cells c cell at, told.size))

    -- a formula has what the row of its slot's cell has
    is_formula : (j : ℕ) (slot : Slot) (cell : Cell) (formula : Formula) → slice_get slots j ≡ Some slot → slice_get net.cells slot.cell ≡ Some cell → slice_get formulas j ≡ Some formula → IsFormula net places slot cell formula
    is_formula j slot cell formula there at own =
        let row = row_at slot.cell cell at in
        let tells = told.each slot.cell cell row.0 at row.1 in
        let has = made.each j slot row.0 formula there row.1 own in
        record { kind = has.0 ∙ tells.kind; places = has.1 ∙ tells.places; base = has.2 ∙ tells.base; on_pin = has.3; on_net = has.4 }

    formula_within : (j : ℕ) (formula : Formula) → slice_get formulas j ≡ Some formula → (formula.net + 2 < length values) × HasPinsWithin places formula
    formula_within j formula own =
        let slot = there_is slots j (omega (arith, slice_get_within formulas j formula own, made.size)) in
        let sound = slot_each.sound j slot.0 slot.1 in
        let cell = sound.0 in
        let row = row_at slot.0.cell cell sound.1.at in
        let has = made.each j slot.0 row.0 formula slot.1 row.1 own in
        let is = is_formula j slot.0 cell formula slot.1 sound.1.at own in
        let own_row = flat.formed.rows slot.0.cell cell sound.1.at in
        let count : length (slice_range places formula.first formula.last) ≡ length cell.ins = ap length is.places ∙ length-map cell.ins place_of in (
          omega (arith, is.on_net, flat.formed.outputs slot.0.cell cell slot.0.out slot.0.net sound.1, size),
          record {
            order = has.5;
            room = has.6;
            asked = subst (λ (out : ℕ). HasPins formula.kind (length (slice_range places formula.first formula.last)) out) (sym is.on_pin)
                (subst (λ (n : ℕ). HasPins formula.kind n slot.0.out) (sym count)
                (subst (λ (kind : CellKind). HasPins kind (length cell.ins) slot.0.out) (sym is.kind)
                (enough_pins cell.kind (length cell.ins) (length cell.outs) slot.0.out own_row.allowed own_row.input_count own_row.output_count (slice_get_within cell.outs slot.0.out _ sound.1.on))));
          },
        )

    pub keeps_new : KeepsPlan net inputs bases pins registers places formulas values stored
    keeps_new = record {
      rank = slice_index numbers;
      slots = slots;
      plan = record { flat = flat; ranked = ranked; slot_each = slot_each; size = made.size; formula_each = is_formula };
      base_each = base_each;
      register_each = register_each;
      input_each = input_each;
      within = registers_within pins registers stored register_each start.size;
      formulas_within = formula_within;
      inputs_within = λ i n at. (
          let own = filter_some _ (input_bits (parts_of net)) i n (sym (ap (λ xs. slice_get xs i) input_each) ∙ at) in
          let from = input_of (parts_of net) flat.formed n (own.0, own.1) in
          omega (arith, input_within (parts_of net) flat.formed n from.0 from.1 from.2 from.3, size));
      constants = constants;
    }
