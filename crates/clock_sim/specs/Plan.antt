-- The plan of a netlist, and what settling and advancing by it do.
use Rattle.std.specs.Prelude.{◌≡◌, ◌≢◌, ℕ, ◌+◌, ◌-◌, ◌^◌, ◌<◌, ◌≤◌, Bool, true, false, List, [], ◌∷◌, ◌++◌, if◌then◌else◌, slice_index, Option, None, length, take, sum_by, slice_get, slice_range, Some, ◌⊎◌}
use Rattle.net_core.specs.declared.kind.CellKind.{CellKind}
use Rattle.net_core.specs.declared.parts.NetId.{NetId}
use Rattle.net_core.specs.declared.parts.Cell.{Cell}
use Rattle.net_core.specs.CellTable.{output, pin, content_size, next_content, initial}
use Rattle.net_core.specs.Netlist.{Netlist, Drives, IsData, is_clock, input_nets}
use Rattle.net_core.specs.WellFormed.{IsFlat}
use Rattle.net_core.specs.Run.{input_pins}
use Rattle.net_core.specs.Cycle.{IsRanked}
use Rattle.clock_sim.specs.declared.plan.Row.{Row}
use Rattle.clock_sim.specs.declared.plan.Slot.{Slot}
use Rattle.clock_sim.specs.declared.plan.Formula.{Formula}
use Rattle.clock_sim.specs.Reading.{bit_at_place, read_all, net_bit, places_of, HasPins, HasMemoryPins}

-- the number of a cell's first stored bit: all cells' stored bits stand one after the other
abbrev pub base_of : List Cell → ℕ → ℕ
base_of cells c = sum_by (λ (cell : Cell). content_size cell.kind) (take c cells)

-- the stored bits of each cell
abbrev pub stored_bit : List Cell → List Bool → ℕ → ℕ → Bool
stored_bit cells stored c i = bit_at_place stored (base_of cells c + i)

-- the row of a cell whose pins are put into a list behind so many others
abbrev pub row_of : Cell → ℕ → ℕ → Row
row_of cell first base = record { kind = cell.kind; first = first; last = first + length cell.ins; base = base }

-- a row tells the cell with this number
pub record IsRow (cells : List Cell) (pins : List ℕ) (c : ℕ) (cell : Cell) (row : Row) : Type 0 where
  pub kind : row.kind ≡ cell.kind
  pub places : slice_range pins row.first row.last ≡ places_of cell.ins
  pub base : row.base ≡ base_of cells c
  pub order : row.first ≤ row.last
  pub room : row.last ≤ length pins

-- each row's stored bits end before those of a later row
abbrev pub AreApart : List Row → Type 0
AreApart rows = (i j : ℕ) (a b : Row) → slice_get rows i ≡ Some a → slice_get rows j ≡ Some b → i < j → a.base + content_size a.kind ≤ b.base

-- the plan of advancing: the registers are rows of cells, one for each cell that stores bits
pub record AreRegisters (cells : List Cell) (pins : List ℕ) (registers : List Row) : Type 0 where
  pub sound : (j : ℕ) (row : Row) → slice_get registers j ≡ Some row → (c : ℕ) × (cell : Cell) × (slice_get cells c ≡ Some cell) × IsRow cells pins c cell row
  pub complete : (c : ℕ) (cell : Cell) → slice_get cells c ≡ Some cell → 0 < content_size cell.kind
      → (j : ℕ) × (row : Row) × (slice_get registers j ≡ Some row) × IsRow cells pins c cell row
  pub apart : AreApart registers

-- the numbers of the cells' first stored bits
abbrev pub AreBases : List Cell → List ℕ → Type 0
AreBases cells bases = (c : ℕ) (cell : Cell) → slice_get cells c ≡ Some cell → slice_get bases c ≡ Some (base_of cells c)

-- the slots are the data outputs, each once, in the order of levels
pub record AreSlots (net : Netlist) (rank : ℕ → ℕ) (slots : List Slot) : Type 0 where
  pub sound : (j : ℕ) (slot : Slot) → slice_get slots j ≡ Some slot → (cell : Cell) × Drives net.cells slot.cell cell slot.out slot.net × IsData net slot.net
  pub complete : (c : ℕ) (cell : Cell) (k n : ℕ) → Drives net.cells c cell k n → IsData net n
      → (j : ℕ) × (slot : Slot) × (slice_get slots j ≡ Some slot) × (slot.cell ≡ c) × (slot.out ≡ k) × (slot.net ≡ n)
  pub apart : (j i : ℕ) (a b : Slot) → slice_get slots j ≡ Some a → slice_get slots i ≡ Some b → a.net ≡ b.net → j ≡ i
  pub ordered : (j i : ℕ) (a b : Slot) → slice_get slots j ≡ Some a → slice_get slots i ≡ Some b → j ≤ i → rank a.net ≤ rank b.net

-- a formula tells the output of a slot of this cell
pub record IsFormula (net : Netlist) (pins : List ℕ) (slot : Slot) (cell : Cell) (formula : Formula) : Type 0 where
  pub kind : formula.kind ≡ cell.kind
  pub places : slice_range pins formula.first formula.last ≡ places_of cell.ins
  pub base : formula.base ≡ base_of net.cells slot.cell
  pub on_pin : formula.out ≡ slot.out
  pub on_net : formula.net ≡ slot.net

abbrev pub AreFormulas : Netlist → List Slot → List ℕ → List Formula → Type 0
AreFormulas net slots pins formulas = (j : ℕ) (slot : Slot) (cell : Cell) (formula : Formula) → slice_get slots j ≡ Some slot → slice_get net.cells slot.cell ≡ Some cell → slice_get formulas j ≡ Some formula → IsFormula net pins slot cell formula

-- the plan of settling: a formula for each slot, in the order of the slots
pub record IsPlan (net : Netlist) (rank : ℕ → ℕ) (slots : List Slot) (pins : List ℕ) (formulas : List Formula) : Type 0 where
  pub flat : IsFlat net
  pub ranked : IsRanked net rank
  pub slot_each : AreSlots net rank slots
  pub size : length formulas ≡ length slots
  pub formula_each : AreFormulas net slots pins formulas

-- the numbers of registers stay within their lists
pub record IsWithin (pins : List ℕ) (registers : List Row) (stored : ℕ) : Type 0 where
  pub ranges : (j : ℕ) (row : Row) → slice_get registers j ≡ Some row → (row.first ≤ row.last) × (row.last ≤ length pins)
  pub bases : (j : ℕ) (row : Row) → slice_get registers j ≡ Some row → row.base + content_size row.kind ≤ stored
  pub memories : (j : ℕ) (row : Row) → slice_get registers j ≡ Some row → HasMemoryPins row.kind (length (slice_range pins row.first row.last))
  pub few : stored < 2 ^ 64

-- a formula's pins are a part of the list, and those that its evaluation asks
pub record HasPinsWithin (pins : List ℕ) (formula : Formula) : Type 0 where
  pub order : formula.first ≤ formula.last
  pub room : formula.last ≤ length pins
  pub asked : HasPins formula.kind (length (slice_range pins formula.first formula.last)) formula.out

abbrev pub AreWithin : List ℕ → List Formula → ℕ → Type 0
AreWithin pins formulas nets = (j : ℕ) (formula : Formula) → slice_get formulas j ≡ Some formula → (formula.net + 2 < nets) × HasPinsWithin pins formula

-- after the first slots: each of their nets has the bit of its output, and all nets that are on no output keep theirs
pub record IsSettledTo (net : Netlist) (slots : List Slot) (stored : List Bool) (i : ℕ) (old values : List Bool) : Type 0 where
  pub size : length values ≡ length old
  pub zero_place : bit_at_place values 0 ≡ false
  pub one_place : bit_at_place values 1 ≡ true
  pub done : (j : ℕ) (slot : Slot) (cell : Cell) → j < i → slice_get slots j ≡ Some slot → slice_get net.cells slot.cell ≡ Some cell
      → net_bit values slot.net ≡ output cell.kind (input_pins (net_bit values) cell) (stored_bit net.cells stored slot.cell) slot.out
  pub kept : (n : ℕ) → ((j : ℕ) (slot : Slot) → slice_get slots j ≡ Some slot → slot.net ≢ n) → net_bit values n ≡ net_bit old n

-- the constants stand in their places
pub record HasConstants (values : List Bool) : Type 0 where
  pub zero_place : bit_at_place values 0 ≡ false
  pub one_place : bit_at_place values 1 ≡ true

-- the first inputs have the bits of the row, and all places but those of inputs keep theirs
pub record IsPlaced (inputs : List ℕ) (row : List Bool) (i : ℕ) (old values : List Bool) : Type 0 where
  pub size : length values ≡ length old
  pub placed : ((j k n : ℕ) → slice_get inputs j ≡ Some n → slice_get inputs k ≡ Some n → j ≡ k)
      → (j n : ℕ) (bit : Bool) → j < i → slice_get inputs j ≡ Some n → slice_get row j ≡ Some bit → net_bit values n ≡ bit
  pub kept : (place : ℕ) → ((j n : ℕ) → slice_get inputs j ≡ Some n → n + 2 ≢ place) → bit_at_place values place ≡ bit_at_place old place

-- the stored bits of one cell are those of the next clock, and all others stay
pub record AdvancesRow (kind : CellKind) (base : ℕ) (ins : List Bool) (old new : List Bool) : Type 0 where
  pub size : length new ≡ length old
  pub inside : (i : ℕ) → i < content_size kind → bit_at_place new (base + i) ≡ next_content kind ins (λ j. bit_at_place old (base + j)) i
  pub outside : (k : ℕ) → (k < base) ⊎ (base + content_size kind ≤ k) → bit_at_place new k ≡ bit_at_place old k

-- the stored bits of the first registers are those of the next clock, and all bits that are of none of them stay
pub record IsAdvancedTo (values : List Bool) (pins : List ℕ) (registers : List Row) (i : ℕ) (old new : List Bool) : Type 0 where
  pub size : length new ≡ length old
  pub next : (j : ℕ) (row : Row) (k : ℕ) → j < i → slice_get registers j ≡ Some row → k < content_size row.kind
      → bit_at_place new (row.base + k) ≡ next_content row.kind (read_all values (slice_range pins row.first row.last)) (λ b. bit_at_place old (row.base + b)) k
  pub kept : (k : ℕ) → ((j : ℕ) (row : Row) → j < i → slice_get registers j ≡ Some row → (k < row.base) ⊎ (row.base + content_size row.kind ≤ k)) → bit_at_place new k ≡ bit_at_place old k

-- the bits of a row from its first on are those of the pins up to the last, which is the lowest
pub record WritesRow (start last count : ℕ) (ins : List Bool) (old new : List Bool) : Type 0 where
  pub size : length new ≡ length old
  pub written : (b : ℕ) → b < count → bit_at_place new (start + b) ≡ pin ins (last - b)
  pub outside : (k : ℕ) → (k < start) ⊎ (start + count ≤ k) → bit_at_place new k ≡ bit_at_place old k

-- what clauses see of a plain simulator: the netlist, the bits at the places, and the stored bits of all cells
pub record State : Type 0 where
  pub net : Netlist
  pub values : List Bool
  pub stored : List Bool

abbrev pub net_bits : State → ℕ → Bool
net_bits state = net_bit state.values

abbrev pub net_content : State → ℕ → ℕ → Bool
net_content state = stored_bit state.net.cells state.stored

-- what a plain simulator keeps: the first stored bits and the registers of its netlist, and a plan of it by numbers that rise along dependence
pub record KeepsPlan (net : Netlist) (inputs bases pins : List ℕ) (registers : List Row) (places : List ℕ) (formulas : List Formula) (values stored : List Bool) : Type 0 where
  pub rank : ℕ → ℕ
  pub slots : List Slot
  pub plan : IsPlan net rank slots places formulas
  pub base_each : AreBases net.cells bases
  pub register_each : AreRegisters net.cells pins registers
  pub input_each : inputs ≡ input_nets net
  pub within : IsWithin pins registers (length stored)
  pub formulas_within : AreWithin places formulas (length values)
  pub inputs_within : (i n : ℕ) → slice_get inputs i ≡ Some n → n + 2 < length values
  pub constants : HasConstants values

-- the rows of the first cells, with the places of their pins and the number of the stored bit behind their last
pub record AreRowsTo (cells : List Cell) (i : ℕ) (places : List ℕ) (rows : List Row) (next : ℕ) : Type 0 where
  pub size : length rows ≡ i
  pub place_count : length places ≡ sum_by (λ (cell : Cell). length cell.ins) (take i cells)
  pub next_base : next ≡ base_of cells i
  pub each : (c : ℕ) (cell : Cell) (row : Row) → slice_get cells c ≡ Some cell → slice_get rows c ≡ Some row → IsRow cells places c cell row

-- the formulas of the first slots: each has what the row of its slot's cell has, with the same pins in a list of their own
pub record AreFormulasTo (pins : List ℕ) (rows : List Row) (slots : List Slot) (i : ℕ) (places : List ℕ) (formulas : List Formula) : Type 0 where
  pub size : length formulas ≡ i
  pub each : (j : ℕ) (slot : Slot) (row : Row) (formula : Formula) → slice_get slots j ≡ Some slot → slice_get rows slot.cell ≡ Some row → slice_get formulas j ≡ Some formula
      → (formula.kind ≡ row.kind) × (slice_range places formula.first formula.last ≡ slice_range pins row.first row.last) × (formula.base ≡ row.base) × (formula.out ≡ slot.out) × (formula.net ≡ slot.net)
      × (formula.first ≤ formula.last) × (formula.last ≤ length places)

-- the slots of a cell's data outputs, from the output k on
abbrev pub cell_slots : Netlist → List ℕ → ℕ → ℕ → List (Option NetId) → List Slot
cell_slots net numbers c k [] = []
cell_slots net numbers c k (None ∷ outs) = cell_slots net numbers c (k + 1) outs
cell_slots net numbers c k (Some own ∷ outs) =
    if is_clock net own.0 then cell_slots net numbers c (k + 1) outs
    else record { level = slice_index numbers own.0; cell = c; out = k; net = own.0 } ∷ cell_slots net numbers c (k + 1) outs

-- the slots of all cells, from cell c on
abbrev pub all_slots : Netlist → List ℕ → ℕ → List Cell → List Slot
all_slots net numbers c [] = []
all_slots net numbers c (cell ∷ cells) = cell_slots net numbers c 0 cell.outs ++ all_slots net numbers (c + 1) cells

-- place for the stored bits of all cells: those of the first cells are those at clock 0, and the others 0
pub record IsStartTo (cells : List Cell) (i : ℕ) (stored : List Bool) : Type 0 where
  pub size : length stored ≡ base_of cells (length cells)
  pub bits : (c : ℕ) (cell : Cell) (k : ℕ) → c < i → slice_get cells c ≡ Some cell → k < content_size cell.kind → stored_bit cells stored c k ≡ initial cell.kind k
  pub later : (k : ℕ) → base_of cells i ≤ k → bit_at_place stored k ≡ false
