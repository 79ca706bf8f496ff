-- Why a netlist can't be settled, and what it is when settled.
use Rattle.std.specs.Prelude.{◌≡◌, ◌↔◌, ℕ, ◌<◌, Bool, true, false, List, ◌∷◌, ◌++◌, map, filter_map, flat_map, slice_get, Option, Some, MatchOption, ⊤, ◌⊎◌, codes}
use Rattle.std.specs.Option.{option_map}
use Rattle.net_core.specs.declared.parts.NetId.{NetId}
use Rattle.net_core.specs.declared.parts.Pin.{Pin}
use Rattle.net_core.specs.declared.parts.Pin.TheVariants as pins
use Rattle.net_core.specs.declared.parts.Cell.{Cell}
use Rattle.net_core.specs.declared.parts.Group.{Group}
use Rattle.net_core.specs.CellTable.{is_clock_buffer}
use Rattle.net_core.specs.Netlist.{Parts, Drives, Reads, HasDriver, IsClock, input_bits, output_bits}
use Rattle.net_graph.specs.Lists.{IsIn}
use Rattle.net_core.specs.Netlist as flat
use Rattle.net_core.specs.WellFormed.{bit_names, net_names}
use Rattle.flat_settle.specs.declared.raw.RawCell.{RawCell}
use Rattle.flat_settle.specs.declared.raw.Raw.{Raw}
use Rattle.flat_settle.specs.declared.raw.Unsettled.{Unsettled}
use Rattle.flat_settle.specs.declared.raw.Unsettled.TheVariants as faults
use Rattle.flat_settle.specs.Raw.{with_cells}
use Rattle.flat_settle.specs.Driven.{IsDriven, IsClocked, Leaves}

-- Names

-- what has a name: a group or a cell by its identifier, or a net bit
pub data Named : Type 0 where
  Identifier : List ℕ → Named
  BitName : List ℕ → Named

abbrev pub word : Named → List ℕ
word (Identifier name) = name
word (BitName name) = name

-- a group's identifier and then the names of its bits
abbrev pub group_names : Group → List Named
group_names group = Identifier group.name ∷ map BitName (bit_names group)

-- flat order: through the groups, and after them through the cells that have a name
abbrev pub cell_names : List RawCell → List Named
cell_names cells = filter_map (λ (cell : RawCell). option_map Identifier cell.name) cells

abbrev pub flat_order : Raw → List Named
flat_order raw = flat_map group_names raw.groups ++ cell_names raw.cells

-- an earlier one equals the one at this place
abbrev pub IsRepeat : List Named → ℕ → Named → Type 0
IsRepeat names k one = (slice_get names k ≡ Some one) × (j : ℕ) × (j < k) × (slice_get names j ≡ Some one)

-- the first that an earlier one equals
pub record IsFirstRepeat (names : List Named) (name : List ℕ) : Type 0 where
  pub place : ℕ
  pub one : Named
  pub repeats : IsRepeat names place one
  pub called : word one ≡ name
  pub first : (k : ℕ) (other : Named) → k < place → ¬ IsRepeat names k other

abbrev pub HasRepeat : List Named → Type 0
HasRepeat names = (k : ℕ) × (one : Named) × IsRepeat names k one

-- Net bits

-- the name of the first net bit in flat order for which P holds
pub record IsFirst (groups : List Group) (P : ℕ → Type 0) (name : List ℕ) : Type 0 where
  pub number : ℕ
  pub holds : P number
  pub first : (n : ℕ) → n < number → ¬ P n
  pub called : slice_get (net_names groups) number ≡ Some name

-- two sources of a net bit: a top's input bit and an output pin, or two output pins
pub data HasTwoSources (parts : Parts) (n : ℕ) : Type 0 where
  input_and_pin : IsIn (input_bits parts) n → HasDriver parts.cells n → HasTwoSources parts n
  two_pins : (c d : ℕ) (a b : Cell) (k l : ℕ) → Drives parts.cells c a k n → Drives parts.cells d b l n → ¬ ((c ≡ d) × (k ≡ l)) → HasTwoSources parts n

-- a clock pin is on the net bit
abbrev pub IsOnClockPin : List Cell → ℕ → Type 0
IsOnClockPin cells n = (c : ℕ) × (cell : Cell) × (slice_get cells c ≡ Some cell) × (cell.clock ≡ Some (record { 0 = n }))

-- the net bit is read: by an input pin, a clock pin or a top's output
pub data IsRead (parts : Parts) (n : ℕ) : Type 0 where
  by_pin : (c : ℕ) (cell : Cell) (i : ℕ) → Reads parts.cells c cell i n → IsRead parts n
  by_clock_pin : IsOnClockPin parts.cells n → IsRead parts n
  by_output : IsIn (output_bits parts) n → IsRead parts n

-- the net bit is read as data: by an input pin of a cell other than IBUF, BUFG, buf and links, or by a top's output
pub data IsReadAsData (parts : Parts) (n : ℕ) : Type 0 where
  by_data_pin : (c : ℕ) (cell : Cell) (i : ℕ) → Reads parts.cells c cell i n → is_clock_buffer cell.kind ≡ false → IsReadAsData parts n
  by_data_output : IsIn (output_bits parts) n → IsReadAsData parts n

abbrev pub is_constant : Option Pin → Bool
is_constant (Some pins.Zero) = true
is_constant (Some pins.One) = true
is_constant _ = false

-- a clock pin has a constant
abbrev pub HasConstantClock : List RawCell → Type 0
HasConstantClock cells = (c : ℕ) × (cell : RawCell) × (slice_get cells c ≡ Some cell) × (is_constant cell.clock ≡ true)

-- The sentences of the refusals, each for the netlist without the dropped links

abbrev pub IsUndriven : Raw → List Cell → ℕ → Type 0
IsUndriven raw cells n = IsRead (with_cells raw cells) n × ¬ IsDriven raw n

abbrev pub IsOtherClock : Raw → List Cell → ℕ → Type 0
IsOtherClock raw cells n = IsOnClockPin cells n × ¬ IsClocked raw n

abbrev pub IsClockData : Raw → List Cell → ℕ → Type 0
IsClockData raw cells n = IsClocked raw n × IsReadAsData (with_cells raw cells) n

-- no net bit has these
abbrev pub Never : (ℕ → Type 0) → Type 0
Never P = (n : ℕ) → ¬ P n

-- where only constants break the rule of one clock the name is `C`
abbrev pub IsSecondClock : Raw → List Cell → List ℕ → Type 0
IsSecondClock raw cells name = IsFirst raw.groups (IsOtherClock raw cells) name ⊎ (Never (IsOtherClock raw cells) × HasConstantClock raw.cells × (name ≡ codes "C"))

-- each refusal comes exactly where its sentence holds and none of the earlier ones does
abbrev pub IsFaultIn : Raw → List Cell → Unsettled → Type 0
IsFaultIn raw cells (faults.Duplicate name) = IsFirstRepeat (flat_order raw) name
IsFaultIn raw cells (faults.ManyDrivers name) = ¬ HasRepeat (flat_order raw) × IsFirst raw.groups (HasTwoSources (with_cells raw cells)) name
IsFaultIn raw cells (faults.Undriven name) = ¬ HasRepeat (flat_order raw) × Never (HasTwoSources (with_cells raw cells)) × IsFirst raw.groups (IsUndriven raw cells) name
IsFaultIn raw cells (faults.SecondClock name) =
    ¬ HasRepeat (flat_order raw) × Never (HasTwoSources (with_cells raw cells)) × Never (IsUndriven raw cells) × IsSecondClock raw cells name
IsFaultIn raw cells (faults.ClockAsData name) =
    ¬ HasRepeat (flat_order raw) × Never (HasTwoSources (with_cells raw cells)) × Never (IsUndriven raw cells) × Never (IsOtherClock raw cells) × ¬ HasConstantClock raw.cells
    × IsFirst raw.groups (IsClockData raw cells) name
IsFaultIn raw cells faults.NoMemory = ⊤

abbrev pub IsFaultOf : Raw → Unsettled → Type 0
IsFaultOf raw faults.NoMemory = ⊤
IsFaultOf raw (faults.Duplicate name) = IsFirstRepeat (flat_order raw) name
IsFaultOf raw fault = (cells : List Cell) × Leaves raw raw.cells cells × IsFaultIn raw cells fault

-- none of the sentences holds
pub record HasNoFault (raw : Raw) (cells : List Cell) : Type 0 where
  pub names : ¬ HasRepeat (flat_order raw)
  pub drivers : Never (HasTwoSources (with_cells raw cells))
  pub reads : Never (IsUndriven raw cells)
  pub clocks : Never (IsOtherClock raw cells)
  pub constants : ¬ HasConstantClock raw.cells
  pub data_reads : Never (IsClockData raw cells)

-- the clock of the first cell that has one, or the clock port's bit
abbrev pub IsFirstClock : Raw → List Cell → NetId → Type 0
IsFirstClock raw cells clock = MatchOption (slice_get (filter_map (λ (cell : Cell). cell.clock) cells) 0) (clock ≡ raw.clock) (λ net. clock ≡ net)

-- the netlist without the dropped links, in which no sentence holds; it has the same driven bits and the same clock set
pub record Settles (raw : Raw) (parts : Parts) : Type 0 where
  pub groups : parts.groups ≡ raw.groups
  pub ports : parts.ports ≡ raw.ports
  pub cells : Leaves raw raw.cells parts.cells
  pub clock : IsFirstClock raw parts.cells parts.clock
  pub sound : HasNoFault raw parts.cells
  pub driven : (n : ℕ) → flat.IsDriven parts n ↔ IsDriven raw n
  pub clocked : (n : ℕ) → IsClock parts n ↔ IsClocked raw n
