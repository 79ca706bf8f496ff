-- The cell table by the names of cells, pins and parameters: the primitives of the Xilinx 7 series (UG953), and the memory of a
-- core. Pins stand as inputs, clock and outputs.
use Rattle.std.specs.Prelude.{ℕ, ◌^◌, Bool, true, false, ◌&&◌, ◌||◌, nat_lt, nat_le, if◌then◌else◌, List, [], ◌∷◌, ◌++◌, filter_map, codes, Option, Some, None}
use Rattle.std.specs.List.{list_any}
use Rattle.std.specs.Option.{option_map_or}
use Rattle.std.specs.Str.{bytes_eq}
use Rattle.vlog_parse.specs.declared.tree.Dir.{Dir}
use Rattle.vlog_parse.specs.declared.tree.Dir.TheVariants.{Input, Output}
use Rattle.vlog_parse.specs.declared.tree.Value.{Value}
use Rattle.vlog_parse.specs.declared.tree.Value.TheVariants.{Whole, Sized, Text}
use Rattle.vlog_check.specs.declared.primitive.Primitive.{Primitive}
use Rattle.vlog_check.specs.declared.primitive.Primitive.TheVariants.{Lut1, Lut2, Lut3, Lut4, Lut5, Lut6, Inv, Ibuf, Obuf, Bufg, Gnd, Vcc, Muxf7, Muxf8, Carry4, Fdre, Fdse, Fdce, Fdpe, Mem}
use Rattle.vlog_check.specs.declared.primitive.CellPin.{CellPin}
use Rattle.vlog_check.specs.declared.primitive.Size.{Size}
use Rattle.vlog_check.specs.declared.primitive.Size.TheVariants.{One, Four, Address, Data}

-- the cells by name
abbrev pub cells : List (List ℕ × Primitive)
cells =
    (codes "LUT1", Lut1) ∷ (codes "LUT2", Lut2) ∷ (codes "LUT3", Lut3) ∷ (codes "LUT4", Lut4) ∷ (codes "LUT5", Lut5) ∷ (codes "LUT6", Lut6)
    ∷ (codes "INV", Inv) ∷ (codes "IBUF", Ibuf) ∷ (codes "OBUF", Obuf) ∷ (codes "BUFG", Bufg) ∷ (codes "GND", Gnd) ∷ (codes "VCC", Vcc)
    ∷ (codes "MUXF7", Muxf7) ∷ (codes "MUXF8", Muxf8) ∷ (codes "CARRY4", Carry4)
    ∷ (codes "FDRE", Fdre) ∷ (codes "FDSE", Fdse) ∷ (codes "FDCE", Fdce) ∷ (codes "FDPE", Fdpe) ∷ (codes "ILAMEM", Mem) ∷ []

-- a pin of a cell: its name, its direction, and how many bits it has
pub record PinRow : Type 0 where
  pub name : List ℕ
  pub way : Dir
  pub size : Size

abbrev pub pin_row : CellPin → PinRow
pin_row pin = record { name = pin.name.now; way = pin.way; size = pin.size }

abbrev pub input : List ℕ → PinRow
input name = record { name = name; way = Input; size = One }

abbrev pub output : List ℕ → PinRow
output name = record { name = name; way = Output; size = One }

abbrev pub wide : List ℕ → Dir → Size → PinRow
wide name way size = record { name = name; way = way; size = size }

-- the pins of a cell
abbrev pub pins : Primitive → List PinRow
pins Lut1 = input (codes "I0") ∷ output (codes "O") ∷ []
pins Lut2 = input (codes "I0") ∷ input (codes "I1") ∷ output (codes "O") ∷ []
pins Lut3 = input (codes "I0") ∷ input (codes "I1") ∷ input (codes "I2") ∷ output (codes "O") ∷ []
pins Lut4 = input (codes "I0") ∷ input (codes "I1") ∷ input (codes "I2") ∷ input (codes "I3") ∷ output (codes "O") ∷ []
pins Lut5 = input (codes "I0") ∷ input (codes "I1") ∷ input (codes "I2") ∷ input (codes "I3") ∷ input (codes "I4") ∷ output (codes "O") ∷ []
pins Lut6 = input (codes "I0") ∷ input (codes "I1") ∷ input (codes "I2") ∷ input (codes "I3") ∷ input (codes "I4") ∷ input (codes "I5") ∷ output (codes "O") ∷ []
pins Inv = input (codes "I") ∷ output (codes "O") ∷ []
pins Ibuf = input (codes "I") ∷ output (codes "O") ∷ []
pins Obuf = input (codes "I") ∷ output (codes "O") ∷ []
pins Bufg = input (codes "I") ∷ output (codes "O") ∷ []
pins Gnd = output (codes "G") ∷ []
pins Vcc = output (codes "P") ∷ []
pins Muxf7 = input (codes "I0") ∷ input (codes "I1") ∷ input (codes "S") ∷ output (codes "O") ∷ []
pins Muxf8 = input (codes "I0") ∷ input (codes "I1") ∷ input (codes "S") ∷ output (codes "O") ∷ []
pins Carry4 = input (codes "CI") ∷ input (codes "CYINIT") ∷ wide (codes "DI") Input Four ∷ wide (codes "S") Input Four ∷ wide (codes "CO") Output Four ∷ wide (codes "O") Output Four ∷ []
pins Fdre = input (codes "CE") ∷ input (codes "D") ∷ input (codes "R") ∷ input (codes "C") ∷ output (codes "Q") ∷ []
pins Fdse = input (codes "CE") ∷ input (codes "D") ∷ input (codes "S") ∷ input (codes "C") ∷ output (codes "Q") ∷ []
pins Fdce = input (codes "CE") ∷ input (codes "CLR") ∷ input (codes "D") ∷ input (codes "C") ∷ output (codes "Q") ∷ []
pins Fdpe = input (codes "CE") ∷ input (codes "D") ∷ input (codes "PRE") ∷ input (codes "C") ∷ output (codes "Q") ∷ []
pins Mem = input (codes "WE") ∷ wide (codes "A") Input Address ∷ wide (codes "D") Input Data ∷ input (codes "C") ∷ []

-- INIT is below this; a cell without it has no INIT
abbrev pub init_limit : Primitive → Option ℕ
init_limit Lut1 = Some (2 ^ 2)
init_limit Lut2 = Some (2 ^ 4)
init_limit Lut3 = Some (2 ^ 8)
init_limit Lut4 = Some (2 ^ 16)
init_limit Lut5 = Some (2 ^ 32)
init_limit Lut6 = Some (2 ^ 64)
init_limit Fdre = Some 2
init_limit Fdse = Some 2
init_limit Fdce = Some 2
init_limit Fdpe = Some 2
init_limit _ = None

-- a cell that accepts every parameter, with no effect
abbrev pub accepts_all : Primitive → Bool
accepts_all Ibuf = true
accepts_all Obuf = true
accepts_all Bufg = true
accepts_all _ = false

abbrev pub is_memory : Primitive → Bool
is_memory Mem = true
is_memory _ = false

-- the number of a value, where it is one
abbrev pub number_in : Value → Option ℕ
number_in (Whole n) = Some n
number_in (Sized word) = Some word.value
number_in Text = None

abbrev pub is_below : ℕ → Value → Bool
is_below limit value = option_map_or (λ n. nat_lt n limit) (number_in value) false

-- the number of a value, where it is one from 1 to the limit
abbrev pub amount_in : ℕ → Value → Option ℕ
amount_in limit value = option_map_or (λ n. if nat_lt 0 n && nat_le n limit then Some n else None) (number_in value) None

-- how large the parameters of a memory may be
abbrev pub address_limit : ℕ
address_limit = 17

abbrev pub data_limit : ℕ
data_limit = 1024

-- `IS_x_INVERTED`
abbrev pub inverted_name : List ℕ → List ℕ
inverted_name pin = codes "IS_" ++ pin ++ codes "_INVERTED"

abbrev pub is_inverter : List PinRow → List ℕ → Bool
is_inverter rows name = list_any (λ (row : PinRow). bytes_eq name (inverted_name row.name)) rows

abbrev pub is_init : Option ℕ → List ℕ → Value → Bool
is_init limit name value = option_map_or (λ n. bytes_eq name (codes "INIT") && is_below n value) limit false

abbrev pub is_amount : List ℕ → ℕ → List ℕ → Value → Bool
is_amount own limit name value = bytes_eq name own && option_map_or (λ n. true) (amount_in limit value) false

-- AW or DW of a memory, within its bounds
abbrev pub is_size : List ℕ → Value → Bool
is_size name value = is_amount (codes "AW") address_limit name value || is_amount (codes "DW") data_limit name value

-- whether a cell accepts a parameter with a value: INIT within its bound, of a memory AW and DW within theirs, for a pin x of the
-- cell `IS_x_INVERTED` with 0 alone, and of the buffers everything
abbrev pub accepts : Primitive → List ℕ → Value → Bool
accepts cell name value =
    accepts_all cell
    || is_init (init_limit cell) name value
    || (is_memory cell && is_size name value)
    || (is_inverter (pins cell) name && is_below 1 value)

-- the values that parameters of a name have
abbrev pub values_of : List ℕ → List (List ℕ × Value) → List Value
values_of name params = filter_map (λ (p : List ℕ × Value). if bytes_eq name p.0 then Some p.1 else None) params

-- what the one value is, where there is one, and only one, and it is from 1 to the limit
abbrev pub only_amount : ℕ → List Value → Option ℕ
only_amount limit [] = None
only_amount limit (value ∷ []) = amount_in limit value
only_amount limit (value ∷ other ∷ more) = None

-- how many bits a pin has with these parameters. It has no width where AW or DW has a finding.
abbrev pub bits_of : List (List ℕ × Value) → Size → Option ℕ
bits_of params One = Some 1
bits_of params Four = Some 4
bits_of params Address = only_amount address_limit (values_of (codes "AW") params)
bits_of params Data = only_amount data_limit (values_of (codes "DW") params)
