-- A flat netlist as clauses see it: its groups of nets, cells, ports and clock, which net a pin drives or reads, and which
-- nets are driven, carry the clock, or carry data.
use Rattle.std.specs.Prelude.{◌≡◌, ℕ, Bool, true, false, not, List, [], ◌∷◌, map, filter, flat_map, sum_by, length, slice_get, slice_index_or, Some, ◌⊎◌}
use Rattle.std.specs.Option.{option_map_or}
pub use Rattle.net_graph.specs.Lists.{IsIn}
use Rattle.net_core.specs.declared.parts.NetId.{NetId}
use Rattle.net_core.specs.declared.parts.Pin.TheVariants as pins
use Rattle.net_core.specs.declared.parts.Cell.{Cell}
use Rattle.net_core.specs.declared.parts.Group.{Group}
use Rattle.net_core.specs.declared.parts.Port.{Port}
use Rattle.net_core.specs.CellTable.{is_clock_buffer}

-- what a netlist is put together from
pub record Parts : Type 0 where
  pub groups : List Group
  pub cells : List Cell
  pub ports : List Port
  pub clock : NetId

-- a netlist: its parts, and for each net bit whether it carries the clock and whether it is driven
pub record Netlist : Type 0 where
  pub groups : List Group
  pub cells : List Cell
  pub ports : List Port
  pub clock : NetId
  pub clocked : List Bool
  pub driven : List Bool

abbrev pub parts_of : Netlist → Parts
parts_of net = record { groups = net.groups; cells = net.cells; ports = net.ports; clock = net.clock }

-- the numbers of nets
abbrev pub numbers : List NetId → List ℕ
numbers nets = map (λ (net : NetId). net.0) nets

abbrev pub group_nets : Group → List ℕ
group_nets group = numbers group.bits

-- all net bits in flat order
abbrev pub all_nets : List Group → List ℕ
all_nets groups = flat_map group_nets groups

abbrev pub net_count : List Group → ℕ
net_count groups = sum_by (λ (group : Group). length group.bits) groups

-- output pin k of cell c, which is `cell`, is on net n
pub record Drives (cells : List Cell) (c : ℕ) (cell : Cell) (k n : ℕ) : Type 0 where
  pub at : slice_get cells c ≡ Some cell
  pub on : slice_get cell.outs k ≡ Some (Some (record { 0 = n }))

-- input pin i of cell c, which is `cell`, is on net n
pub record Reads (cells : List Cell) (c : ℕ) (cell : Cell) (i n : ℕ) : Type 0 where
  pub at : slice_get cells c ≡ Some cell
  pub from : slice_get cell.ins i ≡ Some (pins.Net (record { 0 = n }))

abbrev pub HasDriver : List Cell → ℕ → Type 0
HasDriver cells n = (c : ℕ) × (cell : Cell) × (k : ℕ) × Drives cells c cell k n

-- the bits of a port, the leftmost first
abbrev pub port_nets : List Group → Port → List ℕ
port_nets groups port = option_map_or group_nets (slice_get groups port.group) []

-- the bits of the top's inputs, and of its outputs, in port order
abbrev pub input_bits : Parts → List ℕ
input_bits parts = flat_map (port_nets parts.groups) (filter (λ (port : Port). not port.output) parts.ports)

abbrev pub output_bits : Parts → List ℕ
output_bits parts = flat_map (port_nets parts.groups) (filter (λ (port : Port). port.output) parts.ports)

-- A net bit is driven that is a bit of a top's input or on an output pin (IEEE 1364-2005, 4.2: a net's value is that of its drivers).
abbrev pub IsDriven : Parts → ℕ → Type 0
IsDriven parts n = IsIn (input_bits parts) n ⊎ HasDriver parts.cells n

-- what comes from the net `from` through IBUF, BUFG and buf alone
pub data IsBuffered (cells : List Cell) (from : ℕ) : ℕ → Type 0 where
  itself : IsBuffered cells from from
  through : {m n : ℕ} (c : ℕ) (cell : Cell) (k : ℕ) → is_clock_buffer cell.kind ≡ true → Reads cells c cell 0 m
      → Drives cells c cell k n → IsBuffered cells from m → IsBuffered cells from n

-- n is the one bit of the clock port: the input from which the netlist's clock comes
pub record IsClockPort (parts : Parts) (n : ℕ) : Type 0 where
  pub port : Port
  pub place : ℕ
  pub at : slice_get parts.ports place ≡ Some port
  pub input : port.output ≡ false
  pub bit : port_nets parts.groups port ≡ n ∷ []
  pub leads : IsBuffered parts.cells n parts.clock.0

-- The clock set is the least set that has the clock port's bit and what IBUF, BUFG and buf make of its nets.
abbrev pub IsClock : Parts → ℕ → Type 0
IsClock parts n = (bit : ℕ) × IsClockPort parts bit × IsBuffered parts.cells bit n

-- the same by the netlist's tables
abbrev pub is_clock : Netlist → ℕ → Bool
is_clock net n = slice_index_or net.clocked n false

abbrev pub is_driven : Netlist → ℕ → Bool
is_driven net n = slice_index_or net.driven n false

-- A data net is a driven net bit outside the clock set.
pub record IsData (net : Netlist) (n : ℕ) : Type 0 where
  pub driven : is_driven net n ≡ true
  pub no_clock : is_clock net n ≡ false

-- the data bits of the top's inputs, in port order, each port's leftmost bit first
abbrev pub input_nets : Netlist → List ℕ
input_nets net = filter (λ n. not (is_clock net n)) (input_bits (parts_of net))
