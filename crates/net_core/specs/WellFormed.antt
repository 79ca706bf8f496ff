-- What every flat netlist keeps.
use Rattle.std.specs.Prelude.{◌≡◌, ℕ, ◌+◌, ◌-◌, ◌<◌, ◌≤◌, true, false, is_some, IsSome, List, [], ◌∷◌, ◌++◌, length, map, reverse, take, drop, filter_map, flat_map, sum_by, slice_get, if◌then◌else◌, nat_le, Option, Some, None, IfSome, MatchOption, MatchBool, ⊤, ◌⊎◌, ◌↔◌, decimal, codes}
use Rattle.std.specs.List.{range_with_len}
use Rattle.std.specs.Option.{option_map_or}
use Rattle.ila_base.specs.declared.refusal.LimitKind.{LimitKind}
use Rattle.ila_base.specs.declared.refusal.LimitKind.TheVariants.{Cells, Pins, Nets, AllNames}
pub use Rattle.net_graph.specs.Lists.{AllDiffer, Each}
use Rattle.ila_base.specs.declared.limits.TheConstants.{CELLS, PINS, NETS, ALL_NAME_BYTES, GREATEST_INDEX}
use Rattle.net_core.specs.declared.parts.NetId.{NetId}
use Rattle.net_core.specs.declared.parts.Cell.{Cell}
use Rattle.net_core.specs.declared.parts.Group.{Group}
use Rattle.net_core.specs.declared.parts.Port.{Port}
use Rattle.net_core.specs.CellTable.{IsPinCount, input_widths, output_widths, IsAllowed, is_storage, is_gate, is_clock_buffer}
use Rattle.net_core.specs.Netlist.{Parts, Netlist, parts_of, Drives, Reads, HasDriver, IsIn, IsDriven, IsClock, IsClockPort, input_bits, output_bits, all_nets, net_count, is_clock, is_driven}

-- Names

-- the indices of a range from its left to its right bound (IEEE 1364-2005, 3.3.1)
abbrev pub range_indices : ℕ → ℕ → List ℕ
range_indices left right =
    if nat_le right left then reverse (range_with_len right (left - right + 1)) else range_with_len left (right - left + 1)

-- `name[i]` (IEEE 1364-2005, 5.2.1)
abbrev pub indexed_name : List ℕ → ℕ → List ℕ
indexed_name name i = name ++ codes "[" ++ decimal i ++ codes "]"

-- the names of a group's bits, the leftmost first: a scalar's is the group's, and bit i of a vector has `[i]` behind it
abbrev pub bit_names : Group → List (List ℕ)
bit_names group =
    option_map_or (λ range. map (indexed_name group.name) (range_indices range.0 range.1)) group.range (group.name ∷ [])

-- the name of each net bit, in flat order
abbrev pub net_names : List Group → List (List ℕ)
net_names groups = flat_map bit_names groups

-- the flat identifiers: of each group, and then of each cell that has a name
abbrev pub identifiers : Parts → List (List ℕ)
identifiers parts = map (λ (group : Group). group.name) parts.groups ++ filter_map (λ (cell : Cell). cell.name) parts.cells

-- an identifier is one or more printable bytes other than the blank (IEEE 1364-2005, 3.7.1)
abbrev pub IsIdentifier : List ℕ → Type 0
IsIdentifier name = (0 < length name) × Each (λ byte. (33 ≤ byte) × (byte ≤ 126)) name

-- Groups and cells

-- a group has as many bits as its range, and its indices are within the limit
pub record HasRange (group : Group) : Type 0 where
  pub width : length group.bits ≡ length (bit_names group)
  pub indices : IfSome group.range (λ range. (range.0 ≤ GREATEST_INDEX) × (range.1 ≤ GREATEST_INDEX))

-- the bits of one output are all connected or all open
abbrev pub IsWhole : List (Option NetId) → Type 0
IsWhole outs = Each IsSome outs ⊎ Each (λ out. out ≡ None) outs

-- so for each of the outputs of these widths
abbrev pub AreWhole : List ℕ → List (Option NetId) → Type 0
AreWhole [] outs = ⊤
AreWhole (width ∷ widths) outs = IsWhole (take width outs) × AreWhole widths (drop width outs)

-- a cell has the pins and parameters of its kind; only a gate has no name, and its outputs are all connected
pub record HasRow (cell : Cell) : Type 0 where
  pub allowed : IsAllowed cell.kind
  pub input_count : IsPinCount (input_widths cell.kind) (length cell.ins)
  pub output_count : IsPinCount (output_widths cell.kind) (length cell.outs)
  pub connected : MatchBool (is_gate cell.kind) (Each IsSome cell.outs) (IfSome (output_widths cell.kind) (λ widths. AreWhole widths cell.outs))
  pub named : is_gate cell.kind ≡ false → IsSome cell.name
  pub clocked : is_some cell.clock ≡ is_storage cell.kind

-- The table of limits

-- one for each input pin, each output pin, open ones too, and a clock pin
abbrev pub pin_count : Cell → ℕ
pin_count cell = length cell.ins + length cell.outs + option_map_or (λ _. 1) cell.clock 0

-- the bytes of a name
abbrev pub group_bytes : Group → ℕ
group_bytes group = length group.name

abbrev pub cell_bytes : Cell → ℕ
cell_bytes cell = option_map_or length cell.name 0

-- how many the parts have of a kind: cells, their pins, net bits, or bytes of all flat identifiers
abbrev pub amount : LimitKind → Parts → ℕ
amount Cells parts = length parts.cells
amount Pins parts = sum_by pin_count parts.cells
amount Nets parts = net_count parts.groups
amount AllNames parts = sum_by length (identifiers parts)
amount _ parts = 0

-- and how many they may have
abbrev pub greatest : LimitKind → ℕ
greatest Cells = CELLS
greatest Pins = PINS
greatest Nets = NETS
greatest AllNames = ALL_NAME_BYTES
greatest _ = 0

pub record IsWithinLimits (parts : Parts) : Type 0 where
  pub cells : amount Cells parts ≤ greatest Cells
  pub nets : amount Nets parts ≤ greatest Nets
  pub pins : amount Pins parts ≤ greatest Pins
  pub names : amount AllNames parts ≤ greatest AllNames

-- Sources, reads and the clock

-- a net bit has at most one source
pub record HasOneSource (parts : Parts) : Type 0 where
  pub one_driver : (c d : ℕ) (a b : Cell) (k l n : ℕ) → Drives parts.cells c a k n → Drives parts.cells d b l n → (c ≡ d) × (k ≡ l)
  pub no_driven_input : (n : ℕ) → IsIn (input_bits parts) n → ¬ HasDriver parts.cells n

-- a bit that a cell or a top output reads is driven
pub record ReadsDriven (parts : Parts) : Type 0 where
  pub pins : (c : ℕ) (cell : Cell) (i n : ℕ) → Reads parts.cells c cell i n → IsDriven parts n
  pub outputs : (n : ℕ) → IsIn (output_bits parts) n → IsDriven parts n

-- There is one clock: the clock pins are on nets of the clock set, which else only clock buffers read, and no top output. The
-- netlist's clock is that of its first cell with a clock pin, or the clock port's bit where there is none.
pub record HasOneClock (parts : Parts) : Type 0 where
  pub port : (n : ℕ) × IsClockPort parts n
  pub pins : (c : ℕ) (cell : Cell) (net : NetId) → slice_get parts.cells c ≡ Some cell → cell.clock ≡ Some net → IsClock parts net.0
  pub readers : (c : ℕ) (cell : Cell) (i n : ℕ) → Reads parts.cells c cell i n → IsClock parts n → is_clock_buffer cell.kind ≡ true
  pub outputs : (n : ℕ) → IsIn (output_bits parts) n → ¬ IsClock parts n
  pub first : MatchOption (slice_get (filter_map (λ (cell : Cell). cell.clock) parts.cells) 0) (IsClockPort parts parts.clock.0) (λ net. net ≡ parts.clock)

pub record IsWellFormed (parts : Parts) : Type 0 where
  -- net numbers rise through the groups from 0, and the ports' groups come first, in port order
  pub numbering : all_nets parts.groups ≡ range_with_len 0 (net_count parts.groups)
  pub port_order : map (λ (port : Port). port.group) parts.ports ≡ range_with_len 0 (length parts.ports)
  pub port_groups : length parts.ports ≤ length parts.groups
  pub ranges : Each HasRange parts.groups
  pub rows : Each HasRow parts.cells
  pub outputs : (c : ℕ) (cell : Cell) (k n : ℕ) → Drives parts.cells c cell k n → n < net_count parts.groups
  pub sources : HasOneSource parts
  pub reads : ReadsDriven parts
  pub clocking : HasOneClock parts
  pub identifiers_differ : AllDiffer (identifiers parts)
  pub names_differ : AllDiffer (net_names parts.groups)
  pub spelling : Each IsIdentifier (identifiers parts)
  pub limits : IsWithinLimits parts

-- the tables tell the clock set and the driven bits
pub record HasTables (net : Netlist) : Type 0 where
  pub clocked_size : length net.clocked ≡ net_count net.groups
  pub driven_size : length net.driven ≡ net_count net.groups
  pub clocked : (n : ℕ) → (is_clock net n ≡ true) ↔ IsClock (parts_of net) n
  pub driven : (n : ℕ) → (is_driven net n ≡ true) ↔ IsDriven (parts_of net) n

pub record IsFlat (net : Netlist) : Type 0 where
  pub formed : IsWellFormed (parts_of net)
  pub tables : HasTables net
