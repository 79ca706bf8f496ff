-- A netlist before it is settled: with all links, and with constants on clock pins.
use Rattle.std.specs.Prelude.{◌≡◌, ℕ, ◌+◌, ◌<◌, ◌≤◌, ◌++◌, true, false, is_some, IsSome, IfSome, List, [], ◌∷◌, length, map, filter_map, sum_by, slice_get, Option, Some, None, MatchBool}
use Rattle.std.specs.List.{range_with_len}
use Rattle.std.specs.Option.{option_map_or}
use Rattle.ila_base.specs.declared.refusal.LimitKind.TheVariants.{Cells, Pins, Nets, AllNames}
use Rattle.net_core.specs.declared.parts.NetId.{NetId}
use Rattle.net_core.specs.declared.parts.Pin.{Pin}
use Rattle.net_core.specs.declared.parts.Pin.TheVariants as pins
use Rattle.net_core.specs.declared.parts.Cell.{Cell}
use Rattle.net_core.specs.declared.parts.Group.{Group}
use Rattle.net_core.specs.declared.parts.Port.{Port}
use Rattle.net_core.specs.declared.kind.CellKind.TheVariants.{Gate}
use Rattle.net_core.specs.declared.kind.GateCode.TheVariants.{Buf}
use Rattle.net_core.specs.CellTable.{IsPinCount, input_widths, output_widths, IsAllowed, is_storage, is_gate}
use Rattle.net_core.specs.Netlist.{Parts, port_nets, all_nets, net_count}
use Rattle.net_core.specs.WellFormed.{HasRange, AreWhole, IsIdentifier, greatest}
use Rattle.net_graph.specs.Lists.{Each}
use Rattle.flat_settle.specs.declared.raw.RawCell.{RawCell}
use Rattle.flat_settle.specs.declared.raw.Raw.{Raw}

-- the net on a clock pin
abbrev pub clock_net : Option Pin → Option NetId
clock_net None = None
clock_net (Some (pins.Net net)) = Some net
clock_net (Some pins.Zero) = None
clock_net (Some pins.One) = None

-- the cell without its mark as a link
abbrev pub flat_cell : RawCell → Cell
flat_cell raw = record { kind = raw.kind; name = raw.name; ins = raw.ins; outs = raw.outs; clock = clock_net raw.clock }

-- the netlist with these cells, and with the clock port's bit as its clock
abbrev pub with_cells : Raw → List Cell → Parts
with_cells raw cells = record { groups = raw.groups; cells = cells; ports = raw.ports; clock = raw.clock }

-- output pin k of cell c, which is `cell`, is on net n
pub record RawDrives (cells : List RawCell) (c : ℕ) (cell : RawCell) (k n : ℕ) : Type 0 where
  pub at : slice_get cells c ≡ Some cell
  pub on : slice_get cell.outs k ≡ Some (Some (record { 0 = n }))

-- input pin i of cell c, which is `cell`, is on net n
pub record RawReads (cells : List RawCell) (c : ℕ) (cell : RawCell) (i n : ℕ) : Type 0 where
  pub at : slice_get cells c ≡ Some cell
  pub from : slice_get cell.ins i ≡ Some (pins.Net (record { 0 = n }))

-- the flat identifiers: of each group, and then of each cell that has a name
abbrev pub raw_identifiers : Raw → List (List ℕ)
raw_identifiers raw = map (λ (group : Group). group.name) raw.groups ++ filter_map (λ (cell : RawCell). cell.name) raw.cells

-- a link is one bit of an assign or of a port's connection: a buf without a name
pub record IsLink (cell : RawCell) : Type 0 where
  pub kind : cell.kind ≡ Gate Buf
  pub unnamed : cell.name ≡ None

-- a cell has the pins and parameters of its kind; only a gate has no name, and its outputs are all connected
pub record HasRawRow (cell : RawCell) : Type 0 where
  pub allowed : IsAllowed cell.kind
  pub input_count : IsPinCount (input_widths cell.kind) (length cell.ins)
  pub output_count : IsPinCount (output_widths cell.kind) (length cell.outs)
  pub connected : MatchBool (is_gate cell.kind) (Each IsSome cell.outs) (IfSome (output_widths cell.kind) (λ widths. AreWhole widths cell.outs))
  pub named : is_gate cell.kind ≡ false → IsSome cell.name
  pub clocked : is_some cell.clock ≡ is_storage cell.kind
  pub link : cell.link ≡ true → IsLink cell

-- one for each input pin, each output pin, open ones too, and a clock pin
abbrev pub raw_pin_count : RawCell → ℕ
raw_pin_count cell = length cell.ins + length cell.outs + option_map_or (λ _. 1) cell.clock 0

-- the net bits that pins name are among those of the groups
pub record NamesNets (raw : Raw) : Type 0 where
  pub outputs : (c : ℕ) (cell : RawCell) (k n : ℕ) → RawDrives raw.cells c cell k n → n < net_count raw.groups
  pub inputs : (c : ℕ) (cell : RawCell) (i n : ℕ) → RawReads raw.cells c cell i n → n < net_count raw.groups
  pub clocks : (c : ℕ) (cell : RawCell) (net : NetId) → slice_get raw.cells c ≡ Some cell → clock_net cell.clock ≡ Some net → net.0 < net_count raw.groups

-- no count is above the limit of a flat netlist
pub record HasRawLimits (raw : Raw) : Type 0 where
  pub cells : length raw.cells ≤ greatest Cells
  pub nets : net_count raw.groups ≤ greatest Nets
  pub pins : sum_by raw_pin_count raw.cells ≤ greatest Pins
  pub names : sum_by length (raw_identifiers raw) ≤ greatest AllNames

-- the clock port's bit: the one bit of an input
pub record HasClockPort (raw : Raw) : Type 0 where
  pub port : Port
  pub place : ℕ
  pub at : slice_get raw.ports place ≡ Some port
  pub input : port.output ≡ false
  pub bit : port_nets raw.groups port ≡ raw.clock.0 ∷ []

-- what unfolding a hierarchy gives by itself
pub record IsUnfolded (raw : Raw) : Type 0 where
  -- net numbers rise through the groups from 0, and the ports' groups come first, in port order
  pub numbering : all_nets raw.groups ≡ range_with_len 0 (net_count raw.groups)
  pub port_order : map (λ (port : Port). port.group) raw.ports ≡ range_with_len 0 (length raw.ports)
  pub port_groups : length raw.ports ≤ length raw.groups
  pub ranges : Each HasRange raw.groups
  pub rows : Each HasRawRow raw.cells
  pub nets : NamesNets raw
  pub clock_port : HasClockPort raw
  pub spelling : Each IsIdentifier (raw_identifiers raw)
  pub limits : HasRawLimits raw
