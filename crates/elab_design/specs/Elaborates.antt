-- The flat netlist of a design: what it consists of, and that it has the design's runs.
use Rattle.std.specs.Prelude.{◌≡◌, ◌↔◌, ℕ, Bool, true, List, [], ◌∷◌, map, flat_map, filter_map, slice_get, Option, Some, None, option_and_then, MatchOption}
use Rattle.net_core.specs.declared.parts.NetId.{NetId}
use Rattle.net_core.specs.declared.parts.Cell.{Cell}
use Rattle.net_core.specs.declared.parts.Group.{Group}
use Rattle.net_core.specs.Netlist.{Netlist, numbers, is_driven, is_clock}
use Rattle.net_core.specs.Run.{History, IsRun}
use Rattle.vlog_parse.specs.declared.tree.Module.{Module}
use Rattle.elab_design.specs.Design.{Bit, Source, Wire, Fixed, net_bits, Design}
use Rattle.elab_design.specs.DesignCells.{DesignCell}
use Rattle.elab_design.specs.DesignRuns.{clock_bits, Driven, InClock, IsKept, DesignHistory, IsDesignRun}
use Rattle.elab_design.specs.Order.{DesignGroup, group_bits, FlatOrder}
use Rattle.elab_design.specs.Names.{cell_name, Carries}
use Rattle.elab_design.specs.Raw.{net_id, pin, out_nets, flat_group, flat_ports, IsPlaced}

-- the net on a clock pin
abbrev pub source_net : (Bit → ℕ) → Source → Option NetId
source_net number (Wire b) = Some (net_id (number b))
source_net number (Fixed v) = None

abbrev pub flat_cell : (Bit → ℕ) → DesignCell → Cell
flat_cell number c = record {
  kind = c.kind;
  name = cell_name c;
  ins = map (pin number) c.ins;
  outs = out_nets number c.outs;
  clock = option_and_then (source_net number) c.clock;
}

-- the cells without the links of bits that aren't driven, in their order
pub data KeptCells (d : Design) : List DesignCell → List DesignCell → Type 0 where
  none : KeptCells d [] []
  kept : (c : DesignCell) (more cells : List DesignCell) → IsKept d c → KeptCells d more cells → KeptCells d (c ∷ more) (c ∷ cells)
  dropped : (c : DesignCell) (more cells : List DesignCell) → ¬ IsKept d c → KeptCells d more cells → KeptCells d (c ∷ more) cells

-- the clock of the first cell that has one, or the clock port's bit
abbrev pub IsClockOf : Design → (Bit → ℕ) → List Cell → NetId → Type 0
IsClockOf d number cells clock =
    MatchOption (slice_get (filter_map (λ (cell : Cell). cell.clock) cells) 0) (map number (clock_bits d) ≡ clock.0 ∷ []) (λ net. net ≡ clock)

-- The flat netlist has the design's groups, kept cells and ports in flat order, where the number of each net bit is its place; it has
-- its driven bits and its clock set; and a history of the design is a run over any rows exactly where the history that is carried by
-- flat names is a run of the netlist.
pub record Elaborates (d : Design) (net : Netlist) : Type 0 where
  pub design_groups : List DesignGroup
  pub design_cells : List DesignCell
  pub order : FlatOrder d design_groups design_cells
  pub number : Bit → ℕ
  pub placed : IsPlaced number (flat_map group_bits design_groups)
  pub groups : net.groups ≡ map (flat_group number) design_groups
  pub left : List DesignCell
  pub leaves : KeptCells d design_cells left
  pub cells : net.cells ≡ map (flat_cell number) left
  pub ports : net.ports ≡ flat_ports order.top
  pub clock : IsClockOf d number net.cells net.clock
  pub driven : (n : ℕ) (b : Bit) → slice_get (flat_map group_bits design_groups) n ≡ Some b → (is_driven net n ≡ true) ↔ Driven d b
  pub clocked : (n : ℕ) (b : Bit) → slice_get (flat_map group_bits design_groups) n ≡ Some b → (is_clock net n ≡ true) ↔ InClock d b
  pub runs : (h : DesignHistory) (g : History) → Carries d net h g → (rows : List (List Bool)) → IsDesignRun d rows h ↔ IsRun net rows g

-- a port of the top by its place in the header: its group has its name, and the numbers of its bits
pub record HasFlatPort (net : Netlist) (number : Bit → ℕ) (top : Module) (k : ℕ) (name : List ℕ) : Type 0 where
  pub group : Group
  pub at : slice_get net.groups k ≡ Some group
  pub named : group.name ≡ name
  pub bits : numbers group.bits ≡ map number (net_bits top [] name)
