-- The groups, cells and ports of a design by numbers of net bits, with all links.
use Rattle.std.specs.Prelude.{◌≡◌, ℕ, suc, ◌==◌, ◌&&◌, if◌then◌else◌, Bool, true, false, List, [], ◌∷◌, map, flat_map, slice_get, Option, Some}
use Rattle.std.specs.Option.{option_map}
use Rattle.std.specs.Str.{bytes_eq}
use Rattle.net_core.specs.declared.parts.NetId.{NetId}
use Rattle.net_core.specs.declared.parts.Pin.{Pin}
use Rattle.net_core.specs.declared.parts.Pin.TheVariants as pins
use Rattle.net_core.specs.declared.parts.Group.{Group}
use Rattle.net_core.specs.declared.parts.Port.{Port}
use Rattle.flat_settle.specs.declared.raw.RawCell.{RawCell}
use Rattle.flat_settle.specs.declared.raw.Raw.{Raw}
use Rattle.vlog_parse.specs.declared.tree.Module.{Module}
use Rattle.vlog_parse.specs.declared.tree.Range.{Range}
use Rattle.vlog_check.specs.Scope.{numbered_from, direction_of, is_output}
use Rattle.elab_design.specs.Design.{Path, Bit, Source, Wire, Fixed, Design}
use Rattle.elab_design.specs.DesignCells.{DesignCell}
use Rattle.elab_design.specs.DesignRuns.{clock_bits}
use Rattle.elab_design.specs.Order.{DesignGroup, group_bits, FlatOrder}
use Rattle.elab_design.specs.Names.{flat_name, cell_name}

abbrev pub net_id : ℕ → NetId
net_id n = record { 0 = n }

-- a source, where each net bit has a number
abbrev pub pin : (Bit → ℕ) → Source → Pin
pin number (Wire b) = pins.Net (net_id (number b))
pin number (Fixed false) = pins.Zero
pin number (Fixed true) = pins.One

abbrev pub out_nets : (Bit → ℕ) → List (Option Bit) → List (Option NetId)
out_nets number outs = map (option_map (λ b. net_id (number b))) outs

abbrev pub pair_of : Range → ℕ × ℕ
pair_of r = (r.left, r.right)

abbrev pub flat_group : (Bit → ℕ) → DesignGroup → Group
flat_group number g = record { name = flat_name g.path g.name; range = option_map pair_of g.range; bits = map (λ b. net_id (number b)) (group_bits g) }

abbrev pub raw_cell : (Bit → ℕ) → DesignCell → RawCell
raw_cell number c = record {
  link = c.link;
  kind = c.kind;
  name = cell_name c;
  ins = map (pin number) c.ins;
  outs = out_nets number c.outs;
  clock = option_map (pin number) c.clock;
}

-- the ports of the header by the numbers of their groups, which come first
abbrev pub flat_port : Module → List ℕ × ℕ → Port
flat_port top port = record { group = port.1; output = is_output (direction_of top port.0) }

abbrev pub flat_ports : Module → List Port
flat_ports top = map (flat_port top) (numbered_from 0 top.ports)

-- each bit of the list has its place in it as its number
abbrev pub IsPlaced : (Bit → ℕ) → List Bit → Type 0
IsPlaced number bits = (n : ℕ) (b : Bit) → slice_get bits n ≡ Some b → number b ≡ n

-- whether two bits are the same
abbrev pub same_path : Path → Path → Bool
same_path [] [] = true
same_path [] (y ∷ q) = false
same_path (x ∷ p) [] = false
same_path (x ∷ p) (y ∷ q) = bytes_eq x y && same_path p q

abbrev pub same_bit : Bit → Bit → Bool
same_bit a b = same_path a.path b.path && bytes_eq a.name b.name && (a.index == b.index)

-- the place of a bit among these, or how many there are
abbrev pub place_among : List Bit → Bit → ℕ
place_among [] b = 0
place_among (a ∷ bits) b = if same_bit a b then 0 else suc (place_among bits b)

-- The raw netlist is the design in flat order, where the number of each net bit is its place among those of all groups.
pub record IsRawOf (d : Design) (raw : Raw) : Type 0 where
  pub design_groups : List DesignGroup
  pub design_cells : List DesignCell
  pub order : FlatOrder d design_groups design_cells
  pub number : Bit → ℕ
  pub placed : IsPlaced number (flat_map group_bits design_groups)
  pub groups : raw.groups ≡ map (flat_group number) design_groups
  pub cells : raw.cells ≡ map (raw_cell number) design_cells
  pub ports : raw.ports ≡ flat_ports order.top
  pub clock : map number (clock_bits d) ≡ raw.clock.0 ∷ []
