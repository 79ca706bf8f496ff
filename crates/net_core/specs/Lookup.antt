-- Which group, cell or net bit has a name.
use Rattle.std.specs.Prelude.{◌≡◌, ℕ, List, map, filter_map, slice_get, Some}
use Rattle.std.specs.List.{enumerate_from}
use Rattle.std.specs.Option.{option_map}
use Rattle.net_core.specs.declared.parts.Cell.{Cell}
use Rattle.net_core.specs.declared.parts.Group.{Group}
use Rattle.net_core.specs.Netlist.{Netlist}
use Rattle.net_core.specs.WellFormed.{net_names, IsFlat}

-- the group is in the netlist, under this name
pub record IsGroupNamed (net : Netlist) (name : List ℕ) (group : Group) : Type 0 where
  pub number : ℕ
  pub at : slice_get net.groups number ≡ Some group
  pub named : group.name ≡ name

-- the cell with this number has this name
pub record IsCellNamed (net : Netlist) (name : List ℕ) (number : ℕ) : Type 0 where
  pub cell : Cell
  pub at : slice_get net.cells number ≡ Some cell
  pub named : cell.name ≡ Some name

-- the net bit with this number has this name
abbrev pub IsNetNamed : Netlist → List ℕ → ℕ → Type 0
IsNetNamed net name number = slice_get (net_names net.groups) number ≡ Some name

-- the names of all groups, and of all cells that have one, with their numbers
abbrev pub named_groups : List Group → List (List ℕ × ℕ)
named_groups groups = map (λ entry. (entry.1.name, entry.0)) (enumerate_from 0 groups)

abbrev pub named_cells : List Cell → List (List ℕ × ℕ)
named_cells cells = filter_map (λ entry. option_map (λ name. (name, entry.0)) entry.1.name) (enumerate_from 0 cells)

-- what a flat netlist keeps beside its parts
pub record IsKept (net : Netlist) (group_numbers cell_numbers : List (List ℕ × ℕ)) : Type 0 where
  pub flat : IsFlat net
  pub groups : group_numbers ≡ named_groups net.groups
  pub cells : cell_numbers ≡ named_cells net.cells
