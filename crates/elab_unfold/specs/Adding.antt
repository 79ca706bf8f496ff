-- What unfolding adds to what was unfolded before.
use Rattle.std.specs.Prelude.{◌≡◌, ℕ, ◌+◌, List, ◌++◌, map, length, slice_get, Some}
use Rattle.std.specs.List.{flat_map}
use Rattle.vlog_parse.specs.declared.tree.Module.{Module}
use Rattle.vlog_parse.specs.declared.tree.Item.{Item}
use Rattle.elab_design.specs.Design.{Path, Bit, Design}
use Rattle.elab_design.specs.DesignCells.{DesignCell}
use Rattle.elab_design.specs.Order.{DesignGroup, group_bits, own_groups, InnerGroups, GroupsOf, Unfolds}
use Rattle.elab_design.specs.Raw.{flat_group, raw_cell}
use Rattle.elab_unfold.specs.declared.state.State.{State}
use Rattle.elab_unfold.specs.Places.{prefix_of, Fits}

-- the bits have rising numbers from this one on
abbrev pub Numbers : (Bit → ℕ) → ℕ → List Bit → Type 0
Numbers number base bits = (k : ℕ) (b : Bit) → slice_get bits k ≡ Some b → number b ≡ base + k

-- these groups and cells were added, under all numbers of net bits that rise with the groups
pub record Added (groups : List DesignGroup) (cells : List DesignCell) (old new : State) : Type 0 where
  pub nets : new.nets ≡ old.nets + length (flat_map group_bits groups)
  pub new_groups : (number : Bit → ℕ) → Numbers number old.nets (flat_map group_bits groups) → new.groups ≡ old.groups ++ map (flat_group number) groups
  pub new_cells : (number : Bit → ℕ) → Numbers number old.nets (flat_map group_bits groups) → new.cells ≡ old.cells ++ map (raw_cell number) cells

-- a module at a path was added
pub record Adds (d : Design) (m : Module) (path : Path) (old new : State) : Type 0 where
  pub groups : List DesignGroup
  pub cells : List DesignCell
  pub all_groups : GroupsOf d m path groups
  pub all_cells : Unfolds d m path m.items cells
  pub added : Added groups cells old new

-- a module at a path was added but for some items: what these unfold to completes it
pub record Taken (d : Design) (m : Module) (path : Path) (more : List Item) (old new : State) : Type 0 where
  pub groups : List DesignGroup
  pub cells : List DesignCell
  pub rest_groups : (inner : List DesignGroup) → InnerGroups d path more inner → GroupsOf d m path (groups ++ inner)
  pub rest_cells : (left : List DesignCell) → Unfolds d m path more left → Unfolds d m path m.items (cells ++ left)
  pub inner : List DesignGroup
  pub owns : groups ≡ own_groups m path ++ inner
  pub added : Added groups cells old new

-- an item's cells were added, which depend on the path, where the numbers of the bits of its module's nets rise from this one on
pub record AddsCells (m : Module) (base : ℕ) (cells : Path → List DesignCell) (old new : State) : Type 0 where
  pub prefix : new.prefix.items ≡ old.prefix.items
  pub nets : new.nets ≡ old.nets
  pub groups : new.groups ≡ old.groups
  pub added : (path : Path) (number : Bit → ℕ) → old.prefix.items ≡ prefix_of path → Fits m path base number → new.cells ≡ old.cells ++ map (raw_cell number) (cells path)
