-- Flat names, and which histories of a design and of a flat netlist are the same by them.
use Rattle.std.specs.Prelude.{◌≡◌, ℕ, List, [], ◌∷◌, ◌++◌, filter_map, map, Option, Some, None}
use Rattle.std.specs.Option.{option_map}
use Rattle.net_core.specs.Netlist.{Netlist}
use Rattle.net_core.specs.Run.{History}
use Rattle.net_core.specs.WellFormed.{indexed_name}
use Rattle.net_core.specs.Lookup.{IsNetNamed, IsCellNamed}
use Rattle.vlog_parse.specs.declared.tree.Module.{Module}
use Rattle.vlog_parse.specs.declared.tree.Range.{Range}
use Rattle.vlog_parse.specs.ReadTree.{In}
use Rattle.vlog_check.specs.Scope.{range_of}
use Rattle.elab_design.specs.Design.{Path, Bit, indices, Design, Leads}
use Rattle.elab_design.specs.DesignCells.{DesignCell, HasCell}
use Rattle.elab_design.specs.DesignRuns.{DesignHistory}
use Rattle.elab_design.specs.Order.{DesignGroup}

-- the path's names, the outermost first, and the name, joined by `/`
abbrev pub flat_name : Path → List ℕ → List ℕ
flat_name [] name = name
flat_name (inst ∷ path) name = flat_name path (inst ++ 47 ∷ name)

-- the name of a bit: a scalar's is its net's, and a vector's bit has its index behind it
abbrev pub bit_name : Path → List ℕ → Option Range → ℕ → List ℕ
bit_name path name None index = flat_name path name
bit_name path name (Some range) index = indexed_name (flat_name path name) index

-- the bit is one of a net of the module that its path leads to, and has this flat name
pub record IsBitNamed (d : Design) (b : Bit) (word : List ℕ) : Type 0 where
  pub holder : Module
  pub leads : Leads d b.path holder
  pub range : Option Range
  pub declares : range_of holder b.name ≡ Some range
  pub among : In (indices range) b.index
  pub named : word ≡ bit_name b.path b.name range b.index

abbrev pub cell_name : DesignCell → Option (List ℕ)
cell_name c = option_map (flat_name c.path) c.name

-- the flat identifiers: of each group, and then of each cell that has a name
abbrev pub design_identifiers : List DesignGroup → List DesignCell → List (List ℕ)
design_identifiers groups cells = map (λ (g : DesignGroup). flat_name g.path g.name) groups ++ filter_map cell_name cells

-- A history of the design is carried by flat names: a bit and a net of one name have one value, and so have the stored bits of a cell
-- of the design and of a cell of the netlist.
pub record Carries (d : Design) (net : Netlist) (h : DesignHistory) (g : History) : Type 0 where
  pub bits : (t n : ℕ) (b : Bit) (word : List ℕ) → IsBitNamed d b word → IsNetNamed net word n → g.bit t n ≡ h.bit t b
  pub contents : (t k i : ℕ) (c : DesignCell) (name : List ℕ) → HasCell d c → c.name ≡ Some name → IsCellNamed net (flat_name c.path name) k
      → g.content t k i ≡ h.content t c.path name i
