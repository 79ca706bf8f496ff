-- The order in which a hierarchy is unfolded: its groups of nets, and its cells.
use Rattle.std.specs.Prelude.{◌≡◌, ℕ, if◌then◌else◌, List, [], ◌∷◌, ◌++◌, map, flat_map, filter_map, Option, Some, None}
use Rattle.std.specs.Option.{option_map}
use Rattle.vlog_parse.specs.declared.tree.Module.{Module}
use Rattle.vlog_parse.specs.declared.tree.Range.{Range}
use Rattle.vlog_parse.specs.declared.tree.Item.{Item}
use Rattle.vlog_parse.specs.declared.tree.Item.TheVariants.{Net, Assign, Gate, Inst}
use Rattle.vlog_parse.specs.declared.tree.Inst.{Inst as Instance}
use Rattle.vlog_parse.specs.declared.tree.Expr.{Expr}
use Rattle.vlog_check.specs.Scope.{is_among, declared, range_of, numbered_from, Kind, OfCell, OfModule, kind_of, connected, direction_of, is_output}
use Rattle.elab_design.specs.Design.{Path, Bit, Source, Wire, Fixed, bit_of, indices, net_bits, sources, Design, IsTop}
use Rattle.elab_design.specs.DesignCells.{DesignCell, link, gate_cell, leaf_cell}

-- Groups: the nets of each module at each path

-- a net of a module at a path, with its range
pub record DesignGroup : Type 0 where
  pub path : Path
  pub name : List ℕ
  pub range : Option Range

-- its bits, the leftmost first
abbrev pub group_bits : DesignGroup → List Bit
group_bits g = map (bit_of g.path g.name) (indices g.range)

-- the names that don't stand before, each at its first mention
abbrev pub first_mentions : List (List ℕ) → List (List ℕ) → List (List ℕ)
first_mentions before [] = []
first_mentions before (name ∷ names) = if is_among before name then first_mentions before names else name ∷ first_mentions (name ∷ before) names

-- the names of a module's nets in the order of their first mention in the header or a declaration
abbrev pub net_names : Module → List (List ℕ)
net_names m = first_mentions [] (m.ports ++ map (λ (d : List ℕ × Option Range). d.0) (declared m.items))

abbrev pub net_group : Module → Path → List ℕ → Option DesignGroup
net_group m path name = option_map (λ range. record { path = path; name = name; range = range }) (range_of m name)

-- a module's own nets
abbrev pub own_groups : Module → Path → List DesignGroup
own_groups m path = filter_map (net_group m path) (net_names m)

-- the module that an item is an instance of
abbrev pub module_in : Option Kind → Option Module
module_in None = None
module_in (Some (OfCell cell)) = None
module_in (Some (OfModule m)) = Some m

abbrev pub inner_module : Design → Item → Option Module
inner_module d (Net decl) = None
inner_module d (Assign to from) = None
inner_module d (Gate g) = None
inner_module d (Inst inst) = module_in (kind_of d.tree inst)

-- The groups of the instances of modules among these items of a module at a path: in text order each instance's own nets, and then
-- those of the instances in it in the same way.
pub data InnerGroups (d : Design) : Path → List Item → List DesignGroup → Type 0 where
  over : (path : Path) → InnerGroups d path [] []
  plain : (path : Path) (item : Item) (more : List Item) (groups : List DesignGroup) → inner_module d item ≡ None → InnerGroups d path more groups
      → InnerGroups d path (item ∷ more) groups
  inside : (path : Path) (n : Module) (inst : Instance) (more : List Item) (inner groups : List DesignGroup) → kind_of d.tree inst ≡ Some (OfModule n)
      → InnerGroups d (inst.name ∷ path) n.items inner → InnerGroups d path more groups
      → InnerGroups d path (Inst inst ∷ more) ((own_groups n (inst.name ∷ path) ++ inner) ++ groups)

-- the groups of a module at a path with all below it
pub record GroupsOf (d : Design) (m : Module) (path : Path) (groups : List DesignGroup) : Type 0 where
  pub inner : List DesignGroup
  pub below : InnerGroups d path m.items inner
  pub all : groups ≡ own_groups m path ++ inner

-- Cells

-- one link a bit, the leftmost first
abbrev pub links : Path → List Source → List Source → List DesignCell
links path [] targets = []
links path (s ∷ from) [] = []
links path (s ∷ from) (Wire b ∷ targets) = link path s b ∷ links path from targets
links path (s ∷ from) (Fixed v ∷ targets) = links path from targets

-- the links of a port of an instance: of an input from outside to inside, and of an output from inside to outside
abbrev pub links_of : Module → Path → Instance → Module → List ℕ → Option Expr → List DesignCell
links_of m path inst n port None = []
links_of m path inst n port (Some e) =
    if is_output (direction_of n port) then links path (map Wire (net_bits n (inst.name ∷ path) port)) (sources m path e)
    else links path (sources m path e) (map Wire (net_bits n (inst.name ∷ path) port))

abbrev pub port_links : Module → Path → Instance → Module → List ℕ × ℕ → List DesignCell
port_links m path inst n port = links_of m path inst n port.0 (connected inst.conns port.1 port.0)

-- the links of all ports, in the order of the header
abbrev pub instance_links : Module → Path → Instance → Module → List DesignCell
instance_links m path inst n = flat_map (port_links m path inst n) (numbered_from 0 n.ports)

-- the cell of an instance of a cell
abbrev pub leaf_of : Module → Path → Instance → Option Kind → List DesignCell
leaf_of m path inst None = []
leaf_of m path inst (Some (OfCell cell)) = leaf_cell m path inst cell ∷ []
leaf_of m path inst (Some (OfModule n)) = []

-- the cells of an item that is no instance of a module
abbrev pub own_cells : Design → Module → Path → Item → List DesignCell
own_cells d m path (Net decl) = []
own_cells d m path (Assign to from) = links path (sources m path from) (sources m path to)
own_cells d m path (Gate g) = gate_cell m path g ∷ []
own_cells d m path (Inst inst) = leaf_of m path inst (kind_of d.tree inst)

-- The cells of these items of a module at a path, in text order: an instance of a module is its port links, and then the items of
-- that module in the same way.
pub data Unfolds (d : Design) : Module → Path → List Item → List DesignCell → Type 0 where
  over : (m : Module) (path : Path) → Unfolds d m path [] []
  own : (m : Module) (path : Path) (item : Item) (more : List Item) (cells : List DesignCell) → inner_module d item ≡ None → Unfolds d m path more cells
      → Unfolds d m path (item ∷ more) (own_cells d m path item ++ cells)
  inside : (m n : Module) (path : Path) (inst : Instance) (more : List Item) (inner cells : List DesignCell) → kind_of d.tree inst ≡ Some (OfModule n)
      → Unfolds d n (inst.name ∷ path) n.items inner → Unfolds d m path more cells
      → Unfolds d m path (Inst inst ∷ more) (instance_links m path inst n ++ (inner ++ cells))

-- The whole design in flat order: its groups, and its cells.
pub record FlatOrder (d : Design) (groups : List DesignGroup) (cells : List DesignCell) : Type 0 where
  pub top : Module
  pub is_top : IsTop d top
  pub all_groups : GroupsOf d top [] groups
  pub all_cells : Unfolds d top [] top.items cells
