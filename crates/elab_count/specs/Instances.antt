-- The modules of which a module has instances, as a graph, and an order in which each module stands behind them.
use Rattle.std.specs.Prelude.{◌≡◌, ℕ, ◌<◌, ◌≤◌, Bool, true, ◌↔◌, List, [], ◌∷◌, length, filter_map, slice_get, Option, Some, None, if◌then◌else◌}
use Rattle.vlog_parse.specs.declared.tree.Tree.{Tree}
use Rattle.vlog_parse.specs.declared.tree.Module.{Module}
use Rattle.vlog_parse.specs.declared.tree.Item.{Item}
use Rattle.vlog_parse.specs.declared.tree.Item.TheVariants as items
use Rattle.vlog_check.specs.Checked.{Contains}
use Rattle.net_graph.specs.declared.graph.Graph.{Graph}
use Rattle.net_graph.specs.Graph.{Leads, node_count}
use Rattle.net_graph.specs.Lists.{is_marked}
use Rattle.elab_scope.specs.declared.numbers.Part.{Part}
use Rattle.elab_scope.specs.declared.numbers.Part.TheVariants as parts
use Rattle.elab_scope.specs.Modules.{part_of}

abbrev pub part_number : Option Part → Option ℕ
part_number None = None
part_number (Some (parts.Cell cell)) = None
part_number (Some (parts.Module n)) = Some n

-- the number of the module that an item is an instance of
abbrev pub contained_by : Tree → Item → Option ℕ
contained_by tree (items.Net d) = None
contained_by tree (items.Assign target value) = None
contained_by tree (items.Gate g) = None
contained_by tree (items.Inst inst) = part_number (part_of tree inst)

-- the numbers of the modules of a module's instances, if it is wanted
abbrev pub contained_where : Tree → Module → Bool → List ℕ
contained_where tree m wanted = if wanted then filter_map (contained_by tree) m.items else []

-- so for each module
abbrev pub contained_rows : Tree → List Module → List Bool → List (List ℕ)
contained_rows tree [] wanted = []
contained_rows tree (m ∷ modules) [] = []
contained_rows tree (m ∷ modules) (w ∷ wanted) = contained_where tree m w ∷ contained_rows tree modules wanted

-- each module leads to the wanted ones that have an instance of it
pub record IsInstanceGraph (tree : Tree) (wanted : List Bool) (graph : Graph) : Type 0 where
  pub size : node_count graph ≡ length tree.modules
  pub leads : (b a : ℕ) → Leads graph b a ↔ ((is_marked wanted a ≡ true) × Contains tree a b)

-- the nodes with their numbers, in rising order of these
pub record AreSorted (ranks : List ℕ) (order : List (ℕ × ℕ)) : Type 0 where
  pub own : (i r n : ℕ) → slice_get order i ≡ Some (r, n) → slice_get ranks n ≡ Some r
  pub all : (n r : ℕ) → slice_get ranks n ≡ Some r → (i : ℕ) × (slice_get order i ≡ Some (r, n))
  pub rising : (i j r s a b : ℕ) → i ≤ j → slice_get order i ≡ Some (r, a) → slice_get order j ≡ Some (s, b) → r ≤ s

-- All nodes of a graph are listed, each with a number before it. None stands where or behind where one stands to which it leads.
pub record IsSorting (graph : Graph) (order : List (ℕ × ℕ)) : Type 0 where
  pub within : (i r n : ℕ) → slice_get order i ≡ Some (r, n) → n < node_count graph
  pub all : (n : ℕ) → n < node_count graph → (i : ℕ) × (r : ℕ) × (slice_get order i ≡ Some (r, n))
  pub behind : (i j r s a b : ℕ) → i ≤ j → slice_get order i ≡ Some (r, a) → slice_get order j ≡ Some (s, b) → Leads graph b a → ⊥

-- All modules are listed, each with a number before it, and none stands where or behind where a wanted one stands that has an instance of it.
pub record AreInOrder (tree : Tree) (wanted : List Bool) (order : List (ℕ × ℕ)) : Type 0 where
  pub within : (i r n : ℕ) → slice_get order i ≡ Some (r, n) → n < length tree.modules
  pub all : (n : ℕ) → n < length tree.modules → (i : ℕ) × (r : ℕ) × (slice_get order i ≡ Some (r, n))
  pub behind : (i j r s a b : ℕ) → i ≤ j → slice_get order i ≡ Some (r, a) → slice_get order j ≡ Some (s, b) → is_marked wanted a ≡ true → Contains tree a b → ⊥
