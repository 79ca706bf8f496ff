-- Modules in one another, as numbers: which module an item is an instance of, and the graph of all.
use Rattle.std.specs.Prelude.{◌≡◌, ℕ, ◌+◌, ◌<◌, ◌≤◌, is_some, if◌then◌else◌, List, length, slice_get, slice_index, Option, Some, None, MatchOption}
use Rattle.net_graph.specs.declared.graph.Graph.{Graph}
use Rattle.net_graph.specs.Graph.{node_count, Leads}
use Rattle.net_graph.specs.Rows.{RowHas}
use Rattle.vlog_parse.specs.declared.tree.Tree.{Tree}
use Rattle.vlog_parse.specs.declared.tree.Item.{Item}
use Rattle.vlog_parse.specs.declared.tree.Item.TheVariants.{Net, Assign, Gate, Inst}
use Rattle.vlog_check.specs.Scope.{module_number, cell_of}
use Rattle.vlog_check.specs.Checked.{Contains, IsRecursive}

-- the number of the module that an item is an instance of
abbrev pub inner_number : Tree → Item → Option ℕ
inner_number tree (Net d) = None
inner_number tree (Assign target value) = None
inner_number tree (Gate g) = None
inner_number tree (Inst i) = if is_some (cell_of i.module) then None else module_number tree i.module

-- The rows of the first n modules: that of a module has the numbers of the modules that it has instances of.
pub record AreInner (tree : Tree) (n : ℕ) (starts sources : List ℕ) : Type 0 where
  pub count : length starts ≡ n + 1
  pub last : slice_index starts n ≡ length sources
  pub rising : (k : ℕ) → k < n → slice_index starts k ≤ slice_index starts (k + 1)
  pub within : (k : ℕ) → k ≤ n → slice_index starts k ≤ length sources
  pub nodes : (place m : ℕ) → slice_get sources place ≡ Some m → m < length tree.modules
  pub sound : (k m : ℕ) → k < n → RowHas starts sources m k → Contains tree k m
  pub complete : (k m : ℕ) → k < n → Contains tree k m → RowHas starts sources m k

-- an edge of the graph goes from each module to those that contain it
pub record IsInnerGraph (tree : Tree) (graph : Graph) : Type 0 where
  pub count : node_count graph ≡ length tree.modules
  pub sound : (a b : ℕ) → Leads graph b a → Contains tree a b
  pub complete : (a b : ℕ) → Contains tree a b → Leads graph b a

-- of the top and the modules below it the first that contains itself, or there is none
abbrev pub IsFirstInside : Tree → ℕ → Option ℕ → Type 0
IsFirstInside tree top found =
    MatchOption found ((n : ℕ) → IsRecursive tree top n → ⊥) (λ n. IsRecursive tree top n × ((m : ℕ) → IsRecursive tree top m → n ≤ m))
