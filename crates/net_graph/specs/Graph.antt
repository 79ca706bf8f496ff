-- Directed graphs of numbered nodes: numbers that rise along the edges, and cycles.
use Rattle.std.specs.Prelude.{◌≡◌, ℕ, ◌+◌, ◌-◌, ◌<◌, List, length, slice_get, slice_index, Some}
use Rattle.net_graph.specs.declared.graph.Graph.{Graph}
use Rattle.net_graph.specs.declared.graph.Order.{Order}
use Rattle.net_graph.specs.declared.graph.Order.TheVariants.{Ranked, Cycle}
use Rattle.net_graph.specs.Lists.{AllDiffer, BeginsLeast}
use Rattle.net_graph.specs.Rows.{RowHas}

-- how many nodes there are: they have the numbers below this one
abbrev pub node_count : Graph → ℕ
node_count graph = length graph.starts.items - 1

-- an edge of the graph goes from node m to node n
abbrev pub Leads : Graph → ℕ → ℕ → Type 0
Leads graph m n = RowHas graph.starts.items graph.sources.items m n

-- each edge goes from a lower to a higher number
abbrev pub IsRanked : (ℕ → ℕ → Type 0) → (ℕ → ℕ) → Type 0
IsRanked leads rank = (m n : ℕ) → leads m n → rank m < rank n

-- distinct nodes, each of which leads to the next and the last to the first
pub record IsCycle (leads : ℕ → ℕ → Type 0) (nodes : List ℕ) : Type 0 where
  pub nonempty : 0 < length nodes
  pub distinct : AllDiffer nodes
  pub next : (i m n : ℕ) → slice_get nodes i ≡ Some m → slice_get nodes (i + 1) ≡ Some n → leads m n
  pub first : (i m n : ℕ) → i + 1 ≡ length nodes → slice_get nodes i ≡ Some m → slice_get nodes 0 ≡ Some n → leads m n

-- numbers for all nodes that rise along the edges, or a cycle that begins with its least node
abbrev pub IsOrder : Graph → Order → Type 0
IsOrder graph (Ranked ranks) = (length ranks.items ≡ node_count graph) × IsRanked (Leads graph) (slice_index ranks.items)
IsOrder graph (Cycle nodes) = IsCycle (Leads graph) nodes.items × BeginsLeast nodes.items
