-- Nodes that lead to themselves, among those that lead to a given one.
use Rattle.std.specs.Prelude.{◌≡◌, ℕ, ◌≤◌, Option, Some, None, ◌⊎◌}
use Rattle.net_graph.specs.declared.graph.Graph.{Graph}
use Rattle.net_graph.specs.Graph.{Leads}

-- node m leads to node n along one edge or more
pub data LeadsFar (graph : Graph) : ℕ → ℕ → Type 0 where
  one : (m n : ℕ) → Leads graph m n → LeadsFar graph m n
  more : (m k n : ℕ) → LeadsFar graph m k → Leads graph k n → LeadsFar graph m n

-- node m is node n, or leads to it
abbrev pub LeadsTo : Graph → ℕ → ℕ → Type 0
LeadsTo graph m n = (m ≡ n) ⊎ LeadsFar graph m n

-- the node is the end or leads to it, and leads to itself along one edge or more
abbrev pub IsRecurrent : Graph → ℕ → ℕ → Type 0
IsRecurrent graph end n = LeadsTo graph n end × LeadsFar graph n n

-- the least of these nodes, or there is none
abbrev pub IsLeastRecurrent : Graph → ℕ → Option ℕ → Type 0
IsLeastRecurrent graph end None = (n : ℕ) → IsRecurrent graph end n → ⊥
IsLeastRecurrent graph end (Some n) = IsRecurrent graph end n × ((m : ℕ) → IsRecurrent graph end m → n ≤ m)
