-- Combinational dependence: which net a net depends on at one clock, cycles of it, and numbers that rise along it.
use Rattle.std.specs.Prelude.{◌≡◌, ℕ, true, List}
use Rattle.net_graph.specs.Graph as graph
use Rattle.net_core.specs.declared.parts.Cell.{Cell}
use Rattle.net_core.specs.CellTable.{depends}
use Rattle.net_core.specs.Netlist.{Netlist, Drives, Reads, IsData}

-- The data net n depends on net m: it is on an output pin that depends combinationally on an input pin on m.
pub record Feeds (net : Netlist) (m n : ℕ) : Type 0 where
  pub c : ℕ
  pub cell : Cell
  pub k : ℕ
  pub i : ℕ
  pub drives : Drives net.cells c cell k n
  pub reads : Reads net.cells c cell i m
  pub depends_on : depends cell.kind k i ≡ true
  pub carries_data : IsData net n

-- distinct nets, each a combinational input of the next and the last of the first
abbrev pub IsCycle : Netlist → List ℕ → Type 0
IsCycle net nets = graph.IsCycle (Feeds net) nets

abbrev pub HasCycle : Netlist → Type 0
HasCycle net = (nets : List ℕ) × IsCycle net nets

-- each net's number is above those of all nets that it depends on
abbrev pub IsRanked : Netlist → (ℕ → ℕ) → Type 0
IsRanked net rank = graph.IsRanked (Feeds net) rank
