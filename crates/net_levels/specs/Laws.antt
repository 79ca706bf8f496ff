-- A netlist whose nets have rising numbers has no combinational cycle.
use Rattle.std.specs.Prelude.{ℕ}
use Rattle.net_core.specs.Netlist.{Netlist}
use Rattle.net_core.specs.Cycle.{IsRanked, HasCycle, Feeds}
use Rattle.net_graph.specs.Laws as graph

pub ranked_has_no_cycle : (net : Netlist) (rank : ℕ → ℕ) → IsRanked net rank → HasCycle net → ⊥
ranked_has_no_cycle net rank ranked cycle = graph.ranked_has_no_cycle (Feeds net) rank ranked cycle.0 cycle.1
