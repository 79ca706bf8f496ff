-- Level numbers: they rise along combinational dependence, and a netlist that has them has exactly one run over every list of
-- rows. Where there are none, there is a combinational cycle.
use Rattle.std.specs.Prelude.{◌≡◌, ℕ, Bool, List, length, slice_index, ⊤}
use Rattle.net_core.specs.Netlist.{Netlist, numbers, net_count, input_nets}
use Rattle.net_graph.specs.Lists.{Each, BeginsLeast}
use Rattle.net_core.specs.Run.{History, IsOneRun}
use Rattle.net_core.specs.Cycle.{IsCycle, IsRanked}
use Rattle.net_levels.specs.declared.types.LevelFault.{LevelFault}
use Rattle.net_levels.specs.declared.types.LevelFault.TheVariants as faults

-- a row has a bit for each data bit of the top's inputs
abbrev pub IsRowOf : Netlist → List Bool → Type 0
IsRowOf net row = length row ≡ length (input_nets net)

-- over every list of rows there is exactly one run
abbrev pub HasOneRun : Netlist → Type 0
HasOneRun net = (rows : List (List Bool)) → Each (IsRowOf net) rows → (history : History) × IsOneRun net rows history

-- there is a number for each net, above those of all nets that it depends on
pub record AreLevels (net : Netlist) (levels : List ℕ) : Type 0 where
  pub size : length levels ≡ net_count net.groups
  pub ranked : IsRanked net (slice_index levels)

-- the nets are a combinational cycle that begins with its least net
abbrev pub IsFaultOf : Netlist → LevelFault → Type 0
IsFaultOf net (faults.Loop nets) = IsCycle net (numbers nets) × BeginsLeast (numbers nets)
IsFaultOf net faults.NoMemory = ⊤
