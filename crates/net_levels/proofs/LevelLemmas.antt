-- From the order of the graph to the levels of the netlist, or to its cycle.
use Rattle.std.proofs.Common.{◌≡◌, ℕ, List, length, slice_index, ap, sym, ◌∙◌, subst, ◌↔◌}
use Rattle.net_core.specs.declared.parts.NetId.{NetId}
use Rattle.net_core.specs.Netlist.{Netlist, net_count, numbers}
use Rattle.net_core.specs.WellFormed.{IsFlat}
use Rattle.net_core.specs.Cycle.{Feeds, IsCycle, IsRanked, HasCycle}
use Rattle.net_graph.specs.Graph as graph
use Rattle.net_levels.specs.Laws.{ranked_has_no_cycle}
use Rattle.net_graph.specs.Lists.{BeginsLeast}
use Rattle.net_levels.specs.Levels.{AreLevels, HasOneRun}
use Rattle.net_levels.proofs.SettleLemmas.{one_run}

module _ (net : Netlist) (leads : ℕ → ℕ → Type 0) (edges : (m n : ℕ) → leads m n ↔ Feeds net m n) where
  pub ranked_net : (ranks : List ℕ) → graph.IsRanked leads (slice_index ranks) → IsRanked net (slice_index ranks)
  ranked_net ranks ranked m n feeds = ranked m n ((edges m n).1 feeds)

  pub levels_from : (levels ranks : List ℕ) (count : ℕ) → levels ≡ ranks → count ≡ net_count net.groups
      → (length ranks ≡ count) × graph.IsRanked leads (slice_index ranks) → AreLevels net levels
  levels_from levels ranks count same size order = record {
    size = ap length same ∙ order.0 ∙ size;
    ranked = subst (λ (xs : List ℕ). IsRanked net (slice_index xs)) (sym same) (ranked_net ranks order.1);
  }

  pub no_cycle_from : (ranks : List ℕ) → graph.IsRanked leads (slice_index ranks) → HasCycle net → ⊥
  no_cycle_from ranks ranked = ranked_has_no_cycle net (slice_index ranks) (ranked_net ranks ranked)

  pub one_run_from : IsFlat net → (ranks : List ℕ) → graph.IsRanked leads (slice_index ranks) → HasOneRun net
  one_run_from flat ranks ranked = one_run net flat (slice_index ranks) (ranked_net ranks ranked)

  cycle_net : (nodes : List ℕ) → graph.IsCycle leads nodes → IsCycle net nodes
  cycle_net nodes cycle = record {
    nonempty = cycle.nonempty;
    distinct = cycle.distinct;
    next = λ i m n here there. (edges m n).0 (cycle.next i m n here there);
    first = λ i m n last here there. (edges m n).0 (cycle.first i m n last here there);
  }

  pub fault_from : (nets : List NetId) (nodes : List ℕ) → numbers nets ≡ nodes → graph.IsCycle leads nodes × BeginsLeast nodes
      → IsCycle net (numbers nets) × BeginsLeast (numbers nets)
  fault_from nets nodes same order =
      (subst (λ (xs : List ℕ). IsCycle net xs) (sym same) (cycle_net nodes order.0), subst (λ (xs : List ℕ). BeginsLeast xs) (sym same) order.1)
