-- Where numbers rise along the edges there is no cycle. So of the two answers of a search at most one can be given.
use Rattle.std.specs.Prelude.{◌≡◌, ℕ, zero, suc, ◌+◌, ◌-◌, ◌<◌, ◌≤◌, List, length, slice_get, Some}
use Rattle.std.proofs.Common.{arith, get_or, ◌∙◌, ap}
use Rattle.std.proofs.lemmas.Option.{slice_get-get_or}
use Rattle.net_graph.specs.Graph.{IsRanked, IsCycle}

module _ (leads : ℕ → ℕ → Type 0) (rank : ℕ → ℕ) (ranked : IsRanked leads rank) (nodes : List ℕ) (cycle : IsCycle leads nodes) where
  at : (i : ℕ) → i < length nodes → slice_get nodes i ≡ Some (get_or nodes i 0)
  at i low = slice_get-get_or nodes i 0 low

  rises : (i : ℕ) → i < length nodes → rank (get_or nodes 0 0) ≤ rank (get_or nodes i 0)
  rises zero low = omega arith
  rises (suc i) low =
      let step : rank (get_or nodes i 0) < rank (get_or nodes (suc i) 0) =
      ranked _ _ (cycle.next i (get_or nodes i 0) (get_or nodes (suc i) 0) (at i (omega arith)) (let e : i + 1 ≡ suc i = omega arith in ap (slice_get nodes) e ∙ at (suc i) low)) in
      omega (arith, step, rises i (omega arith))

  pub ranked_has_no_cycle : ⊥
  ranked_has_no_cycle =
      let low : length nodes - 1 < length nodes = omega (arith, cycle.nonempty) in
      let back : rank (get_or nodes (length nodes - 1) 0) < rank (get_or nodes 0 0) =
      ranked _ _ (cycle.first (length nodes - 1) _ _ (omega (arith, cycle.nonempty)) (at (length nodes - 1) low) (at 0 cycle.nonempty)) in
      omega (arith, back, rises (length nodes - 1) low)
