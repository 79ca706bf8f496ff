use Rattle.std.proofs.Common.{◌≡◌, ℕ, ◌<◌, slice_get, Some}
use Rattle.net_graph.specs.declared.search.Step.{Step}
use Rattle.net_graph.proofs.cycle.place_of.Given as goal

abbrev pub invariant-loop-i : goal.invariant-loop-i
invariant-loop-i l = (k : ℕ) (s : Step) → k < l.i → slice_get l.path k ≡ Some s → s.node ≡ l.node → ⊥
