use Rattle.std.proofs.Common.{◌≡◌, ℕ, ◌<◌, slice_get, Some, []}
use Rattle.net_graph.specs.declared.search.Visit.TheVariants.{New}
use Rattle.net_graph.specs.Search.{IsSearch}
use Rattle.net_graph.proofs.order.search_all.Given as goal

abbrev pub invariant-loop-root : goal.invariant-loop-root
invariant-loop-root l = record {
  search : IsSearch l.graph.starts.items l.graph.sources.items l.search.visits.items l.search.path.items l.search.found;
  empty : l.search.path.items ≡ [];
  seen : (n : ℕ) → n < l.root → slice_get l.search.visits.items n ≡ Some New → ⊥;
}
