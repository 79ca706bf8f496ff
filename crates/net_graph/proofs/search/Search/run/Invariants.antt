use Rattle.net_graph.specs.Search.{IsSearch, KeepsSeen, work}
use Rattle.net_graph.proofs.search.Search.run.Given as goal

abbrev pub invariant-loop-step : goal.invariant-loop-step
invariant-loop-step l = record {
  search : IsSearch l.graph.starts.items l.graph.sources.items l.self.visits.items l.self.path.items l.self.found;
  seen : KeepsSeen l.initial.self.visits.items l.self.visits.items;
}

abbrev pub decreases-loop-step : goal.decreases-loop-step
decreases-loop-step l = work l.graph.sources.items l.self.visits.items l.self.path.items
