use Rattle.net_graph.specs.Components.{IsSplit, KeepsSeen, work}
use Rattle.net_graph.proofs.components.Split.run.Given as goal

abbrev pub ghost-turn : goal.ghost-turn
ghost-turn g a = g.end

abbrev pub invariant-loop-self : goal.invariant-loop-self
invariant-loop-self g l = record {
  split : IsSplit l.graph g.end l.self.stages.items l.self.members.items l.self.bounds.items l.self.path.items l.self.least;
  seen : KeepsSeen l.initial.self.stages.items l.self.stages.items;
}

abbrev pub decreases-loop-self : goal.decreases-loop-self
decreases-loop-self g l = work l.graph l.self.stages.items l.self.path.items
