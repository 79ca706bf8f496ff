use Rattle.vlog_check.specs.Contained.{AreInner}
use Rattle.vlog_check.proofs.contained.inner_graph.Given as goal

abbrev pub invariant-loop-m : goal.invariant-loop-m
invariant-loop-m l = AreInner l.scope.tree.now l.m-index l.starts.items l.sources.items
