use Rattle.net_levels.specs.Needs.{Adds, IsNeeded}
use Rattle.net_levels.proofs.sources.add_needed.Given as goal

abbrev pub invariant-loop-input : goal.invariant-loop-input
invariant-loop-input l = Adds l.initial.sources.items l.sources.items (IsNeeded l.cell l.output l.input)
