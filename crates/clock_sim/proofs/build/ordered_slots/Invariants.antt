use Rattle.std.proofs.Common.{◌≡◌, ◌++◌, drop}
use Rattle.clock_sim.specs.Plan.{all_slots}
use Rattle.clock_sim.proofs.build.ordered_slots.Given as goal

abbrev pub invariant-loop-number : goal.invariant-loop-number
invariant-loop-number l =
    l.slots.items ++ all_slots l.flat l.levels l.number (drop l.number l.flat.cells) ≡ all_slots l.flat l.levels 0 l.flat.cells
