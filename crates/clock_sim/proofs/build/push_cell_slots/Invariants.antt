use Rattle.std.proofs.Common.{◌≡◌, ◌++◌, drop}
use Rattle.clock_sim.specs.Plan.{cell_slots}
use Rattle.clock_sim.proofs.build.push_cell_slots.Given as goal

-- what is pushed, and what is still to push, is all
abbrev pub invariant-loop-out : goal.invariant-loop-out
invariant-loop-out l =
    l.slots.items ++ cell_slots l.flat l.levels l.cell l.out (drop l.out l.outs) ≡ l.initial.slots.items ++ cell_slots l.flat l.levels l.cell 0 l.outs
