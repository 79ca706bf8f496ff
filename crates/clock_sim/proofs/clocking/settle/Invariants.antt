use Rattle.std.proofs.Common.{◌≡◌, ℕ, List, length}
use Rattle.net_core.specs.Netlist.{Netlist}
use Rattle.clock_sim.specs.declared.plan.Slot.{Slot}
use Rattle.clock_sim.specs.Plan.{IsPlan, IsSettledTo}
use Rattle.clock_sim.proofs.clocking.settle.Given as goal

-- what holds so far, of whatever netlist this is the plan
abbrev pub invariant-loop-formula : goal.invariant-loop-formula
invariant-loop-formula l =
    (length l.values.items ≡ length l.initial.values.items)
    × ((net : Netlist) (rank : ℕ → ℕ) (slots : List Slot) → IsPlan net rank slots l.pins l.formulas → IsSettledTo net slots l.stored l.formula-index l.initial.values.items l.values.items)
