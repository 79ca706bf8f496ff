use Rattle.std.proofs.Common.{◌≡◌, ◌≤◌, length, take, sum_by}
use Rattle.net_core.specs.declared.parts.Cell.{Cell}
use Rattle.clock_sim.specs.Plan.{base_of, AreRegisters}
use Rattle.clock_sim.proofs.build.push_registers.Given as goal

abbrev pub invariant-loop-cell : goal.invariant-loop-cell
invariant-loop-cell l =
    (l.base ≡ base_of l.cells l.cell-index) × (length l.places.items ≤ sum_by (λ (cell : Cell). length cell.ins) (take l.cell-index l.cells)) × AreRegisters (take l.cell-index l.cells) l.places.items l.registers.items
