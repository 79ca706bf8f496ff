use Rattle.std.proofs.Common.{◌≡◌, map, take}
use Rattle.clock_sim.specs.declared.plan.Row.{Row}
use Rattle.clock_sim.proofs.build.first_bits.Given as goal

abbrev pub invariant-loop-row : goal.invariant-loop-row
invariant-loop-row l = l.bases.items ≡ map (λ (row : Row). row.base) (take l.row-index l.rows)
