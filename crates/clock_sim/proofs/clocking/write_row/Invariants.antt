use Rattle.clock_sim.specs.Plan.{WritesRow}
use Rattle.clock_sim.specs.Reading.{read_all}
use Rattle.clock_sim.proofs.clocking.write_row.Given as goal

abbrev pub invariant-loop-bit : goal.invariant-loop-bit
invariant-loop-bit l = WritesRow l.start l.last l.bit (read_all l.values l.own) l.initial.stored l.stored
