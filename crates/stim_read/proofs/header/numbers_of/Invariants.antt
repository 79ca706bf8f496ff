use Rattle.stim_read.specs.Stimulus.{names_of}
use Rattle.stim_read.specs.Numbers.{Numbers}
use Rattle.stim_read.proofs.header.numbers_of.Given as goal

-- the names so far have their numbers
abbrev pub invariant-loop-number : goal.invariant-loop-number
invariant-loop-number l = Numbers (names_of l.inputs) l.number l.numbers
