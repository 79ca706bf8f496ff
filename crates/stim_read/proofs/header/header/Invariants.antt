use Rattle.std.proofs.Common.{map}
use Rattle.stim_read.specs.Stimulus.{names_of}
use Rattle.stim_read.proofs.NumberLaws.{Taken}
use Rattle.stim_read.proofs.header.header.Given as goal

-- the words so far were found, each once
abbrev pub invariant-loop-word : goal.invariant-loop-word
invariant-loop-word l = Taken (names_of l.inputs) (map (λ word. word.now) l.word-items) l.word-index l.order.items l.numbers
