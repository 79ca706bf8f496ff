use Rattle.std.proofs.Common.{◌≡◌, false, replicate, take}
use Rattle.stim_read.specs.Stimulus.{word_bits}
use Rattle.stim_read.proofs.row.is_padded.Given as goal

-- the bits so far are 0
abbrev pub invariant-loop-at : goal.invariant-loop-at
invariant-loop-at l = take l.at (word_bits l.word) ≡ replicate l.at false
