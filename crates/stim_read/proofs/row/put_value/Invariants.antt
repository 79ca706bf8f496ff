use Rattle.std.proofs.Common.{◌≡◌, ℕ, ◌+◌, ◌<◌, false, get_or}
use Rattle.stim_read.specs.Stimulus.{word_bits}
use Rattle.stim_read.proofs.row.put_value.Given as goal

-- the bits so far are those behind the padding
abbrev pub invariant-loop-at : goal.invariant-loop-at
invariant-loop-at l = (k : ℕ) → k < l.at → get_or l.value k false ≡ get_or (word_bits l.word) (l.padding + k) false
