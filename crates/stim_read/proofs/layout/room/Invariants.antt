use Rattle.std.proofs.Common.{◌≡◌, ◌+◌, length, take}
use Rattle.std.specs.Prelude.{sum_by}
use Rattle.stim_read.specs.Stimulus.{digits_of}
use Rattle.stim_read.proofs.layout.room.Given as goal

-- the sums so far
abbrev pub invariant-loop-input : goal.invariant-loop-input
invariant-loop-input l = record {
  names : l.names ≡ sum_by (λ input. length input.name + 1) (take l.input-index l.inputs);
  words : l.words ≡ sum_by (λ input. digits_of input.width + 1) (take l.input-index l.inputs);
}
