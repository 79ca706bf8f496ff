use Rattle.std.proofs.Common.{◌≡◌, ◌++◌, map, take}
use Rattle.elab_design.specs.Design.{word_bits}
use Rattle.elab_unfold.specs.Places.{bit_pin}
use Rattle.elab_unfold.proofs.exprs.push_word.Given as goal

abbrev pub invariant-loop-k : goal.invariant-loop-k
invariant-loop-k l = l.out ≡ l.initial.out ++ map bit_pin (take l.k (word_bits l.word))
