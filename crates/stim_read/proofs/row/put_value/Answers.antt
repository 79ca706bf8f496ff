use Rattle.std.proofs.Common.{arith}
use Rattle.stim_read.proofs.Bits.{bits_behind}
use Rattle.stim_read.proofs.row.put_value.Goals as goal

pub returns : goal.returns
returns c =
    bits_behind c.args.word.now c.args.padding c.loop-at.value (omega arith)
    (λ k within. c.loop-at.invariant k (omega arith))
