use Rattle.std.proofs.Common.{sym, ◌∙◌, arith}
use Rattle.stim_read.proofs.Bits.{length-word_bits, padded_more}
use Rattle.stim_read.specs.Stimulus.{word_bits}
use Rattle.stim_read.proofs.row.is_padded.Goals as goal

pub loop-at-preserved : goal.loop-at-preserved
loop-at-preserved c =
    padded_more (word_bits c.args.word.now) c.loop-at.at (omega (arith, length-word_bits c.args.word.now))
    c.loop-at.invariant (sym c.bit_of_word.ensures ∙ c.if-bit_of_word.false)
