use Rattle.std.proofs.Common.{sym, ◌∙◌}
use Rattle.stim_read.proofs.Bits.{word_bits_at}
use Rattle.stim_read.proofs.row.bit_of_word.Goals as goal

pub returns : goal.returns
returns c = c.bit_of_digit.ensures ∙ sym (word_bits_at c.args.word.now c.args.at c.requires)
