use Rattle.stim_read.proofs.Tails.{Read}
use Rattle.stim_read.proofs.row.read_tail.Given as goal

-- What is left is a tail for the fields that are left, exactly where the text is one for all, of each
-- row that agrees with the bits so far.
abbrev pub invariant-loop-field : goal.invariant-loop-field
invariant-loop-field l = Read l.fields l.field-index l.text l.rest l.fn.bits l.bits
