use Rattle.stim_read.specs.RowLaws.{begun_taken, taken_more, taken_all}
use Rattle.stim_read.proofs.laws.rows_are_taken.Goals as goal

pub returns : goal.returns
returns c = record { begun = begun_taken; more = taken_more; all = taken_all; few = λ inputs text rows reading left has. has.few }
