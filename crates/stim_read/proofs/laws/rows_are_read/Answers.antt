use Rattle.stim_read.specs.ReadLaws.{read_header, read_row}
use Rattle.stim_read.proofs.laws.rows_are_read.Goals as goal

pub returns : goal.returns
returns c = record { begun = read_header; more = read_row }
