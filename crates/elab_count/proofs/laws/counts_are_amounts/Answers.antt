use Rattle.elab_count.proofs.WholeLaws.{table_counts}
use Rattle.elab_count.proofs.laws.counts_are_amounts.Goals as goal

pub returns : goal.returns
returns c = λ d number table checked there counts kind n count. table_counts d checked number table counts there kind n count
