use Rattle.net_levels.proofs.RankLemmas.{has_ranks}
use Rattle.net_levels.proofs.SettleLemmas.{one_run}
use Rattle.net_levels.proofs.laws.without_cycle.Goals as goal

pub returns-clause-ranks : goal.returns-clause-ranks
returns-clause-ranks c = has_ranks

pub returns-clause-one_run : goal.returns-clause-one_run
returns-clause-one_run c = λ net flat none. let own = has_ranks net flat none in one_run net flat own.0 own.1
