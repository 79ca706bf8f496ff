use Rattle.vlog_check.proofs.OneLaws as laws
use Rattle.vlog_check.proofs.laws.one_refusal.Goals as goal

pub returns : goal.returns
returns c = record { one = laws.one_refusal; none = laws.not_refused }
