use Rattle.vlog_check.proofs.OneLaws as laws
use Rattle.vlog_check.proofs.laws.one_finding.Goals as goal

pub returns : goal.returns
returns c = laws.one_finding
