use Rattle.vlog_parse.proofs.SiteLaws as laws
use Rattle.vlog_parse.proofs.laws.own_places.Goals as goal

pub returns : goal.returns
returns c = laws.own_places
