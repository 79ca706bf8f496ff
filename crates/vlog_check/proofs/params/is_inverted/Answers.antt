use Rattle.vlog_check.proofs.ParamLaws.{inverted_none, inverted_some}
use Rattle.vlog_check.proofs.params.is_inverted.Goals as goal

pub returns-in-None : goal.returns-in-None
returns-in-None c = inverted_none c.args.name.now c.args.pin.now c.in-None.ensures

pub returns-in-Some : goal.returns-in-Some
returns-in-Some c = inverted_some c.args.name.now c.in-Some.middle.now c.args.pin.now c.eq.result c.in-Some.ensures c.eq.ensures
