use Rattle.vlog_check.specs.Found.{FindsAmong}
use Rattle.vlog_check.specs.FindingPins.{FindsParameter, FindsInConns, FindsLacking, FindsMissing}
use Rattle.vlog_check.specs.Kinds.{kind_seen}
use Rattle.vlog_check.specs.Scope.{pin_names}
use Rattle.vlog_check.proofs.LeastLaws.{least_in_turns}
use Rattle.vlog_check.proofs.whole.find_in_kind.Goals as goal

pub returns : goal.returns
returns c =
    let m = c.args.names.now.module.now in
    let i = c.args.i.now in
    let kind = kind_seen c.args.kind.now in
    least_in_turns (FindsAmong (FindsParameter i kind) i.params) (FindsInConns m i kind i.conns) (FindsLacking i kind) (FindsAmong (FindsMissing i kind) (pin_names kind))
    c.in_ok-best.best c.in_ok-given.conns c.in_ok-lacking.lacking c.in_ok-missing.missing c.keep_earlier.new.best c.keep_earlier-2.new.best c.keep_earlier-3.new.best
    c.in_ok-best.ensures c.in_ok-given.ensures.least c.in_ok-lacking.ensures c.in_ok-missing.ensures c.keep_earlier.ensures c.keep_earlier-2.ensures c.keep_earlier-3.ensures
