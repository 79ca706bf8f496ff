use Rattle.std.proofs.Common.{◌≡◌, take}
use Rattle.vlog_parse.proofs.params.copied.Given as goal

abbrev pub invariant-params : goal.invariant-params
invariant-params l = l.copy.items ≡ take l.param-index l.param-items
