use Rattle.std.proofs.Common.{◌≡◌, drop, is_some}
use Rattle.vlog_check.specs.Scope.{value_of}
use Rattle.vlog_check.proofs.seen.has_name.Given as goal

abbrev pub invariant-loop-own : goal.invariant-loop-own
invariant-loop-own g l = is_some (value_of (drop l.own-index l.given) l.name) ≡ is_some (value_of l.given l.name)
