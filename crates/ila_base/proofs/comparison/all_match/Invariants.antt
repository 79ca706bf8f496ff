use Rattle.std.proofs.Common.{◌≡◌, drop}
use Rattle.ila_base.specs.Comparison.{all_match}
use Rattle.ila_base.proofs.comparison.all_match.Given as goal

abbrev pub invariant-loop-digit : goal.invariant-loop-digit
invariant-loop-digit l = all_match (drop l.digit-index l.digits) l.was l.is ≡ all_match l.fn.digits l.fn.before l.fn.now
