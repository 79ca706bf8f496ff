use Rattle.std.proofs.Common.{◌≡◌, ◌+◌, ◌≤◌, length}
use Rattle.vlog_parse.specs.Skipping.{wanting, left}
use Rattle.vlog_parse.proofs.parser.Parser.skip_expr.Given as goal

abbrev pub invariant-turns : goal.invariant-turns
invariant-turns l = ((wanting 0).read l.fn.self ≡ (left l.skip.wants l.skip.depth).read l.self) × (l.skip.depth + length l.self ≤ l.limit)

abbrev pub decreases-turns : goal.decreases-turns
decreases-turns l = length l.self
