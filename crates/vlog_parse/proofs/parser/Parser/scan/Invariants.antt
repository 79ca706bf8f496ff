use Rattle.std.proofs.Common.{◌≡◌, ◌≤◌, true, false, length}
use Rattle.vlog_parse.specs.Limits.{first_excess, AreClean}
use Rattle.vlog_parse.proofs.parser.Parser.scan.Given as goal

abbrev pub invariant-tokens : goal.invariant-tokens
invariant-tokens l = record {
  same : first_excess 0 false l.fn.self ≡ first_excess l.counts.braces l.counts.index l.self;
  few : l.counts.braces ≤ 32;
  clean : l.clean ≡ true → AreClean l.self → AreClean l.fn.self;
}

abbrev pub decreases-tokens : goal.decreases-tokens
decreases-tokens l = length l.self
