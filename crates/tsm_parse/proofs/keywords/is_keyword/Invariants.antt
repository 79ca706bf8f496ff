use Rattle.std.proofs.Common.{◌≡◌}
use Rattle.tsm_parse.specs.Words.{is_keyword}
use Rattle.tsm_parse.proofs.Scanning.{left_same}
use Rattle.tsm_parse.proofs.keywords.is_keyword.Given as goal

abbrev pub invariant-loop-at : goal.invariant-loop-at
invariant-loop-at l = is_keyword l.keyword l.bytes ≡ left_same l.keyword l.bytes l.at
