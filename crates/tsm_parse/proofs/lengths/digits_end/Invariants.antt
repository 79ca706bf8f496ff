use Rattle.std.proofs.Common.{◌≡◌, ◌≤◌, drop}
use Rattle.tsm_parse.specs.Reading.{digits_end}
use Rattle.tsm_parse.proofs.Scanning.{joined}
use Rattle.tsm_parse.proofs.lengths.digits_end.Given as goal

abbrev pub invariant-loop-at : goal.invariant-loop-at
invariant-loop-at l = record {
  behind : l.end ≤ l.at;
  ends : digits_end l.base l.text ≡ joined l.end l.at (digits_end l.base (drop l.at l.text));
}
