use Rattle.std.proofs.Common.{◌≡◌, ◌+◌, drop}
use Rattle.std.specs.Prelude.{option_map}
use Rattle.vlog_lex.specs.Closed.{closed_length}
use Rattle.vlog_lex.proofs.closed.closed_length.Given as goal

abbrev pub invariant-loop-at : goal.invariant-loop-at
invariant-loop-at l = closed_length l.fn.start l.bytes ≡ option_map (λ n. l.at + n) (closed_length l.inside (drop l.at l.bytes))
