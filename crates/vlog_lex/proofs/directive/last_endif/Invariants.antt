use Rattle.std.proofs.Common.{◌≡◌, ℕ, ◌<◌, ◌≤◌, drop, false}
use Rattle.vlog_lex.specs.Skipped.{is_endif}
use Rattle.vlog_lex.proofs.directive.last_endif.Given as goal

abbrev pub invariant-loop-at : goal.invariant-loop-at
invariant-loop-at l = (k : ℕ) → l.last ≤ k → k < l.at → is_endif (drop k l.text) ≡ false
