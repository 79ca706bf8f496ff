use Rattle.std.proofs.Common.{◌≡◌, ◌+◌, drop}
use Rattle.std.specs.Prelude.{option_map}
use Rattle.vlog_lex.specs.Reading.{first_at}
use Rattle.vlog_lex.specs.Skipped.{is_endif}
use Rattle.vlog_lex.proofs.directive.first_endif.Given as goal

abbrev pub invariant-loop-at : goal.invariant-loop-at
invariant-loop-at l = first_at is_endif l.text ≡ option_map (λ n. l.at + n) (first_at is_endif (drop l.at l.text))
