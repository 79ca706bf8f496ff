use Rattle.std.proofs.Common.{◌≡◌, drop, find}
use Rattle.vlog_parse.specs.Parsing.{is_outside}
use Rattle.vlog_parse.proofs.source.first_outside.Given as goal

abbrev pub invariant-tokens : goal.invariant-tokens
invariant-tokens l = find (λ t. is_outside t.kind) l.tokens ≡ find (λ t. is_outside t.kind) (drop l.token-index l.tokens)
