use Rattle.std.proofs.Common.{[], refl}
use Rattle.std.specs.Prelude.{None}
use Rattle.std.proofs.lemmas.Result.{err_from_is_err_and}
use Rattle.vlog_lex.specs.Cutting.{too_long, cut}
use Rattle.vlog_lex.proofs.LexemeLaws.{reading_tokens}
use Rattle.vlog_lex.proofs.StepLaws.{reading_stops}
use Rattle.vlog_lex.proofs.TokenLaws.{tokens_rise, tokens_within, tokens_words}
use Rattle.vlog_lex.proofs.lexer.tokens.Goals as goal

pub returns-then-text-gt-FILE_BYTES-clause-refused : goal.returns-then-text-gt-FILE_BYTES-clause-refused
returns-then-text-gt-FILE_BYTES-clause-refused c = ([], too_long c.if-text-gt-FILE_BYTES.true refl refl)

pub returns-in_err-tokens-clause-refused : goal.returns-in_err-tokens-clause-refused
returns-in_err-tokens-clause-refused c =
    let p = err_from_is_err_and c.from_residual.result c.from_residual.ensures.1 in
    rw (p.1, p.2) (reading_stops c.args.text.now c.if-text-gt-FILE_BYTES.false _ c.in_err-tokens.ensures.refused)

pub returns-clause-found : goal.returns-clause-found
returns-clause-found c = cut c.in_ok-tokens.ensures.found.0 c.if-text-gt-FILE_BYTES.false c.in_ok-tokens.ensures.found.1 c.in_ok-tokens.ensures.found.2

pub returns-clause-within : goal.returns-clause-within
returns-clause-within c = rw c.in_ok-tokens.ensures.found.2 (tokens_within c.args.text.now c.in_ok-tokens.ensures.found.0 None c.in_ok-tokens.ensures.found.1)

pub returns-clause-rise : goal.returns-clause-rise
returns-clause-rise c = rw c.in_ok-tokens.ensures.found.2 (tokens_rise c.args.text.now c.in_ok-tokens.ensures.found.0 None c.in_ok-tokens.ensures.found.1)

pub returns-clause-words : goal.returns-clause-words
returns-clause-words c = rw c.in_ok-tokens.ensures.found.2 (tokens_words c.args.text.now c.in_ok-tokens.ensures.found.0 None c.in_ok-tokens.ensures.found.1)

pub returns-clause-whole : goal.returns-clause-whole
returns-clause-whole c = reading_tokens (cut c.in_ok-tokens.ensures.found.0 c.if-text-gt-FILE_BYTES.false c.in_ok-tokens.ensures.found.1 c.in_ok-tokens.ensures.found.2)
