use Rattle.std.proofs.Common.{List, sym, subst}
use Rattle.std.specs.Prelude.{None}
use Rattle.std.proofs.lemmas.Result.{err_from_is_err_and}
use Rattle.vlog_lex.specs.declared.token.Token.{Token}
use Rattle.vlog_lex.specs.Cutting.{IsReading}
use Rattle.ila_top.proofs.Refused.{tokens_refused, parse_refused_by}
use Rattle.ila_top.proofs.netlist.tree_of.Goals as goal

pub returns-in_err-tokens-clause-refused : goal.returns-in_err-tokens-clause-refused
returns-in_err-tokens-clause-refused c = λ top clock.
    let p = err_from_is_err_and c.from_residual.result c.from_residual.ensures.1 in
    rw (p.1, p.2) (tokens_refused c.args.bytes.now top clock _ c.in_err-tokens.ensures.refused)

pub returns-clause-refused : goal.returns-clause-refused
returns-clause-refused c = λ top clock.
    let R : List Token → Type 0 = λ tokens. IsReading c.args.bytes.now tokens None in
    let reading : IsReading c.args.bytes.now c.as_slice.result.now None = subst R (sym c.as_slice.ensures.value) c.in_ok-tokens.ensures.found in
    parse_refused_by c.args.bytes.now top clock c.as_slice.result.now c.parse.result reading c.parse.ensures.refused
