use Rattle.std.proofs.Common.{List, [], length, sym, subst, arith}
use Rattle.std.specs.Prelude.{None}
use Rattle.tsm_parse.specs.declared.token.Token.{Token}
use Rattle.tsm_parse.specs.Tokens.{Cuts}
use Rattle.tsm_parse.specs.Lexemes.{AreWithin}
use Rattle.tsm_parse.proofs.SourceLaws.{within_each, tokens_refused, found_of, refused_of, read_of}
use Rattle.tsm_parse.proofs.source.program.Goals as goal

pub returns-in-Err-clause-refused : goal.returns-in-Err-clause-refused
returns-in-Err-clause-refused c = tokens_refused c.args.text.now c.in-Err.stop (omega (arith, c.if-text-gt-SMALL_FILE_BYTES.false)) c.in-Err.ensures.refused

pub read_program-requires-clause-within : goal.read_program-requires-clause-within
read_program-requires-clause-within c =
    let P : List Token → Type 0 = λ tokens. AreWithin (length c.args.text.now) tokens in
    subst P (sym c.as_slice.ensures.value) (within_each (length c.args.text.now) c.in-Ok.found.items c.in-Ok.ensures.within)

pub returns-clause-found : goal.returns-clause-found
returns-clause-found c =
    let P : List Token → Type 0 = λ tokens. Cuts [] c.args.text.now tokens None in
    found_of c.args.text.now c.as_slice.result.now c.read_program.result (subst P (sym c.as_slice.ensures.value) c.in-Ok.ensures.found) c.read_program.ensures.ok

pub returns-clause-refused : goal.returns-clause-refused
returns-clause-refused c =
    let P : List Token → Type 0 = λ tokens. Cuts [] c.args.text.now tokens None in
    refused_of c.args.text.now c.as_slice.result.now c.read_program.result (omega (arith, c.if-text-gt-SMALL_FILE_BYTES.false)) (subst P (sym c.as_slice.ensures.value) c.in-Ok.ensures.found) c.read_program.ensures.err

pub returns-clause-read : goal.returns-clause-read
returns-clause-read c =
    let P : List Token → Type 0 = λ tokens. Cuts [] c.args.text.now tokens None in
    read_of c.args.text.now c.read_program.result (omega (arith, c.if-text-gt-SMALL_FILE_BYTES.false))
    (found_of c.args.text.now c.as_slice.result.now c.read_program.result (subst P (sym c.as_slice.ensures.value) c.in-Ok.ensures.found) c.read_program.ensures.ok)
