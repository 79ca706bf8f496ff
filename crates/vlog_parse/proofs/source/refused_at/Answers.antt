use Rattle.vlog_parse.specs.Parsing.{syntax_of}
use Rattle.vlog_parse.proofs.ParseLaws.{syntax_fault, stops_for_construct}
use Rattle.vlog_parse.proofs.source.refused_at.Goals as goal

pub returns-in-Err : goal.returns-in-Err
returns-in-Err c = λ rest stuck is. stops_for_construct c.args.text.now c.args.tokens.now c.in-Err.stop c.in-Err.ensures.err

pub returns-in-Ok : goal.returns-in-Ok
returns-in-Ok c = λ rest stuck is. syntax_of (syntax_fault c.args.text.now c.args.tokens.now rest c.args.place c.in-Ok.ensures.ok stuck is)
