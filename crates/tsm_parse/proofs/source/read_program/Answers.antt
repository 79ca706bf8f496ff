use Rattle.std.proofs.Common.{sym, ◌∙◌, ap}
use Rattle.tsm_parse.specs.Lexemes.{lexemes}
use Rattle.tsm_parse.specs.Programs.{program}
use Rattle.grammar.proofs.FaultLaws.{gives_stuck}
use Rattle.tsm_parse.proofs.SourceLaws.{read_is_program, syntax_fault}
use Rattle.tsm_parse.proofs.source.read_program.Goals as goal

pub returns-in-Ok-clause-ok : goal.returns-in-Ok-clause-ok
returns-in-Ok-clause-ok c =
    read_is_program (lexemes c.args.text.now c.args.tokens.now) c.program.new.self c.in-Ok.ast (sym (ap program.read c.new-parser.ensures) ∙ c.in-Ok.ensures)

pub returns-in-Err-Syntax-clause-err : goal.returns-in-Err-Syntax-clause-err
returns-in-Err-Syntax-clause-err c =
    syntax_fault c.args.text.now c.args.tokens.now c.program.new.self c.place_or_end.result
    (sym (ap program.read c.new-parser.ensures)
    ∙ gives_stuck program c.new-parser.result c.program.new.self c.in-Err-Syntax.field-0 c.in-Err-Syntax.ensures c.in-Err-Syntax.field-0-is)
    (c.place_or_end.ensures c.program.new.self c.place.ensures)
