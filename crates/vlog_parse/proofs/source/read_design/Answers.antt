use Rattle.std.proofs.Common.{sym, ◌∙◌, ap}
use Rattle.vlog_parse.specs.Lexemes.{lexemes}
use Rattle.vlog_parse.specs.Design.{design_over}
use Rattle.vlog_parse.specs.Skipping.{cut}
use Rattle.grammar.proofs.FaultLaws.{gives_stuck}
use Rattle.vlog_parse.proofs.ParseLaws.{read_is_cut}
use Rattle.vlog_parse.proofs.source.read_design.Goals as goal

pub returns-in-Ok-clause-ok : goal.returns-in-Ok-clause-ok
returns-in-Ok-clause-ok c =
    read_is_cut (lexemes c.args.text.now c.args.tokens.now) c.design.new.self c.in-Ok.tree (sym (ap (design_over cut).read c.new-parser.ensures) ∙ c.in-Ok.ensures)

pub returns-in-Err-Syntax-clause-err : goal.returns-in-Err-Syntax-clause-err
returns-in-Err-Syntax-clause-err c =
    c.refused_at.ensures c.design.new.self
    (sym (ap (design_over cut).read c.new-parser.ensures)
    ∙ gives_stuck (design_over cut) c.new-parser.result c.design.new.self c.in-Err-Syntax.field-0 c.in-Err-Syntax.ensures c.in-Err-Syntax.field-0-is)
    (c.place_or_end-place.ensures c.design.new.self c.place.ensures)
