use Rattle.std.proofs.Common.{sym, ◌∙◌}
use Rattle.vlog_parse.specs.declared.sort.Sort.TheVariants.{Comma}
use Rattle.vlog_parse.specs.Expressions.{is}
use Rattle.vlog_parse.proofs.CutLaws.{next_part, next_shrinks, next_took}
use Rattle.grammar.proofs.LoopLaws.{part_taken}
use Rattle.vlog_parse.proofs.parser.Parser.+expr.Goals as goal

pub args-parts-smaller : goal.args-parts-smaller
args-parts-smaller t c = next_shrinks c.args.room c.parts.self c.expr-in-parts.new.self _ (next_took c.args.room c.parts.self c.mark.new.self c.expr-in-parts.new.self c.in_ok-mark.field-0 c.in_ok-part.part c.in_ok-mark.ensures c.in_ok-part.ensures)

pub args-parts-preserved : goal.args-parts-preserved
args-parts-preserved t c =
    part_taken (is Comma) (next_part c.args.room) (next_shrinks c.args.room) _ c.parts.parts.items _ c.parts.self _ c.in_ok-part.part
    c.parts.invariant (sym c.sees.ensures ∙ c.parts-test.true) (next_took c.args.room c.parts.self c.mark.new.self c.expr-in-parts.new.self c.in_ok-mark.field-0 c.in_ok-part.part c.in_ok-mark.ensures c.in_ok-part.ensures) c.in_ok-push-2.ensures.items
