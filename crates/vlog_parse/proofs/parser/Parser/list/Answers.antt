use Rattle.std.proofs.Common.{sym, ◌∙◌}
use Rattle.grammar.specs.Rule.{separated}
use Rattle.vlog_parse.specs.Expressions.{is}
use Rattle.vlog_parse.specs.Readers.{rule_of}
use Rattle.grammar.proofs.LoopLaws.{part_taken, separated_shrinks}
use Rattle.vlog_parse.proofs.parser.Parser.list.Goals as goal

pub parts-preserved : goal.parts-preserved
parts-preserved g c =
    part_taken (is c.args.separator) (separated (is c.args.separator) (rule_of g.P.Part.reader)) (separated_shrinks (is c.args.separator) (rule_of g.P.Part.reader) c.requires)
    _ _ _ _ _ _ c.parts.invariant (sym c.sees.ensures ∙ c.parts-test.true) c.in_ok-part.ensures c.in_ok-push-2.ensures.items
