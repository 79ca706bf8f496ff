use Rattle.std.proofs.Common.{sym, ◌∙◌}
use Rattle.vlog_parse.specs.Readers.{rule_of}
use Rattle.grammar.proofs.LoopLaws.{part_taken}
use Rattle.vlog_parse.proofs.parser.Parser.repeat.Goals as goal

pub parts-preserved : goal.parts-preserved
parts-preserved g c =
    part_taken g.P.Repeated.opens (rule_of g.P.Part.reader) c.requires
    _ _ _ _ _ _ c.parts.invariant (sym c.is_next.ensures ∙ c.parts-test.true) c.in_ok-part.ensures c.in_ok-push.ensures.items
