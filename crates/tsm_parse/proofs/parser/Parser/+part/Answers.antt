use Rattle.std.proofs.Common.{sym, ◌∙◌}
use Rattle.grammar.specs.Rule.{separated}
use Rattle.grammar.proofs.LoopLaws.{part_taken}
use Rattle.tsm_parse.specs.declared.token.Sort.TheVariants.{AndAnd, OrOr}
use Rattle.tsm_parse.specs.Lexemes.{is}
use Rattle.tsm_parse.specs.Conditions.{all_over, part_within}
use Rattle.tsm_parse.proofs.PartLaws.{next_part_shrinks, next_all_shrinks}
use Rattle.tsm_parse.proofs.parser.Parser.+part.Goals as goal

pub parts-parts-smaller : goal.parts-parts-smaller
parts-parts-smaller t c = next_part_shrinks c.args.room c.parts.self c.next_part.new.self _ c.in_ok-part.ensures

pub parts-parts-preserved : goal.parts-parts-preserved
parts-parts-preserved t c =
    part_taken (is AndAnd) (separated (is AndAnd) (part_within c.args.room)) (next_part_shrinks c.args.room) _ c.parts.parts.items _ c.parts.self _ c.in_ok-part.part c.parts.invariant (sym c.sees.ensures ∙ c.parts-test.true) c.in_ok-part.ensures c.in_ok-push-2.ensures.items

pub alls-parts-smaller : goal.alls-parts-smaller
alls-parts-smaller t c = next_all_shrinks c.args.room c.parts.self c.next_all.new.self _ c.in_ok-part.ensures

pub alls-parts-preserved : goal.alls-parts-preserved
alls-parts-preserved t c =
    part_taken (is OrOr) (separated (is OrOr) (all_over (part_within c.args.room))) (next_all_shrinks c.args.room) _ c.parts.parts.items _ c.parts.self _ c.in_ok-part.part c.parts.invariant (sym c.sees.ensures ∙ c.parts-test.true) c.in_ok-part.ensures c.in_ok-push-2.ensures.items
