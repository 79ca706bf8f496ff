use Rattle.std.proofs.Common.{◌≡◌, ◌+◌, ◌*◌, length}
use Rattle.grammar.specs.Rule.{list, repeat, separated}
use Rattle.grammar.proofs.LoopLaws.{behind}
use Rattle.tsm_parse.specs.declared.token.Sort.TheVariants.{AndAnd, OrOr}
use Rattle.tsm_parse.specs.Lexemes.{is}
use Rattle.tsm_parse.specs.Conditions.{all_over, part_within}
use Rattle.tsm_parse.proofs.parser.Parser.+part.Given as goal

abbrev pub decreases-part : goal.decreases-part
decreases-part l = 8 * l.room

abbrev pub decreases-next_part : goal.decreases-next_part
decreases-next_part l = 8 * l.room + 1

abbrev pub decreases-parts : goal.decreases-parts
decreases-parts l = 8 * l.room + 2

abbrev pub decreases-all : goal.decreases-all
decreases-all l = 8 * l.room + 3

abbrev pub decreases-next_all : goal.decreases-next_all
decreases-next_all l = 8 * l.room + 4

abbrev pub decreases-alls : goal.decreases-alls
decreases-alls l = 8 * l.room + 5

abbrev pub decreases-any : goal.decreases-any
decreases-any l = 8 * l.room + 6

abbrev pub decreases-bracketed : goal.decreases-bracketed
decreases-bracketed l = 8 * l.room + 7

abbrev pub invariant-parts-parts : goal.invariant-parts-parts
invariant-parts-parts l = (list (is AndAnd) (part_within l.room)).read l.fn.self ≡ behind l.parts.items ((repeat (is AndAnd) (separated (is AndAnd) (part_within l.room))).read l.self)

abbrev pub decreases-parts-parts : goal.decreases-parts-parts
decreases-parts-parts l = length l.self

abbrev pub invariant-alls-parts : goal.invariant-alls-parts
invariant-alls-parts l = (list (is OrOr) (all_over (part_within l.room))).read l.fn.self ≡ behind l.parts.items ((repeat (is OrOr) (separated (is OrOr) (all_over (part_within l.room)))).read l.self)

abbrev pub decreases-alls-parts : goal.decreases-alls-parts
decreases-alls-parts l = length l.self
