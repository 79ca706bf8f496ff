use Rattle.std.proofs.Common.{◌≡◌, ◌+◌, ◌*◌, length}
use Rattle.grammar.specs.Rule.{repeat, separated}
use Rattle.vlog_parse.specs.declared.sort.Sort.TheVariants.{Comma}
use Rattle.vlog_parse.specs.Expressions.{is, args}
use Rattle.vlog_parse.specs.Skipping.{cut_within}
use Rattle.grammar.proofs.LoopLaws.{behind}
use Rattle.vlog_parse.proofs.parser.Parser.+expr.Given as goal

abbrev pub decreases-args : goal.decreases-args
decreases-args l = 3 * l.room + 1

abbrev pub decreases-concatenation : goal.decreases-concatenation
decreases-concatenation l = 3 * l.room + 2

abbrev pub decreases-expr : goal.decreases-expr
decreases-expr l = 3 * l.room

abbrev pub invariant-args-parts : goal.invariant-args-parts
invariant-args-parts l = (args (cut_within l.room)).read l.fn.self ≡ behind l.parts.items ((repeat (is Comma) (separated (is Comma) (cut_within l.room))).read l.self)

abbrev pub decreases-args-parts : goal.decreases-args-parts
decreases-args-parts l = length l.self
