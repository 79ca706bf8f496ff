use Rattle.std.proofs.Common.{◌≡◌, length}
use Rattle.grammar.specs.Rule.{repeat, separated}
use Rattle.vlog_parse.specs.Expressions.{is}
use Rattle.vlog_parse.specs.Readers.{rule_of, list_reader}
use Rattle.grammar.proofs.LoopLaws.{behind}
use Rattle.vlog_parse.proofs.parser.Parser.list.Given as goal

abbrev pub invariant-parts : goal.invariant-parts
invariant-parts g l =
    list_reader (is l.separator) g.P.Part.reader l.fn.self ≡ behind l.parts.items ((repeat (is l.separator) (separated (is l.separator) (rule_of g.P.Part.reader))).read l.self)

abbrev pub decreases-parts : goal.decreases-parts
decreases-parts g l = length l.self
