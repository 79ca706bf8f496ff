use Rattle.std.proofs.Common.{◌≡◌, length}
use Rattle.grammar.specs.Rule.{repeat}
use Rattle.vlog_parse.specs.Readers.{rule_of, repeat_reader}
use Rattle.grammar.proofs.LoopLaws.{behind}
use Rattle.vlog_parse.proofs.parser.Parser.repeat.Given as goal

abbrev pub invariant-parts : goal.invariant-parts
invariant-parts g l =
    repeat_reader g.P.Repeated.opens g.P.Part.reader l.fn.self ≡ behind l.parts.items ((repeat g.P.Repeated.opens (rule_of g.P.Part.reader)).read l.self)

abbrev pub decreases-parts : goal.decreases-parts
decreases-parts g l = length l.self
