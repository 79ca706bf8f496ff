use Rattle.std.proofs.Common.{◌≡◌, length}
use Rattle.grammar.specs.Rule.{repeat}
use Rattle.grammar.proofs.LoopLaws.{behind}
use Rattle.tsm_parse.specs.declared.token.Sort.TheVariants.{State}
use Rattle.tsm_parse.specs.Lexemes.{is}
use Rattle.tsm_parse.specs.Programs.{state, states}
use Rattle.tsm_parse.proofs.parser.Parser.states.Given as goal

abbrev pub invariant-states : goal.invariant-states
invariant-states l = states.read l.fn.self ≡ behind l.states.items ((repeat (is State) state).read l.self)

abbrev pub decreases-states : goal.decreases-states
decreases-states l = length l.self
