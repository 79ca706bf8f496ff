use Rattle.std.proofs.Common.{◌≡◌, length}
use Rattle.grammar.specs.Rule.{repeat}
use Rattle.grammar.proofs.LoopLaws.{behind}
use Rattle.tsm_parse.specs.Lexemes.{of_sort}
use Rattle.tsm_parse.specs.Programs.{is_act, action}
use Rattle.tsm_parse.proofs.parser.Parser.actions.Given as goal

abbrev pub invariant-actions : goal.invariant-actions
invariant-actions l = (repeat (of_sort is_act) action).read l.fn.self ≡ behind l.actions.items ((repeat (of_sort is_act) action).read l.self)

abbrev pub decreases-actions : goal.decreases-actions
decreases-actions l = length l.self
