use Rattle.std.proofs.Common.{sym, ◌∙◌}
use Rattle.grammar.proofs.LoopLaws.{part_taken}
use Rattle.tsm_parse.specs.Lexemes.{of_sort}
use Rattle.tsm_parse.specs.Programs.{is_act, action}
use Rattle.tsm_parse.proofs.ProgramLaws.{action_shrinks}
use Rattle.tsm_parse.proofs.parser.Parser.actions.Goals as goal

pub actions-smaller : goal.actions-smaller
actions-smaller c = action_shrinks c.actions.self c.action.new.self _ c.in_ok-action.ensures

pub actions-preserved : goal.actions-preserved
actions-preserved c =
    part_taken (of_sort is_act) action action_shrinks _ c.actions.actions.items _ c.actions.self _ c.in_ok-action.action c.actions.invariant (sym c.sees_act.ensures ∙ c.actions-test.true) c.in_ok-action.ensures c.in_ok-push.ensures.items
