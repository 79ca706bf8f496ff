use Rattle.std.proofs.Common.{◌≡◌, List, [], ◌∷◌, ◌++◌, ap, sym, ◌∙◌}
use Rattle.tsm_parse.specs.declared.types.AstState.{AstState}
use Rattle.grammar.proofs.LoopLaws.{part_taken}
use Rattle.tsm_parse.specs.declared.token.Sort.TheVariants.{State}
use Rattle.tsm_parse.specs.Lexemes.{is}
use Rattle.tsm_parse.specs.Programs.{state}
use Rattle.tsm_parse.proofs.ProgramLaws.{state_shrinks, states_begin}
use Rattle.tsm_parse.proofs.parser.Parser.states.Goals as goal

pub states-smaller : goal.states-smaller
states-smaller c = state_shrinks c.states.self c.state-in-states.new.self _ c.in_ok-state.ensures

pub states-preserved : goal.states-preserved
states-preserved c =
    part_taken (is State) state state_shrinks _ c.states.states.items _ c.states.self _ c.in_ok-state.state c.states.invariant (sym c.sees.ensures ∙ c.states-test.true) c.in_ok-state.ensures c.in_ok-push-2.ensures.items

pub states-init : goal.states-init
states-init c =
    let one : c.push.new.self.items ≡ c.in_ok-first.first ∷ [] = c.in_ok-push.ensures.items ∙ ap (λ (done : List AstState). done ++ c.in_ok-first.first ∷ []) c.new-states.ensures.items in
    states_begin c.args.self.now c.state.new.self c.in_ok-first.first c.push.new.self.items c.in_ok-first.ensures one
