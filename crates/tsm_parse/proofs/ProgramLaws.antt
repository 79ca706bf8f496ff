-- The rules of trigger programs are exact: so a text stands for at most one tree, and its syntax is refused at one token.
use Rattle.std.specs.Prelude.{◌≡◌, refl, ℕ, zero, suc, true, false, List, [], ◌∷◌, None}
use Rattle.std.proofs.Common.{sym, ◌∙◌, ap}
use Rattle.ila_base.specs.declared.compare.Op.{Op}
use Rattle.ila_base.specs.declared.place.Place.{Place}
use Rattle.grammar.specs.Rule.{Rule, continue, repeat, Shrinks}
use Rattle.grammar.specs.Rule.Outcome.{Took}
use Rattle.grammar.proofs.LoopLaws.{behind}
use Rattle.grammar.specs.Good.{Sight, sees, anything, at_end, or_else, Good}
use Rattle.grammar.proofs.Outcomes.{no_end}
use Rattle.grammar.proofs.TokenLaws.{term_good, token_good, pure_good, end_good}
use Rattle.grammar.proofs.SequenceLaws.{then_good}
use Rattle.grammar.proofs.ChoiceLaws.{widened, either_good, optional_good}
use Rattle.grammar.proofs.RepeatLaws.{HasNoEmpty, shrinks_by, repeat_good}
use Rattle.grammar.proofs.ListLaws.{list_good}
use Rattle.grammar.proofs.SortLaws.{within, excludes}
use Rattle.tsm_parse.specs.declared.parts.Body.{Body}
use Rattle.tsm_parse.specs.declared.parts.Branch.{Branch}
use Rattle.tsm_parse.specs.declared.parts.Named.{Named}
use Rattle.tsm_parse.specs.declared.parts.Valued.{Valued}
use Rattle.tsm_parse.specs.declared.token.Sort.{Sort}
use Rattle.tsm_parse.specs.declared.token.Sort.TheVariants.{Name, State, If, Then, ElseIf, Else, EndIf, Goto, Trigger, SetFlag, Register, Constant, Colon, Semicolon, LeftParenthesis, RightParenthesis, Equal, AndAnd, OrOr}
use Rattle.tsm_parse.specs.declared.types.Act.{Act}
use Rattle.tsm_parse.specs.declared.types.Ast.{Ast}
use Rattle.tsm_parse.specs.declared.types.AstBlock.{AstBlock}
use Rattle.tsm_parse.specs.declared.types.AstFormula.{AstFormula}
use Rattle.tsm_parse.specs.declared.types.AstState.{AstState}
use Rattle.tsm_parse.specs.declared.types.End.{End}
use Rattle.tsm_parse.specs.Lexemes.{Lexeme, is, of_sort, same}
use Rattle.tsm_parse.specs.Conditions.{mark, named, name, register, is_left, left, valued, constant, is_operator, token_op, operator, left_first, constant_first, comparison, all_over, any_over, bracketed, part_within, condition}
use Rattle.tsm_parse.specs.Programs.{is_act, token_act, act, action, goto_end, trigger_end, block, branch, else_if, else_block, if_body, plain_body, body, state, states, program}
use Rattle.tsm_parse.proofs.SortLaws.{sorts, sample}

same_itself : (s : Sort) → same s s ≡ true
same_itself s = sorts.holds (λ x. same x x) refl s

mark_good : (s : Sort) → Good Lexeme (Unit {0}) (sees (is s)) anything (mark s)
mark_good s = token_good (is s) (sample s) (same_itself s)

name_good : Good Lexeme Named (sees (is Name)) anything name
name_good = term_good (is Name) named (sample Name) refl

register_good : Good Lexeme Named (sees (is Register)) anything register
register_good = term_good (is Register) named (sample Register) refl

-- Conditions

abbrev pub begins_left : Sight Lexeme
begins_left = sees (of_sort is_left)

left_good : Good Lexeme Named begins_left anything left
left_good = term_good (of_sort is_left) named (sample Name) refl

constant_good : Good Lexeme Valued (sees (is Constant)) anything constant
constant_good = term_good (is Constant) valued (sample Constant) refl

operator_good : Good Lexeme Op (sees (of_sort is_operator)) anything operator
operator_good = term_good (of_sort is_operator) token_op (sample Equal) refl

left_first_good : Good Lexeme AstFormula begins_left anything left_first
left_first_good =
    then_good _ _ left_good (λ n. then_good _ _ operator_good (λ op. then_good _ _ constant_good (λ c. pure_good _ anything) (λ o e. refl)) (λ o e. refl)) (λ o e. refl)

constant_first_good : Good Lexeme AstFormula (sees (is Constant)) anything constant_first
constant_first_good =
    then_good _ _ constant_good (λ c. then_good _ _ operator_good (λ op. then_good _ _ left_good (λ n. pure_good _ anything) (λ o e. refl)) (λ o e. refl)) (λ o e. refl)

abbrev pub begins_comparison : Sight Lexeme
begins_comparison = or_else (sees (is Constant)) begins_left

comparison_good : Good Lexeme AstFormula begins_comparison anything comparison
comparison_good = either_good (is Constant) _ _ constant_first_good left_first_good (λ o e. e) (excludes sorts (is Constant) begins_left (λ t. refl) (λ t. refl) refl)

-- what may follow a part, and what may follow all parts: no `&&`, and no `||`
abbrev pub begins_part : Sight Lexeme
begins_part = or_else (sees (is LeftParenthesis)) begins_comparison

abbrev pub or_or_close : Sight Lexeme
or_or_close = or_else (sees (is OrOr)) (sees (is RightParenthesis))

pub all_good : (part : Rule Lexeme AstFormula) → Good Lexeme AstFormula begins_part anything part → Good Lexeme AstFormula begins_part or_or_close (all_over part)
all_good part good =
    then_good _ _
    (list_good or_or_close (is AndAnd) (sample AndAnd) refl part good (λ o e. refl) (λ o e. refl) (excludes sorts (is AndAnd) or_or_close (λ t. refl) (λ t. refl) refl))
    (λ parts. pure_good _ or_or_close) (λ o e. e)

any_good : (part : Rule Lexeme AstFormula) → Good Lexeme AstFormula begins_part anything part → Good Lexeme AstFormula begins_part (sees (is RightParenthesis)) (any_over part)
any_good part good =
    then_good _ _
    (list_good (sees (is RightParenthesis)) (is OrOr) (sample OrOr) refl (all_over part) (all_good part good)
    (within sorts (sees (is OrOr)) or_or_close (λ t. refl) (λ t. refl) refl refl) (within sorts (sees (is RightParenthesis)) or_or_close (λ t. refl) (λ t. refl) refl refl)
    (excludes sorts (is OrOr) (sees (is RightParenthesis)) (λ t. refl) (λ t. refl) refl))
    (λ parts. pure_good _ (sees (is RightParenthesis))) (λ o e. e)

bracketed_good : (any : Rule Lexeme AstFormula) → Good Lexeme AstFormula begins_part (sees (is RightParenthesis)) any → Good Lexeme AstFormula (sees (is LeftParenthesis)) anything (bracketed any)
bracketed_good any good =
    then_good _ _ (mark_good LeftParenthesis)
    (λ _. then_good _ _ good (λ formula. then_good _ _ (mark_good RightParenthesis) (λ _. pure_good _ anything) (λ o e. refl)) (λ o e. e))
    (λ o e. refl)

pub part_good : (n : ℕ) → Good Lexeme AstFormula begins_part anything (part_within n)
part_good zero = widened (within sorts begins_comparison begins_part (λ t. refl) (λ t. refl) refl refl) (λ o e. e) comparison_good
part_good (suc n) =
    either_good (is LeftParenthesis) _ _ (bracketed_good (any_over (part_within n)) (any_good (part_within n) (part_good n))) comparison_good (λ o e. e)
    (excludes sorts (is LeftParenthesis) begins_comparison (λ t. refl) (λ t. refl) refl)

condition_good : Good Lexeme AstFormula (sees (is LeftParenthesis)) anything condition
condition_good = bracketed_good (any_over (part_within 63)) (any_good (part_within 63) (part_good 63))

-- Blocks

act_good : Good Lexeme Act (sees (of_sort is_act)) anything act
act_good = term_good (of_sort is_act) token_act (sample SetFlag) refl

action_good : Good Lexeme (Act × List ℕ × Place) (sees (of_sort is_act)) anything action
action_good =
    then_good _ _ act_good (λ a. then_good _ _ register_good (λ r. then_good _ _ (mark_good Semicolon) (λ _. pure_good _ anything) (λ o e. refl)) (λ o e. refl)) (λ o e. refl)

goto_good : Good Lexeme End (sees (is Goto)) anything goto_end
goto_good = then_good _ _ (mark_good Goto) (λ _. then_good _ _ name_good (λ n. then_good _ _ (mark_good Semicolon) (λ _. pure_good _ anything) (λ o e. refl)) (λ o e. refl)) (λ o e. refl)

trigger_good : Good Lexeme End (sees (is Trigger)) anything trigger_end
trigger_good = then_good _ _ (mark_good Trigger) (λ _. then_good _ _ (mark_good Semicolon) (λ _. pure_good _ anything) (λ o e. refl)) (λ o e. refl)

abbrev begins_end : Sight Lexeme
begins_end = or_else (sees (is Goto)) (sees (is Trigger))

-- An exact rule that anything may follow has no empty word, where a text's end is none of its beginnings.
no_empty : {A : Type 0} {begins : Sight Lexeme} (rule : Rule Lexeme A) → Good Lexeme A begins anything rule → begins None ≡ false → HasNoEmpty rule
no_empty rule good none x w = no_end (sym none ∙ good.starts [] [] x w refl)

abbrev begins_block : Sight Lexeme
begins_block = or_else (sees (of_sort is_act)) begins_end

block_good : Good Lexeme AstBlock begins_block anything block
block_good =
    then_good _ _
    (repeat_good begins_end (of_sort is_act) action action_good (no_empty action action_good refl) (λ o e. e) (λ o e. refl) (excludes sorts (of_sort is_act) begins_end (λ t. refl) (λ t. refl) refl))
    (λ actions. then_good _ _
    (either_good (is Goto) _ _ goto_good trigger_good (λ o e. e) (excludes sorts (is Goto) (sees (is Trigger)) (λ t. refl) (λ t. refl) refl))
    (λ stop. pure_good _ anything) (λ o e. refl)) (λ o e. e)

branch_good : Good Lexeme Branch (sees (is LeftParenthesis)) anything branch
branch_good = then_good _ _ condition_good (λ c. then_good _ _ (mark_good Then) (λ _. then_good _ _ block_good (λ b. pure_good _ anything) (λ o e. refl)) (λ o e. refl)) (λ o e. refl)

else_if_good : Good Lexeme Branch (sees (is ElseIf)) anything else_if
else_if_good = then_good _ _ (mark_good ElseIf) (λ _. branch_good) (λ o e. refl)

else_good : Good Lexeme AstBlock (sees (is Else)) anything else_block
else_good = then_good _ _ (mark_good Else) (λ _. block_good) (λ o e. refl)

abbrev begins_last : Sight Lexeme
begins_last = or_else (sees (is Else)) (sees (is EndIf))

if_good : Good Lexeme Body (sees (is If)) anything if_body
if_good =
    then_good _ _ (mark_good If)
    (λ _. then_good _ _ branch_good
    (λ first. then_good _ _
    (optional_good (is ElseIf) else_if (widened (λ o e. e) (λ o e. refl) else_if_good) (λ o e. e) (excludes sorts (is ElseIf) begins_last (λ t. refl) (λ t. refl) refl))
    (λ second. then_good _ _
    (optional_good (is Else) else_block (widened (λ o e. e) (λ o e. refl) else_good) (λ o e. e) (excludes sorts (is Else) (sees (is EndIf)) (λ t. refl) (λ t. refl) refl))
    (λ last. then_good _ _ (mark_good EndIf) (λ _. pure_good _ anything) (λ o e. refl)) (λ o e. e)) (λ o e. e)) (λ o e. refl)) (λ o e. refl)

plain_good : Good Lexeme Body begins_block anything plain_body
plain_good = then_good _ _ block_good (λ b. pure_good _ anything) (λ o e. refl)

body_good : Good Lexeme Body (or_else (sees (is If)) begins_block) anything body
body_good = either_good (is If) _ _ if_good plain_good (λ o e. e) (excludes sorts (is If) begins_block (λ t. refl) (λ t. refl) refl)

state_good : Good Lexeme AstState (sees (is State)) anything state
state_good =
    then_good _ _ (mark_good State)
    (λ _. then_good _ _ name_good (λ n. then_good _ _ (mark_good Colon) (λ _. then_good _ _ body_good (λ b. pure_good _ anything) (λ o e. refl)) (λ o e. refl)) (λ o e. refl))
    (λ o e. refl)

states_good : Good Lexeme (List AstState) (sees (is State)) at_end states
states_good =
    then_good _ _ state_good
    (λ s. then_good _ _
    (repeat_good at_end (is State) state state_good (no_empty state state_good refl) (λ o e. e) (λ o e. refl) (excludes sorts (is State) at_end (λ t. refl) (λ t. refl) refl))
    (λ more. pure_good _ at_end) (λ o e. e))
    (λ o e. refl)

pub program_good : Good Lexeme Ast (sees (is State)) at_end program
program_good = then_good _ _ states_good (λ found. then_good _ _ end_good (λ _. pure_good _ at_end) (λ o e. e)) (λ o e. e)

-- What loops need

pub action_shrinks : Shrinks action
action_shrinks = shrinks_by action action_good (no_empty action action_good refl)

pub state_shrinks : Shrinks state
state_shrinks = shrinks_by state state_good (no_empty state state_good refl)

-- the first state is read
pub states_begin : (ts rest : List Lexeme) (x : AstState) (done : List AstState) → state.read ts ≡ Took x rest → done ≡ x ∷ [] → states.read ts ≡ behind done ((repeat (is State) state).read rest)
states_begin ts rest x done e is_one =
    ap (λ o. continue o (λ y us. continue ((repeat (is State) state).read us) (λ ys vs. Took (y ∷ ys) vs))) e
    ∙ ap (λ ys. behind ys ((repeat (is State) state).read rest)) (sym is_one)
