-- The grammar of trigger programs (UG908, trigger state machine language), and which tree a text stands for.
use Rattle.std.specs.Prelude.{ℕ, Bool, true, false, List, [], ◌∷◌, ◌++◌, Option, Some, None, Result, IfOk, ◌≡◌}
use Rattle.ila_base.specs.declared.memory.NoMemory.{NoMemory}
use Rattle.ila_base.specs.declared.place.Place.{Place}
use Rattle.grammar.specs.Rule.{Rule, term, pure, end, ◌>>=◌, either, repeat, optional}
use Rattle.tsm_parse.specs.declared.parts.Body.{Body}
use Rattle.tsm_parse.specs.declared.parts.Branch.{Branch}
use Rattle.tsm_parse.specs.declared.token.Sort.{Sort}
use Rattle.tsm_parse.specs.declared.token.Sort.TheVariants.{State, If, Then, ElseIf, Else, EndIf, Goto, Trigger, SetFlag, ClearFlag, IncrementCounter, ResetCounter, Colon, Semicolon}
use Rattle.tsm_parse.specs.declared.token.Token.{Token}
use Rattle.tsm_parse.specs.declared.types.Act.{Act}
use Rattle.tsm_parse.specs.declared.types.Act.TheVariants.{SetFlag as SetFlagAct, ClearFlag as ClearFlagAct, Increment, Reset}
use Rattle.tsm_parse.specs.declared.types.Ast.{Ast}
use Rattle.tsm_parse.specs.declared.types.AstBlock.{AstBlock}
use Rattle.tsm_parse.specs.declared.types.AstFormula.{AstFormula}
use Rattle.tsm_parse.specs.declared.types.AstState.{AstState}
use Rattle.tsm_parse.specs.declared.types.End.{End}
use Rattle.tsm_parse.specs.declared.types.End.TheVariants.{Goto as GotoEnd, Trigger as TriggerEnd}
use Rattle.tsm_parse.specs.Lexemes.{Lexeme, lexemes, is, of_sort}
use Rattle.tsm_parse.specs.Conditions.{mark, name, register, condition}

abbrev pub is_act : Sort → Bool
is_act SetFlag = true
is_act ClearFlag = true
is_act IncrementCounter = true
is_act ResetCounter = true
is_act sort = false

abbrev pub act_of : Sort → Act
act_of ClearFlag = ClearFlagAct
act_of IncrementCounter = Increment
act_of ResetCounter = Reset
act_of sort = SetFlagAct

abbrev pub token_act : Lexeme → Act
token_act t = act_of t.sort

abbrev pub act : Rule Lexeme Act
act = term (of_sort is_act) token_act

-- action = ( "set_flag" | "clear_flag" | "increment_counter" | "reset_counter" ) register ";"
abbrev pub action : Rule Lexeme (Act × List ℕ × Place)
action = do
  a ← act
  r ← register
  _ ← mark Semicolon
  pure (a, r.name, r.place)

-- "goto" name ";"
abbrev pub goto_end : Rule Lexeme End
goto_end = do
  _ ← mark Goto
  n ← name
  _ ← mark Semicolon
  pure (GotoEnd n.name n.place)

-- "trigger" ";"
abbrev pub trigger_end : Rule Lexeme End
trigger_end = do
  _ ← mark Trigger
  _ ← mark Semicolon
  pure TriggerEnd

-- block = { action } ( "goto" name ";" | "trigger" ";" )
abbrev pub block : Rule Lexeme AstBlock
block = do
  actions ← repeat (of_sort is_act) action
  stop ← either (is Goto) goto_end trigger_end
  pure (record { actions = actions; end = stop })

-- condition "then" block
abbrev pub branch : Rule Lexeme Branch
branch = do
  c ← condition
  _ ← mark Then
  b ← block
  pure (record { cond = c; block = b })

-- "elseif" condition "then" block
abbrev pub else_if : Rule Lexeme Branch
else_if = do
  _ ← mark ElseIf
  branch

-- "else" block
abbrev pub else_block : Rule Lexeme AstBlock
else_block = do
  _ ← mark Else
  block

-- what is there of a branch and of the block of an `else`
abbrev pub some_cond : Option Branch → List AstFormula
some_cond None = []
some_cond (Some b) = b.cond ∷ []

abbrev pub some_block : Option Branch → List AstBlock
some_block None = []
some_block (Some b) = b.block ∷ []

abbrev pub last_block : Option AstBlock → List AstBlock
last_block None = []
last_block (Some b) = b ∷ []

abbrev pub is_there : Option AstBlock → Bool
is_there None = false
is_there (Some b) = true

abbrev pub body_of : Branch → Option Branch → Option AstBlock → Body
body_of first second last = record {
  conds = first.cond ∷ some_cond second;
  blocks = first.block ∷ (some_block second ++ last_block last);
  has_else = is_there last;
}

abbrev pub IsBodyOf : Branch → Option Branch → Option AstBlock → Result Body NoMemory → Type 0
IsBodyOf first second last result = IfOk result (λ body. body ≡ body_of first second last)

-- "if" condition "then" block [ "elseif" condition "then" block ] [ "else" block ] "endif"
abbrev pub if_body : Rule Lexeme Body
if_body = do
  _ ← mark If
  first ← branch
  second ← optional (is ElseIf) else_if
  last ← optional (is Else) else_block
  _ ← mark EndIf
  pure (body_of first second last)

-- one block without a condition counts as having an `else`
abbrev pub plain_body : Rule Lexeme Body
plain_body = do
  b ← block
  pure (record { conds = []; blocks = b ∷ []; has_else = true })

abbrev pub body : Rule Lexeme Body
body = either (is If) if_body plain_body

-- state = "state" name ":" body
abbrev pub state : Rule Lexeme AstState
state = do
  _ ← mark State
  n ← name
  _ ← mark Colon
  b ← body
  pure (record { name = n.name; place = n.place; conds = b.conds; blocks = b.blocks; has_else = b.has_else })

-- state { state }
abbrev pub states : Rule Lexeme (List AstState)
states = do
  first ← state
  more ← repeat (is State) state
  pure (first ∷ more)

-- program = state { state }, to the end of the text
abbrev pub program : Rule Lexeme Ast
program = do
  found ← states
  _ ← end
  pure (record { states = found })

-- the text, cut into these tokens, stands for the tree
abbrev pub IsProgram : List ℕ → List Token → Ast → Type 0
IsProgram text tokens ast = program.words (lexemes text tokens) ast
