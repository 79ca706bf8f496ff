-- The sorts of tokens.
use Rattle.std.specs.Prelude.{◌≡◌, Bool, true, List, [], ◌∷◌}
use Rattle.grammar.proofs.SortLaws.{Sorts, every, later, and_first}
use Rattle.tsm_parse.specs.declared.token.Sort.{Sort}
use Rattle.tsm_parse.specs.declared.token.Sort.TheVariants.{Name, State, If, Then, ElseIf, Else, EndIf, Goto, Trigger, SetFlag, ClearFlag, IncrementCounter, ResetCounter, Register, Constant, Colon, Semicolon, LeftParenthesis, RightParenthesis, Equal, NotEqual, Less, LessEqual, Greater, GreaterEqual, AndAnd, OrOr}
use Rattle.tsm_parse.specs.Lexemes.{Lexeme}

abbrev pub all_sorts : List Sort
all_sorts = Name ∷ State ∷ If ∷ Then ∷ ElseIf ∷ Else ∷ EndIf ∷ Goto ∷ Trigger ∷ SetFlag ∷ ClearFlag ∷ IncrementCounter ∷ ResetCounter ∷ Register ∷ Constant ∷ Colon ∷ Semicolon ∷ LeftParenthesis ∷ RightParenthesis ∷ Equal ∷ NotEqual ∷ Less ∷ LessEqual ∷ Greater ∷ GreaterEqual ∷ AndAnd ∷ OrOr ∷ []

pub holds : (test : Sort → Bool) → every test all_sorts ≡ true → (s : Sort) → test s ≡ true
holds test e Name = and_first _ _ (later test 0 all_sorts e)
holds test e State = and_first _ _ (later test 1 all_sorts e)
holds test e If = and_first _ _ (later test 2 all_sorts e)
holds test e Then = and_first _ _ (later test 3 all_sorts e)
holds test e ElseIf = and_first _ _ (later test 4 all_sorts e)
holds test e Else = and_first _ _ (later test 5 all_sorts e)
holds test e EndIf = and_first _ _ (later test 6 all_sorts e)
holds test e Goto = and_first _ _ (later test 7 all_sorts e)
holds test e Trigger = and_first _ _ (later test 8 all_sorts e)
holds test e SetFlag = and_first _ _ (later test 9 all_sorts e)
holds test e ClearFlag = and_first _ _ (later test 10 all_sorts e)
holds test e IncrementCounter = and_first _ _ (later test 11 all_sorts e)
holds test e ResetCounter = and_first _ _ (later test 12 all_sorts e)
holds test e Register = and_first _ _ (later test 13 all_sorts e)
holds test e Constant = and_first _ _ (later test 14 all_sorts e)
holds test e Colon = and_first _ _ (later test 15 all_sorts e)
holds test e Semicolon = and_first _ _ (later test 16 all_sorts e)
holds test e LeftParenthesis = and_first _ _ (later test 17 all_sorts e)
holds test e RightParenthesis = and_first _ _ (later test 18 all_sorts e)
holds test e Equal = and_first _ _ (later test 19 all_sorts e)
holds test e NotEqual = and_first _ _ (later test 20 all_sorts e)
holds test e Less = and_first _ _ (later test 21 all_sorts e)
holds test e LessEqual = and_first _ _ (later test 22 all_sorts e)
holds test e Greater = and_first _ _ (later test 23 all_sorts e)
holds test e GreaterEqual = and_first _ _ (later test 24 all_sorts e)
holds test e AndAnd = and_first _ _ (later test 25 all_sorts e)
holds test e OrOr = and_first _ _ (later test 26 all_sorts e)

-- a token of the sort
abbrev pub sample : Sort → Lexeme
sample s = record { sort = s; bytes = []; place = record { line = 0; col = 0 } }

abbrev pub sort_of_token : Lexeme → Sort
sort_of_token t = t.sort

abbrev pub sorts : Sorts Sort Lexeme
sorts = record { all = all_sorts; of = sort_of_token; sample = sample; holds = holds }
