-- The sorts of the grammar's tokens, all told, and a token of each.
use Rattle.std.specs.Prelude.{◌≡◌, Bool, true, List, [], ◌∷◌}
use Rattle.grammar.proofs.SortLaws.{Sorts, every, later, and_first}
use Rattle.vlog_parse.specs.declared.sort.Sort.{Sort}
use Rattle.vlog_parse.specs.declared.sort.Sort.TheVariants.{Name, Module, EndModule, Input, Output, Wire, Assign, And, Nand, Or, Nor, Xor, Xnor, Buf, Not, Number, Sized, Text, LeftParenthesis, RightParenthesis, LeftBracket, RightBracket, LeftBrace, RightBrace, Comma, Semicolon, Colon, Dot, Equals, Hash, Outside}
use Rattle.vlog_parse.specs.Lexemes.{Lexeme}

abbrev all_sorts : List Sort
all_sorts = Name ∷ Module ∷ EndModule ∷ Input ∷ Output ∷ Wire ∷ Assign ∷ And ∷ Nand ∷ Or ∷ Nor ∷ Xor ∷ Xnor ∷ Buf ∷ Not ∷ Number ∷ Sized ∷ Text ∷ LeftParenthesis ∷ RightParenthesis ∷ LeftBracket ∷ RightBracket ∷ LeftBrace ∷ RightBrace ∷ Comma ∷ Semicolon ∷ Colon ∷ Dot ∷ Equals ∷ Hash ∷ Outside ∷ []

pub holds : (test : Sort → Bool) → every test all_sorts ≡ true → (s : Sort) → test s ≡ true
holds test e Name = and_first _ _ (later test 0 all_sorts e)
holds test e Module = and_first _ _ (later test 1 all_sorts e)
holds test e EndModule = and_first _ _ (later test 2 all_sorts e)
holds test e Input = and_first _ _ (later test 3 all_sorts e)
holds test e Output = and_first _ _ (later test 4 all_sorts e)
holds test e Wire = and_first _ _ (later test 5 all_sorts e)
holds test e Assign = and_first _ _ (later test 6 all_sorts e)
holds test e And = and_first _ _ (later test 7 all_sorts e)
holds test e Nand = and_first _ _ (later test 8 all_sorts e)
holds test e Or = and_first _ _ (later test 9 all_sorts e)
holds test e Nor = and_first _ _ (later test 10 all_sorts e)
holds test e Xor = and_first _ _ (later test 11 all_sorts e)
holds test e Xnor = and_first _ _ (later test 12 all_sorts e)
holds test e Buf = and_first _ _ (later test 13 all_sorts e)
holds test e Not = and_first _ _ (later test 14 all_sorts e)
holds test e Number = and_first _ _ (later test 15 all_sorts e)
holds test e Sized = and_first _ _ (later test 16 all_sorts e)
holds test e Text = and_first _ _ (later test 17 all_sorts e)
holds test e LeftParenthesis = and_first _ _ (later test 18 all_sorts e)
holds test e RightParenthesis = and_first _ _ (later test 19 all_sorts e)
holds test e LeftBracket = and_first _ _ (later test 20 all_sorts e)
holds test e RightBracket = and_first _ _ (later test 21 all_sorts e)
holds test e LeftBrace = and_first _ _ (later test 22 all_sorts e)
holds test e RightBrace = and_first _ _ (later test 23 all_sorts e)
holds test e Comma = and_first _ _ (later test 24 all_sorts e)
holds test e Semicolon = and_first _ _ (later test 25 all_sorts e)
holds test e Colon = and_first _ _ (later test 26 all_sorts e)
holds test e Dot = and_first _ _ (later test 27 all_sorts e)
holds test e Equals = and_first _ _ (later test 28 all_sorts e)
holds test e Hash = and_first _ _ (later test 29 all_sorts e)
holds test e Outside = and_first _ _ (later test 30 all_sorts e)

-- a token of the sort
abbrev pub sample : Sort → Lexeme
sample s = record { sort = s; name = []; number = 0; word = record { width = 0; value = 0 }; place = record { line = 0; col = 0 } }

abbrev pub sort_of_token : Lexeme → Sort
sort_of_token t = t.sort

-- the sorts of the grammar's tokens
abbrev pub sorts : Sorts Sort Lexeme
sorts = record { all = all_sorts; of = sort_of_token; sample = sample; holds = holds }
