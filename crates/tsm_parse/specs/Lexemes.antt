-- A token as the grammar sees it.
use Rattle.std.specs.Prelude.{ℕ, ◌<◌, ◌≤◌, Bool, ◌==◌, List, [], ◌∷◌, map, slice_range}
use Rattle.ila_base.specs.declared.place.Place.{Place}
use Rattle.tsm_parse.specs.declared.token.Sort.{Sort}
use Rattle.tsm_parse.specs.declared.token.Sort.TheVariants.{Name, State, If, Then, ElseIf, Else, EndIf, Goto, Trigger, SetFlag, ClearFlag, IncrementCounter, ResetCounter, Register, Constant, Colon, Semicolon, LeftParenthesis, RightParenthesis, Equal, NotEqual, Less, LessEqual, Greater, GreaterEqual, AndAnd, OrOr}
use Rattle.tsm_parse.specs.declared.token.Token.{Token}

pub record Lexeme : Type 0 where
  pub sort : Sort
  pub bytes : List ℕ
  pub place : Place

abbrev pub lexeme : List ℕ → Token → Lexeme
lexeme text token = record { sort = token.sort; bytes = slice_range text token.start token.end; place = token.place }

abbrev pub lexemes : List ℕ → List Token → List Lexeme
lexemes text tokens = map (lexeme text) tokens

-- the sorts, numbered in the order of their declaration
abbrev pub index_of : Sort → ℕ
index_of Name = 0
index_of State = 1
index_of If = 2
index_of Then = 3
index_of ElseIf = 4
index_of Else = 5
index_of EndIf = 6
index_of Goto = 7
index_of Trigger = 8
index_of SetFlag = 9
index_of ClearFlag = 10
index_of IncrementCounter = 11
index_of ResetCounter = 12
index_of Register = 13
index_of Constant = 14
index_of Colon = 15
index_of Semicolon = 16
index_of LeftParenthesis = 17
index_of RightParenthesis = 18
index_of Equal = 19
index_of NotEqual = 20
index_of Less = 21
index_of LessEqual = 22
index_of Greater = 23
index_of GreaterEqual = 24
index_of AndAnd = 25
index_of OrOr = 26

abbrev pub same : Sort → Sort → Bool
same sort other = index_of sort == index_of other

-- the token is of the sort
abbrev pub is : Sort → Lexeme → Bool
is sort t = same sort t.sort

-- the sort of the token passes the test
abbrev pub of_sort : (Sort → Bool) → Lexeme → Bool
of_sort test t = test t.sort

-- each token has bytes, and they are among the first n
abbrev pub AreWithin : ℕ → List Token → Type 0
AreWithin n [] = Unit {0}
AreWithin n (token ∷ tokens) = (token.start < token.end) × (token.end ≤ n) × AreWithin n tokens

abbrev pub place_of : Lexeme → Place
place_of t = t.place
