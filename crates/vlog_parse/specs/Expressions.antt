-- The grammar of names, ranges and expressions (IEEE 1364-2005, 4.3, 5.1.14, 5.2.1).
use Rattle.std.specs.Prelude.{ℕ, zero, suc, Bool, List}
use Rattle.grammar.specs.Rule.{Rule, term, token, pure, ◌>>=◌, either, list, unbounded}
use Rattle.vlog_parse.specs.declared.tree.Range.{Range}
use Rattle.vlog_parse.specs.declared.tree.Expr.{Expr}
use Rattle.vlog_parse.specs.declared.tree.Expr.TheVariants.{Whole, Bit, Part, Const, Concat}
use Rattle.vlog_parse.specs.declared.parts.Named.{Named}
use Rattle.vlog_parse.specs.declared.sort.Sort.{Sort}
use Rattle.vlog_parse.specs.declared.sort.Sort.TheVariants.{Name, Number, Sized, LeftBracket, RightBracket, LeftBrace, RightBrace, Comma, Colon}
use Rattle.vlog_parse.specs.Sorts.{same}
use Rattle.vlog_parse.specs.Lexemes.{Lexeme}

-- the token is of the sort
abbrev pub is : Sort → Lexeme → Bool
is sort t = same sort t.sort

-- a token of the sort, whose value isn't kept
abbrev pub mark : Sort → Rule Lexeme (Unit {0})
mark sort = token (is sort)

-- name: an identifier that is no keyword, or an escaped one (3.7)
abbrev pub named : Lexeme → Named
named t = record { name = t.name; place = t.place }

abbrev pub name : Rule Lexeme Named
name = term (is Name) named

-- an unsized number (3.5.1)
abbrev pub number_of : Lexeme → ℕ
number_of t = t.number

abbrev pub number : Rule Lexeme ℕ
number = term (is Number) number_of

-- range = "[" Number ":" Number "]"
abbrev pub range : Rule Lexeme Range
range = do
  _ ← mark LeftBracket
  left ← number
  _ ← mark Colon
  right ← number
  _ ← mark RightBracket
  pure (record { left = left; right = right })

-- behind a name and an index: ":" Number "]" | "]"
abbrev pub part_behind : Named → ℕ → Rule Lexeme Expr
part_behind n left = do
  _ ← mark Colon
  right ← number
  _ ← mark RightBracket
  pure (Part n.name left right n.place)

abbrev pub bit_behind : Named → ℕ → Rule Lexeme Expr
bit_behind n index = do
  _ ← mark RightBracket
  pure (Bit n.name index n.place)

-- behind a name: "[" Number "]" | "[" Number ":" Number "]"
abbrev pub select_behind : Named → Rule Lexeme Expr
select_behind n = do
  _ ← mark LeftBracket
  left ← number
  either (is Colon) (part_behind n left) (bit_behind n left)

-- name | name "[" Number "]" | name "[" Number ":" Number "]"
abbrev pub reference : Rule Lexeme Expr
reference = do
  n ← name
  either (is LeftBracket) (select_behind n) (pure (Whole n.name n.place))

-- a sized constant (3.5.1)
abbrev pub constant_of : Lexeme → Expr
constant_of t = Const t.word t.place

abbrev pub constant : Rule Lexeme Expr
constant = term (is Sized) constant_of

-- an expression that is no concatenation
abbrev pub operand : Rule Lexeme Expr
operand = either (is Name) reference constant

-- args = expr { "," expr }
abbrev pub args : Rule Lexeme Expr → Rule Lexeme (List Expr)
args expr = list (is Comma) expr

-- "{" args "}"
abbrev pub concatenation : Rule Lexeme Expr → Rule Lexeme Expr
concatenation expr = do
  _ ← mark LeftBrace
  parts ← args expr
  _ ← mark RightBrace
  pure (Concat parts)

-- an expression, the parts of whose concatenations are of the rule
abbrev pub expr_over : Rule Lexeme Expr → Rule Lexeme Expr
expr_over expr = either (is LeftBrace) (concatenation expr) operand

-- an expression in which at most so many concatenations stand in one another
abbrev pub expr_within : ℕ → Rule Lexeme Expr
expr_within zero = operand
expr_within (suc n) = expr_over (expr_within n)

-- an expression, however deep
abbrev pub expr : Rule Lexeme Expr
expr = unbounded expr_within
