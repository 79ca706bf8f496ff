-- The grammar of conditions (UG908, trigger state machine language).
use Rattle.std.specs.Prelude.{ℕ, zero, suc, ◌-◌, Bool, true, false, List, [], ◌∷◌, None, unwrap_or}
use Rattle.ila_base.specs.declared.limits.TheConstants.{PARENTHESES}
use Rattle.ila_base.specs.declared.compare.Op.{Op}
use Rattle.ila_base.specs.declared.compare.Op.TheVariants.{Eq, Ne, Lt, Le, Gt, Ge}
use Rattle.grammar.specs.Rule.{Rule, term, token, pure, ◌>>=◌, either, list}
use Rattle.tsm_parse.specs.declared.parts.Named.{Named}
use Rattle.tsm_parse.specs.declared.parts.Valued.{Valued}
use Rattle.tsm_parse.specs.declared.token.Sort.{Sort}
use Rattle.tsm_parse.specs.declared.token.Sort.TheVariants.{Name, Register, Constant, LeftParenthesis, RightParenthesis, Equal, NotEqual, Less, LessEqual, Greater, GreaterEqual, AndAnd, OrOr}
use Rattle.tsm_parse.specs.declared.types.AstFormula.{AstFormula}
use Rattle.tsm_parse.specs.declared.types.AstFormula.TheVariants.{Test, All, Any}
use Rattle.tsm_parse.specs.declared.types.Constant.{Constant as ConstantOf}
use Rattle.tsm_parse.specs.Constants.{constant_of}
use Rattle.tsm_parse.specs.Lexemes.{Lexeme, is, of_sort}

-- a token of the sort, whose value isn't kept
abbrev pub mark : Sort → Rule Lexeme (Unit {0})
mark sort = token (is sort)

abbrev pub named : Lexeme → Named
named t = record { name = t.bytes; place = t.place }

abbrev pub name : Rule Lexeme Named
name = term (is Name) named

abbrev pub register : Rule Lexeme Named
register = term (is Register) named

-- left = name | register
abbrev pub is_left : Sort → Bool
is_left Name = true
is_left Register = true
is_left sort = false

abbrev pub left : Rule Lexeme Named
left = term (of_sort is_left) named

-- the constant that a token is
abbrev pub constant_of_bytes : List ℕ → ConstantOf
constant_of_bytes bytes = unwrap_or (constant_of bytes) (record { width = None; digits = [] })

abbrev pub constant_in : Lexeme → ConstantOf
constant_in t = constant_of_bytes t.bytes

abbrev pub valued : Lexeme → Valued
valued t = record { constant = constant_in t; place = t.place }

abbrev pub constant : Rule Lexeme Valued
constant = term (is Constant) valued

-- op = "==" | "!=" | "<" | "<=" | ">" | ">="
abbrev pub is_operator : Sort → Bool
is_operator Equal = true
is_operator NotEqual = true
is_operator Less = true
is_operator LessEqual = true
is_operator Greater = true
is_operator GreaterEqual = true
is_operator sort = false

abbrev pub op_of : Sort → Op
op_of NotEqual = Ne
op_of Less = Lt
op_of LessEqual = Le
op_of Greater = Gt
op_of GreaterEqual = Ge
op_of sort = Eq

abbrev pub token_op : Lexeme → Op
token_op t = op_of t.sort

abbrev pub operator : Rule Lexeme Op
operator = term (of_sort is_operator) token_op

-- the operator with its sides turned round
abbrev pub turned : Op → Op
turned Eq = Eq
turned Ne = Ne
turned Lt = Gt
turned Le = Ge
turned Gt = Lt
turned Ge = Le

abbrev pub test_of : Named → Op → Valued → AstFormula
test_of n op c = Test (record { left = n.name; left_place = n.place; op = op; constant = c.constant; constant_place = c.place })

-- left op constant
abbrev pub left_first : Rule Lexeme AstFormula
left_first = do
  n ← left
  op ← operator
  c ← constant
  pure (test_of n op c)

-- constant op left
abbrev pub constant_first : Rule Lexeme AstFormula
constant_first = do
  c ← constant
  op ← operator
  n ← left
  pure (test_of n (turned op) c)

-- left op constant | constant op left
abbrev pub comparison : Rule Lexeme AstFormula
comparison = either (is Constant) constant_first left_first

-- of one part it is that part
abbrev pub all_of : List AstFormula → AstFormula
all_of (part ∷ []) = part
all_of parts = All parts

abbrev pub any_of : List AstFormula → AstFormula
any_of (part ∷ []) = part
any_of parts = Any parts

-- all = part { "&&" part }
abbrev pub all_over : Rule Lexeme AstFormula → Rule Lexeme AstFormula
all_over part = do
  parts ← list (is AndAnd) part
  pure (all_of parts)

-- any = all { "||" all }
abbrev pub any_over : Rule Lexeme AstFormula → Rule Lexeme AstFormula
any_over part = do
  parts ← list (is OrOr) (all_over part)
  pure (any_of parts)

-- "(" any ")"
abbrev pub bracketed : Rule Lexeme AstFormula → Rule Lexeme AstFormula
bracketed any = do
  _ ← mark LeftParenthesis
  formula ← any
  _ ← mark RightParenthesis
  pure formula

-- part = "(" any ")" | left op constant | constant op left, with at most so many parentheses open at once
abbrev pub part_within : ℕ → Rule Lexeme AstFormula
part_within zero = comparison
part_within (suc n) = either (is LeftParenthesis) (bracketed (any_over (part_within n))) comparison

-- "(" any ")" behind `if` or `elseif`: this parenthesis is one of those that are open at once
abbrev pub condition : Rule Lexeme AstFormula
condition = bracketed (any_over (part_within (PARENTHESES - 1)))
