-- Expressions of any depth, read to trees of a depth that is bounded: where too many braces are open, an expression is read
-- and its parts are left out.
use Rattle.std.specs.Prelude.{◌≡◌, ℕ, zero, suc, ◌+◌, ◌<◌, ◌≤◌, Bool, true, false, List, [], length, Result, Ok, Err}
use Rattle.grammar.specs.Rule.{Rule, pure, ◌>>=◌, either, repeat, separated}
use Rattle.grammar.specs.Rule.Outcome.{Stuck}
use Rattle.vlog_parse.specs.declared.tree.Expr.{Expr}
use Rattle.vlog_parse.specs.declared.tree.Expr.TheVariants.{Concat}
use Rattle.vlog_parse.specs.declared.sort.Sort.TheVariants.{LeftBrace, RightBrace, Comma}
use Rattle.vlog_parse.specs.declared.skip.Skip.{Skip}
use Rattle.grammar.specs.declared.stop.Stop.{Stop}
use Rattle.grammar.specs.declared.stop.Stop.TheVariants.{Syntax, NoMemory}
use Rattle.vlog_parse.specs.Lexemes.{Lexeme}
use Rattle.vlog_parse.specs.Expressions.{is, mark, operand, concatenation, expr_over, expr}
use Rattle.ila_base.specs.declared.limits.TheConstants.{NESTING}

-- a concatenation, without its parts
abbrev pub skipped : Rule Lexeme Expr
skipped = do
  _ ← concatenation expr
  pure (Concat [])

-- an expression, with the parts of concatenations that stand in fewer than so many others
abbrev pub cut_within : ℕ → Rule Lexeme Expr
cut_within zero = either (is LeftBrace) skipped operand
cut_within (suc n) = expr_over (cut_within n)

-- what is left to read behind an expression, in so many open braces
abbrev pub closing : ℕ → Rule Lexeme (Unit {0})
closing zero = pure tt
closing (suc k) = do
  _ ← repeat (is Comma) (separated (is Comma) expr)
  _ ← mark RightBrace
  closing k

-- what is left to read where an expression comes next
abbrev pub wanting : ℕ → Rule Lexeme (Unit {0})
wanting k = do
  _ ← expr
  closing k

abbrev pub left : Bool → ℕ → Rule Lexeme (Unit {0})
left true k = wanting k
left false k = closing k

-- one turn of skipping: it takes a token, and what was left to read is what is left now
abbrev pub Turns : Skip → List Lexeme → Result Skip Stop → List Lexeme → Type 0
Turns skip before (Ok next) after = ((left skip.wants skip.depth).read before ≡ (left next.wants next.depth).read after)
    × (length after < length before) × (next.depth + length after ≤ skip.depth + length before)
Turns skip before (Err Syntax) after = (left skip.wants skip.depth).read before ≡ Stuck after
Turns skip before (Err NoMemory) after = Unit {0}

-- an expression, with the parts of concatenations that stand in fewer others than may be open
unfoldable pub cut : Rule Lexeme Expr
cut = cut_within NESTING
