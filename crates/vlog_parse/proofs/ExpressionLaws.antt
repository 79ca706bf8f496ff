-- The rules of names, ranges and expressions are exact.
use Rattle.std.specs.Prelude.{◌≡◌, refl, ℕ, zero, suc, ◌+◌, ◌-◌, ◌≤◌, Bool, true, not, List, [], ◌∷◌, length, cond}
use Rattle.std.proofs.Common.{ap, subst, inl, inr, arith}
use Rattle.grammar.specs.Rule.{Rule, looks, pure, ◌>>=◌, Keeps}
use Rattle.grammar.specs.Good.{Sight, IsWithin, Excludes, sees, anything, or_else, Good}
use Rattle.grammar.proofs.TokenLaws.{term_good, token_good, pure_good}
use Rattle.grammar.proofs.SequenceLaws.{then_good}
use Rattle.grammar.proofs.ChoiceLaws.{widened, either_good}
use Rattle.grammar.proofs.BoundLaws.{unbounded_good}
use Rattle.grammar.proofs.ListLaws.{list_good}
use Rattle.grammar.proofs.NestLaws.{IsPart, list_rises, SameTo, good_keeps, then_same, behind_same, list_same}
use Rattle.vlog_parse.specs.declared.tree.Range.{Range}
use Rattle.vlog_parse.specs.declared.tree.Expr.{Expr}
use Rattle.vlog_parse.specs.declared.tree.Expr.TheVariants.{Concat}
use Rattle.vlog_parse.specs.declared.parts.Named.{Named}
use Rattle.vlog_parse.specs.declared.sort.Sort.{Sort}
use Rattle.vlog_parse.specs.declared.sort.Sort.TheVariants.{Name, Number, Sized, LeftBracket, RightBracket, LeftBrace, RightBrace, Comma, Colon}
use Rattle.vlog_parse.specs.Sorts.{same, begins_expr}
use Rattle.vlog_parse.specs.Lexemes.{Lexeme}
use Rattle.vlog_parse.specs.Expressions.{is, mark, named, name, number_of, number, range, part_behind, bit_behind, select_behind, reference, constant_of, constant, operand, args, concatenation, expr_over, expr_within, expr}
use Rattle.vlog_parse.specs.Items.{of_sort}
use Rattle.grammar.proofs.SortLaws.{within, excludes}
use Rattle.vlog_parse.proofs.SortLaws.{holds, sample, sorts}

-- anything but a token that passes
abbrev pub unless : (Lexeme → Bool) → Sight Lexeme
unless passes o = not (sees passes o)

-- no `[` behind a name
abbrev pub no_select : Sight Lexeme
no_select = unless (is LeftBracket)

abbrev pub begins_expression : Sight Lexeme
begins_expression = sees (of_sort begins_expr)

same_itself : (s : Sort) → same s s ≡ true
same_itself s = holds (λ x. same x x) refl s

pub mark_good : (s : Sort) → Good Lexeme (Unit {0}) (sees (is s)) anything (mark s)
mark_good s = token_good (is s) (sample s) (same_itself s)

pub name_good : Good Lexeme Named (sees (is Name)) anything name
name_good = term_good (is Name) named (sample Name) refl

pub number_good : Good Lexeme ℕ (sees (is Number)) anything number
number_good = term_good (is Number) number_of (sample Number) refl

pub range_good : Good Lexeme Range (sees (is LeftBracket)) anything range
range_good =
    then_good _ _ (mark_good LeftBracket)
    (λ _. then_good _ _ number_good
    (λ left. then_good _ _ (mark_good Colon)
    (λ _. then_good _ _ number_good
    (λ right. then_good _ _ (mark_good RightBracket) (λ _. pure_good _ anything) (λ o e. refl))
    (λ o e. refl)) (λ o e. refl)) (λ o e. refl)) (λ o e. refl)

pub part_good : (n : Named) (left : ℕ) → Good Lexeme Expr (sees (is Colon)) anything (part_behind n left)
part_good n left =
    then_good _ _ (mark_good Colon)
    (λ _. then_good _ _ number_good
    (λ right. then_good _ _ (mark_good RightBracket) (λ _. pure_good _ anything) (λ o e. refl))
    (λ o e. refl)) (λ o e. refl)

pub bit_good : (n : Named) (index : ℕ) → Good Lexeme Expr (sees (is RightBracket)) anything (bit_behind n index)
bit_good n index = then_good _ _ (mark_good RightBracket) (λ _. pure_good _ anything) (λ o e. refl)

pub select_good : (n : Named) → Good Lexeme Expr (sees (is LeftBracket)) anything (select_behind n)
select_good n =
    then_good _ _ (mark_good LeftBracket)
    (λ _. then_good _ _ number_good
    (λ left. either_good (is Colon) _ _ (part_good n left) (bit_good n left) (λ o e. e) (excludes sorts (is Colon) (sees (is RightBracket)) (λ t. refl) (λ t. refl) refl))
    (λ o e. refl)) (λ o e. refl)

pub reference_good : Good Lexeme Expr (sees (is Name)) no_select reference
reference_good =
    then_good _ _ name_good
    (λ n. either_good (is LeftBracket) _ _ (widened (λ o e. e) (λ o e. refl) (select_good n)) (pure_good _ no_select) (λ o e. e)
    (excludes sorts (is LeftBracket) no_select (λ t. refl) (λ t. refl) refl))
    (λ o e. refl)

pub constant_good : Good Lexeme Expr (sees (is Sized)) anything constant
constant_good = term_good (is Sized) constant_of (sample Sized) refl

pub operand_good : Good Lexeme Expr (or_else (sees (is Name)) (sees (is Sized))) no_select operand
operand_good =
    either_good (is Name) _ _ reference_good (widened (λ o e. e) (λ o e. refl) constant_good) (λ o e. e)
    (excludes sorts (is Name) (sees (is Sized)) (λ t. refl) (λ t. refl) refl)

pub args_good : (expr : Rule Lexeme Expr) (follows : Sight Lexeme) → Good Lexeme Expr begins_expression no_select expr → IsWithin follows no_select → Excludes (is Comma) follows
    → Good Lexeme (List Expr) begins_expression follows (args expr)
args_good expr follows good may apart =
    list_good follows (is Comma) (sample Comma) refl expr good (within sorts (sees (is Comma)) no_select (λ t. refl) (λ t. refl) refl refl) may apart

pub concatenation_good : (expr : Rule Lexeme Expr) → Good Lexeme Expr begins_expression no_select expr → Good Lexeme Expr (sees (is LeftBrace)) anything (concatenation expr)
concatenation_good expr good =
    then_good _ _ (mark_good LeftBrace)
    (λ _. then_good _ _ (args_good expr (sees (is RightBrace)) good (within sorts (sees (is RightBrace)) no_select (λ t. refl) (λ t. refl) refl refl)
    (excludes sorts (is Comma) (sees (is RightBrace)) (λ t. refl) (λ t. refl) refl))
    (λ parts. then_good _ _ (mark_good RightBrace) (λ _. pure_good _ anything) (λ o e. refl))
    (λ o e. e)) (λ o e. refl)

pub expr_over_good : (expr : Rule Lexeme Expr) → Good Lexeme Expr begins_expression no_select expr → Good Lexeme Expr begins_expression no_select (expr_over expr)
expr_over_good expr good =
    widened (within sorts (or_else (sees (is LeftBrace)) (or_else (sees (is Name)) (sees (is Sized)))) begins_expression (λ t. refl) (λ t. refl) refl refl) (λ o e. e)
    (either_good (is LeftBrace) _ _ (widened (λ o e. e) (λ o e. refl) (concatenation_good expr good)) operand_good (λ o e. e)
    (excludes sorts (is LeftBrace) (or_else (sees (is Name)) (sees (is Sized))) (λ t. refl) (λ t. refl) refl))

pub within_good : (n : ℕ) → Good Lexeme Expr begins_expression no_select (expr_within n)
within_good zero = widened (within sorts (or_else (sees (is Name)) (sees (is Sized))) begins_expression (λ t. refl) (λ t. refl) refl refl) (λ o e. e) operand_good
within_good (suc n) = expr_over_good (expr_within n) (within_good n)

-- Expressions of any depth

-- what is behind the parts, and what is behind the `{`
abbrev closed : List Expr → Rule Lexeme Expr
closed parts = do
  _ ← mark RightBrace
  pure (Concat parts)

abbrev inside : Rule Lexeme Expr → Rule Lexeme Expr
inside expr = args expr >>= closed

pub concatenation_rises : (one other : Rule Lexeme Expr) → IsPart one.words other.words → IsPart (concatenation one).words (concatenation other).words
concatenation_rises one other part ts e (f, b, u, cut, w, (g, c, parts, cut_b, ws, v)) =
    (f, b, u, cut, w, (g, c, parts, cut_b, list_rises (is Comma) one other part g parts ws, v))

next_rises : (n : ℕ) → IsPart (expr_within n).words (expr_within (suc n)).words
next_rises zero ts e w = inr w
next_rises (suc n) ts e (inl w) = inl (concatenation_rises (expr_within n) (expr_within (suc n)) (next_rises n) ts e w)
next_rises (suc n) ts e (inr w) = inr w

more_rises : (k n : ℕ) → IsPart (expr_within n).words (expr_within (k + n)).words
more_rises zero n ts e w = let P : ℕ → Type 0 = λ m. (expr_within m).words ts e in let z : n ≡ zero + n = omega arith in subst P z w
more_rises (suc k) n ts e w =
    let P : ℕ → Type 0 = λ m. (expr_within m).words ts e in
    let z : suc (k + n) ≡ suc k + n = omega arith in
    subst P z (next_rises (k + n) ts e (more_rises k n ts e w))

pub rises : (n m : ℕ) → n ≤ m → (ts : List Lexeme) (e : Expr) → (expr_within n).words ts e → (expr_within m).words ts e
rises n m less ts e w =
    let P : ℕ → Type 0 = λ k. (expr_within k).words ts e in
    let z : (m - n) + n ≡ m = omega (arith, less) in
    subst P z (more_rises (m - n) n ts e w)

pub over_same : (n : ℕ) (one other : Rule Lexeme Expr) → SameTo n one other → Keeps one → Keeps (args one) → SameTo (suc n) (expr_over one) (expr_over other)
over_same n one other alike keeps args_keep ts less =
    ap (λ o. cond (looks (is LeftBrace) ts) o (operand.read ts)) (behind_same n (is LeftBrace) (λ _. tt {0}) (λ _. inside one) (λ _. inside other) (λ _. parts) ts less) where
      parts : SameTo n (inside one) (inside other)
      parts = then_same n (args one) (args other) closed closed (list_same n (is Comma) one other alike keeps) args_keep (λ x us _. refl)

pub args_keep : (n : ℕ) → Keeps (args (expr_within n))
args_keep n = good_keeps (args (expr_within n))
    (args_good (expr_within n) (sees (is RightBrace)) (within_good n) (within sorts (sees (is RightBrace)) no_select (λ t. refl) (λ t. refl) refl refl)
    (excludes sorts (is Comma) (sees (is RightBrace)) (λ t. refl) (λ t. refl) refl))

pub same_reading : (n m : ℕ) (ts : List Lexeme) → length ts ≤ n → length ts ≤ m → (expr_within n).read ts ≡ (expr_within m).read ts
same_reading zero zero ts a b = refl
same_reading zero (suc m) [] a b = refl
same_reading zero (suc m) (t ∷ ts) a b = absurd (omega (arith, a))
same_reading (suc n) zero [] a b = refl
same_reading (suc n) zero (t ∷ ts) a b = absurd (omega (arith, b))
same_reading (suc n) (suc m) [] a b = refl
same_reading (suc n) (suc m) (t ∷ ts) a b =
    over_same (length ts) (expr_within n) (expr_within m) (λ us less. same_reading n m us (omega (arith, less, a)) (omega (arith, less, b)))
    (good_keeps (expr_within n) (within_good n)) (args_keep n) (t ∷ ts) (omega arith)

pub expr_good : Good Lexeme Expr begins_expression no_select expr
expr_good = unbounded_good expr_within within_good rises same_reading
