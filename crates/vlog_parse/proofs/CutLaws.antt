-- Expressions that are cut at a depth.
use Rattle.std.proofs.Common.{◌≡◌, refl, ◌∙◌, ap, ℕ, zero, suc, ◌+◌, true, false, List, arith}
use Rattle.grammar.specs.Rule.{Rule, looks, continue, Shrinks, separated, Keeps}
use Rattle.grammar.specs.Rule.Outcome.{Took}
use Rattle.grammar.proofs.Outcomes.{cond_yes, cond_not}
use Rattle.grammar.specs.Good.{Good, sees, anything, or_else}
use Rattle.grammar.proofs.TokenLaws.{pure_good}
use Rattle.grammar.proofs.SequenceLaws.{then_good}
use Rattle.grammar.proofs.ChoiceLaws.{widened, either_good}
use Rattle.grammar.proofs.NestLaws.{good_keeps}
use Rattle.vlog_parse.specs.declared.tree.Expr.{Expr}
use Rattle.vlog_parse.specs.declared.sort.Sort.TheVariants.{LeftBrace, Name, Sized, Comma}
use Rattle.vlog_parse.specs.Lexemes.{Lexeme}
use Rattle.vlog_parse.specs.Expressions.{is, mark, operand, concatenation, expr}
use Rattle.vlog_parse.specs.Skipping.{skipped, cut_within}
use Rattle.grammar.proofs.SortLaws.{within, excludes}
use Rattle.vlog_parse.proofs.SortLaws.{sorts}
use Rattle.vlog_parse.proofs.ExpressionLaws.{no_select, begins_expression, concatenation_good, operand_good, expr_over_good, expr_good}
use Rattle.grammar.proofs.LoopLaws.{separated_shrinks}

-- no brace comes next
pub cut_operand : (n : ℕ) (ts : List Lexeme) → looks (is LeftBrace) ts ≡ false → (cut_within n).read ts ≡ operand.read ts
cut_operand zero ts test = cond_not _ _ _ test
cut_operand (suc n) ts test = cond_not _ _ _ test

-- a brace comes next, and there is no room
pub cut_skipped : (n : ℕ) (ts : List Lexeme) → looks (is LeftBrace) ts ≡ true → n ≡ 0 → (cut_within n).read ts ≡ skipped.read ts
cut_skipped zero ts test none = cond_yes _ _ _ test
cut_skipped (suc n) ts test none = absurd (omega (arith, none))

-- a brace comes next, and there is room
pub cut_concatenation : (n m : ℕ) (ts : List Lexeme) → looks (is LeftBrace) ts ≡ true → n ≡ m + 1 → (cut_within n).read ts ≡ (concatenation (cut_within m)).read ts
cut_concatenation zero m ts test some = absurd (omega (arith, some))
cut_concatenation (suc n) m ts test some = let same : n ≡ m = omega (arith, some) in cond_yes _ _ _ test ∙ ap (λ k. (concatenation (cut_within k)).read ts) same

-- Cut expressions are exact

skipped_good : Good Lexeme Expr (sees (is LeftBrace)) anything skipped
skipped_good = then_good _ _ (concatenation_good expr expr_good) (λ _. pure_good _ anything) (λ o e. refl)

pub cut_good : (n : ℕ) → Good Lexeme Expr begins_expression no_select (cut_within n)
cut_good zero =
    widened (within sorts (or_else (sees (is LeftBrace)) (or_else (sees (is Name)) (sees (is Sized)))) begins_expression (λ t. refl) (λ t. refl) refl refl) (λ o e. e)
    (either_good (is LeftBrace) _ _ (widened (λ o e. e) (λ o e. refl) skipped_good) operand_good (λ o e. e)
    (excludes sorts (is LeftBrace) (or_else (sees (is Name)) (sees (is Sized))) (λ t. refl) (λ t. refl) refl))
cut_good (suc n) = expr_over_good (cut_within n) (cut_good n)

pub cut_keeps : (n : ℕ) → Keeps (cut_within n)
cut_keeps n = good_keeps (cut_within n) (cut_good n)

-- a comma and then an expression
abbrev pub next_part : ℕ → Rule Lexeme Expr
next_part n = separated (is Comma) (cut_within n)

pub next_shrinks : (n : ℕ) → Shrinks (next_part n)
next_shrinks n = separated_shrinks (is Comma) (cut_within n) (cut_keeps n)

pub next_took : (n : ℕ) (ts mid rest : List Lexeme) (u : Unit {0}) (x : Expr) → (mark Comma).read ts ≡ Took u mid → (cut_within n).read mid ≡ Took x rest → (next_part n).read ts ≡ Took x rest
next_took n ts mid rest u x marked e = ap (λ o. continue o (λ _ us. (cut_within n).read us)) marked ∙ e
