-- An expression of any depth is read token by token, with a count of its open braces.
use Rattle.std.proofs.Common.{◌≡◌, refl, sym, ◌∙◌, ap, ℕ, zero, suc, ◌+◌, ◌-◌, ◌<◌, ◌≤◌, Bool, true, false, cond, List, [], ◌∷◌, length, arith}
use Rattle.grammar.specs.Rule.{Outcome, looks, continue, repeat, Shrinks, separated, Keeps}
use Rattle.grammar.specs.Rule.Outcome.{Took, Stuck}
use Rattle.grammar.proofs.Outcomes.{cond_yes, cond_not, took_rest, not_both_ways, no_end}
use Rattle.grammar.proofs.RepeatLaws.{shrinks_by, with_first, repeat_unrolls, repeat_ends}
use Rattle.grammar.proofs.NestLaws.{good_keeps}
use Rattle.vlog_parse.specs.declared.tree.Expr.{Expr}
use Rattle.vlog_parse.specs.declared.tree.Expr.TheVariants.{Concat}
use Rattle.vlog_parse.specs.declared.sort.Sort.TheVariants.{LeftBrace, RightBrace, Comma}
use Rattle.vlog_parse.specs.Lexemes.{Lexeme}
use Rattle.vlog_parse.specs.Expressions.{is, mark, operand, args, concatenation, expr_over, expr_within, expr}
use Rattle.vlog_parse.specs.Skipping.{skipped, closing, wanting, left}
use Rattle.vlog_parse.proofs.ExpressionLaws.{operand_good, within_good, expr_good, over_same, args_keep, same_reading}
use Rattle.grammar.specs.Good.{Excludes, sees}
use Rattle.vlog_parse.specs.declared.sort.Sort.{Sort}
use Rattle.grammar.proofs.SortLaws.{excludes}
use Rattle.vlog_parse.proofs.SortLaws.{sorts}
use Rattle.grammar.proofs.LoopLaws.{separated_shrinks}

-- an expression of any depth is one whose parts are of any depth
pub expr_unrolls : (ts : List Lexeme) → expr.read ts ≡ (expr_over expr).read ts
expr_unrolls ts =
    same_reading (length ts) (suc (length ts)) ts (omega arith) (omega arith)
    ∙ over_same (length ts) (expr_within (length ts)) expr
    (λ us less. same_reading (length ts) (length us) us less (omega arith))
    (good_keeps (expr_within (length ts)) (within_good (length ts))) (args_keep (length ts)) ts (omega arith)

pub expr_keeps : Keeps expr
expr_keeps = good_keeps expr expr_good

-- what follows an outcome
abbrev goes : {A : Type 0} → Outcome Lexeme A → (List Lexeme → Outcome Lexeme (Unit {0})) → Outcome Lexeme (Unit {0})
goes o next = continue o (λ _ rest. next rest)

-- behind a list and what closes it
through : (o : Outcome Lexeme Expr) (k : ℕ) → goes (continue (continue o (λ x rest. with_first x ((repeat (is Comma) (separated (is Comma) expr)).read rest))) (λ xs rest. continue ((mark RightBrace).read rest) (λ _ us. Took (Concat xs) us))) (closing k).read
    ≡ goes o (closing (suc k)).read
through (Stuck rest) k = refl
through (Took x rest) k = by_list ((repeat (is Comma) (separated (is Comma) expr)).read rest) where
  by_mark : (xs : List Expr) (o : Outcome Lexeme (Unit {0})) → goes (continue o (λ _ us. Took (Concat xs) us)) (closing k).read ≡ goes o (closing k).read
  by_mark xs (Took y us) = refl
  by_mark xs (Stuck us) = refl

  by_list : (o : Outcome Lexeme (List Expr)) → goes (continue (with_first x o) (λ xs us. continue ((mark RightBrace).read us) (λ _ vs. Took (Concat xs) vs))) (closing k).read
      ≡ continue o (λ _ us. continue ((mark RightBrace).read us) (λ _ vs. (closing k).read vs))
  by_list (Stuck us) = refl
  by_list (Took xs us) = by_mark (x ∷ xs) ((mark RightBrace).read us)

-- A `{` where an expression comes next
pub reads_open : (k : ℕ) (ts : List Lexeme) → looks (is LeftBrace) ts ≡ true → (wanting k).read ts ≡ goes ((mark LeftBrace).read ts) (wanting (suc k)).read
reads_open k ts test =
    ap (λ o. goes o (closing k).read) (expr_unrolls ts ∙ cond_yes _ _ _ test) ∙ by_mark ((mark LeftBrace).read ts) where
      by_mark : (o : Outcome Lexeme (Unit {0})) → goes (continue o (λ _ rest. continue ((args expr).read rest) (λ parts us. continue ((mark RightBrace).read us) (λ _ vs. Took (Concat parts) vs)))) (closing k).read
          ≡ goes o (wanting (suc k)).read
      by_mark (Stuck rest) = refl
      by_mark (Took x rest) = through (expr.read rest) k

-- another expression that comes next
pub reads_operand : (k : ℕ) (ts : List Lexeme) → looks (is LeftBrace) ts ≡ false → (wanting k).read ts ≡ goes (operand.read ts) (closing k).read
reads_operand k ts test = ap (λ o. goes o (closing k).read) (expr_unrolls ts ∙ cond_not _ _ _ test)

others_shrink : Shrinks (separated (is Comma) expr)
others_shrink = separated_shrinks (is Comma) expr expr_keeps

-- no `,` comes where a `}` does
not_comma : (ts : List Lexeme) → looks (is RightBrace) ts ≡ true → looks (is Comma) ts ≡ false
not_comma [] test = refl
not_comma (t ∷ ts) test = apart t test where
  apart : Excludes (is RightBrace) (sees (is Comma))
  apart = excludes sorts (is RightBrace) (sees (is Comma)) (λ u. refl) (λ u. refl) refl

-- a `}` behind an expression
pub reads_close : (k : ℕ) (ts : List Lexeme) → looks (is RightBrace) ts ≡ true → (closing (suc k)).read ts ≡ goes ((mark RightBrace).read ts) (closing k).read
reads_close k ts test =
    ap (λ o. continue o (λ _ rest. goes ((mark RightBrace).read rest) (closing k).read)) (repeat_ends (is Comma) (separated (is Comma) expr) others_shrink ts (not_comma ts test))

-- a token that isn't there is refused
pub mark_stuck : (s : Sort) (ts : List Lexeme) → looks (is s) ts ≡ false → (mark s).read ts ≡ Stuck ts
mark_stuck s [] test = refl
mark_stuck s (t ∷ ts) test = cond_not _ _ _ test

-- anything else behind an expression
pub reads_comma : (k : ℕ) (ts : List Lexeme) → looks (is RightBrace) ts ≡ false → (closing (suc k)).read ts ≡ goes ((mark Comma).read ts) (wanting (suc k)).read
reads_comma k ts test = by_comma (looks (is Comma) ts) refl where
  close : List Lexeme → Outcome Lexeme (Unit {0})
  close rest = goes ((mark RightBrace).read rest) (closing k).read

  by_list : (x : Expr) (o : Outcome Lexeme (List Expr)) → continue (with_first x o) (λ _ rest. close rest) ≡ continue o (λ _ rest. close rest)
  by_list x (Took xs rest) = refl
  by_list x (Stuck rest) = refl

  by_expr : (o : Outcome Lexeme Expr) → continue (continue o (λ x rest. with_first x ((repeat (is Comma) (separated (is Comma) expr)).read rest))) (λ _ rest. close rest)
      ≡ goes o (λ us. continue ((repeat (is Comma) (separated (is Comma) expr)).read us) (λ _ rest. close rest))
  by_expr (Took x rest) = by_list x ((repeat (is Comma) (separated (is Comma) expr)).read rest)
  by_expr (Stuck rest) = refl

  by_mark : (o : Outcome Lexeme (Unit {0})) → continue (continue (continue o (λ _ rest. expr.read rest)) (λ x rest. with_first x ((repeat (is Comma) (separated (is Comma) expr)).read rest))) (λ _ rest. close rest)
      ≡ goes o (λ us. goes (expr.read us) (λ vs. continue ((repeat (is Comma) (separated (is Comma) expr)).read vs) (λ _ rest. close rest)))
  by_mark (Took x rest) = by_expr (expr.read rest)
  by_mark (Stuck rest) = refl

  by_comma : (b : Bool) → looks (is Comma) ts ≡ b → (closing (suc k)).read ts ≡ goes ((mark Comma).read ts) (wanting (suc k)).read
  by_comma true is_comma =
      ap (λ o. continue o (λ _ rest. close rest)) (repeat_unrolls (is Comma) (separated (is Comma) expr) others_shrink ts ∙ cond_yes _ _ _ is_comma)
      ∙ by_mark ((mark Comma).read ts)
  by_comma false no_comma =
      ap (λ o. continue o (λ _ rest. close rest)) (repeat_ends (is Comma) (separated (is Comma) expr) others_shrink ts no_comma)
      ∙ ap (λ o. goes o (closing k).read) (mark_stuck RightBrace ts test)
      ∙ sym (ap (λ o. goes o (wanting (suc k)).read) (mark_stuck Comma ts no_comma))

-- The turns of a loop, in so many open braces

shorter : (s : Sort) (ts rest : List Lexeme) (u : Unit {0}) → (mark s).read ts ≡ Took u rest → length rest < length ts
shorter s [] rest u e = absurd (not_both_ways e)
shorter s (t ∷ ts) rest u e = by_test (is s t) e where
  by_test : (b : Bool) → cond b (Took (tt {0}) ts) (Stuck (t ∷ ts)) ≡ Took u rest → length rest < length (t ∷ ts)
  by_test true is = let size : length ts ≡ length rest = ap length (took_rest is) in omega (arith, size)
  by_test false is = absurd (not_both_ways is)

operand_shrinks : Shrinks operand
operand_shrinks = shrinks_by operand operand_good (λ x w. no_end (operand_good.starts [] [] x w refl))

pub turn_open : (w : Bool) (k m : ℕ) (ts rest : List Lexeme) (u : Unit {0}) → w ≡ true → m ≡ k + 1 → looks (is LeftBrace) ts ≡ true → (mark LeftBrace).read ts ≡ Took u rest
    → ((left w k).read ts ≡ (wanting m).read rest) × (length rest < length ts) × (m + length rest ≤ k + length ts)
turn_open false k m ts rest u is_so count test e = absurd (no_end is_so)
turn_open true k m ts rest u is_so count test e =
    let less : length rest < length ts = shorter LeftBrace ts rest u e in
    let next : suc k ≡ m = omega arith in
    (reads_open k ts test ∙ ap (λ o. goes o (wanting (suc k)).read) e ∙ ap (λ n. (wanting n).read rest) next, less, omega arith)

pub turn_operand : (w : Bool) (k : ℕ) (ts rest : List Lexeme) (x : Expr) → w ≡ true → looks (is LeftBrace) ts ≡ false → operand.read ts ≡ Took x rest
    → ((left w k).read ts ≡ (closing k).read rest) × (length rest < length ts) × (k + length rest ≤ k + length ts)
turn_operand false k ts rest x is_so test e = absurd (no_end is_so)
turn_operand true k ts rest x is_so test e =
    let less : length rest < length ts = operand_shrinks ts rest x e in
    (reads_operand k ts test ∙ ap (λ o. goes o (closing k).read) e, less, omega arith)

pub stop_operand : (w : Bool) (k : ℕ) (ts rest : List Lexeme) → w ≡ true → looks (is LeftBrace) ts ≡ false → operand.read ts ≡ Stuck rest → (left w k).read ts ≡ Stuck rest
stop_operand false k ts rest is_so test e = absurd (no_end is_so)
stop_operand true k ts rest is_so test e = reads_operand k ts test ∙ ap (λ o. goes o (closing k).read) e

pub turn_close : (w : Bool) (k m : ℕ) (ts rest : List Lexeme) (u : Unit {0}) → w ≡ false → 0 < k → m ≡ k - 1 → looks (is RightBrace) ts ≡ true → (mark RightBrace).read ts ≡ Took u rest
    → ((left w k).read ts ≡ (closing m).read rest) × (length rest < length ts) × (m + length rest ≤ k + length ts)
turn_close true k m ts rest u is_not some count test e = absurd (no_end (sym is_not))
turn_close false zero m ts rest u is_not some count test e = absurd (omega (arith, some))
turn_close false (suc k) m ts rest u is_not some count test e =
    let less : length rest < length ts = shorter RightBrace ts rest u e in
    let next : k ≡ m = omega arith in
    (reads_close k ts test ∙ ap (λ o. goes o (closing k).read) e ∙ ap (λ n. (closing n).read rest) next, less, omega arith)

pub turn_comma : (w : Bool) (k : ℕ) (ts rest : List Lexeme) (u : Unit {0}) → w ≡ false → 0 < k → looks (is RightBrace) ts ≡ false → (mark Comma).read ts ≡ Took u rest
    → ((left w k).read ts ≡ (wanting k).read rest) × (length rest < length ts) × (k + length rest ≤ k + length ts)
turn_comma true k ts rest u is_not some test e = absurd (no_end (sym is_not))
turn_comma false zero ts rest u is_not some test e = absurd (omega (arith, some))
turn_comma false (suc k) ts rest u is_not some test e =
    let less : length rest < length ts = shorter Comma ts rest u e in
    (reads_comma k ts test ∙ ap (λ o. goes o (wanting (suc k)).read) e, less, omega arith)

pub stop_comma : (w : Bool) (k : ℕ) (ts rest : List Lexeme) → w ≡ false → 0 < k → looks (is RightBrace) ts ≡ false → (mark Comma).read ts ≡ Stuck rest → (left w k).read ts ≡ Stuck rest
stop_comma true k ts rest is_not some test e = absurd (no_end (sym is_not))
stop_comma false zero ts rest is_not some test e = absurd (omega (arith, some))
stop_comma false (suc k) ts rest is_not some test e = reads_comma k ts test ∙ ap (λ o. goes o (wanting (suc k)).read) e

-- a concatenation, read as any expression
pub skipped_by : (ts : List Lexeme) → looks (is LeftBrace) ts ≡ true → skipped.read ts ≡ continue ((wanting 0).read ts) (λ _ rest. Took (Concat []) rest)
skipped_by ts test = by_outcome ((concatenation expr).read ts) ∙ sym (ap (λ o. continue (goes o (closing 0).read) (λ _ rest. Took (Concat []) rest)) (expr_unrolls ts ∙ cond_yes _ _ _ test)) where
  by_outcome : (o : Outcome Lexeme Expr) → continue o (λ _ rest. Took (Concat []) rest) ≡ continue (goes o (closing 0).read) (λ _ rest. Took (Concat []) rest)
  by_outcome (Took x rest) = refl
  by_outcome (Stuck rest) = refl
