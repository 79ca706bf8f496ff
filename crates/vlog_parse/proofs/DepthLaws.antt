-- Expressions that are cut at a depth, and those of any depth.
use Rattle.std.proofs.Common.{refl, sym, ◌∙◌, ap, subst, ℕ, zero, suc, ◌+◌, ◌≤◌, List, [], ◌∷◌, ◌++◌, inl, inr, arith, append-nil}
use Rattle.grammar.specs.Rule.{AreWords, separated}
use Rattle.vlog_parse.specs.declared.tree.Expr.{Expr}
use Rattle.vlog_parse.specs.declared.tree.Expr.TheVariants.{Concat}
use Rattle.vlog_parse.specs.declared.tree.Tree.{Tree}
use Rattle.vlog_parse.specs.declared.sort.Sort.TheVariants.{Comma}
use Rattle.vlog_parse.specs.Lexemes.{Lexeme}
use Rattle.vlog_parse.specs.Expressions.{is, expr_over, expr_within, expr}
use Rattle.vlog_parse.specs.Design.{design_over, design}
use Rattle.vlog_parse.specs.Skipping.{cut_within, cut}
use Rattle.vlog_parse.proofs.ExpressionLaws.{rises, concatenation_rises}
use Rattle.vlog_parse.proofs.MapLaws.{Mode, Maps}
use Rattle.vlog_parse.proofs.MapRules.{maps_over, maps_design}

-- of any tokens, with any value
abbrev pub any_value : Mode
any_value = record {
  Fits = λ ts. Unit {0};
  front = λ a b fits. tt;
  back = λ a b fits. tt;
  Meets = λ A x y. Unit {0};
  same = λ A x. tt;
  joins = λ A x y z v w. tt;
  kept = λ A B f x y v. tt;
}

-- expressions of one depth are of each greater one
raise_parts : (us : List Lexeme) (ys : List Expr) (i j : ℕ) → i ≤ j → AreWords (separated (is Comma) (expr_within i)).words us ys → AreWords (separated (is Comma) (expr_within j)).words us ys
raise_parts us [] i j less v = v
raise_parts us (y ∷ ys) i j less (p, q, cut_u, (f', b', u', cut_p, m', v), vs) =
    (p, q, cut_u, (f', b', u', cut_p, m', rises i j less b' y v), raise_parts q ys i j less vs)

-- expressions of some depths are all of one
deep_parts : (ts : List Lexeme) (xs : List Expr) → AreWords (separated (is Comma) expr).words ts xs → (n : ℕ) × AreWords (separated (is Comma) (expr_within n)).words ts xs
deep_parts ts [] w = (0, w)
deep_parts ts (x ∷ xs) (front, back, split, (f, b, u, cut_f, m, (k, w)), ws) =
    let (n, vs) = deep_parts back xs ws in
    (k + n, (front, back, split, (f, b, u, cut_f, m, rises k (k + n) (omega arith) b x w), raise_parts back xs n (k + n) (omega arith) vs))

-- a concatenation of expressions of any depth is one
over_expr : (ts : List Lexeme) (e : Expr) → (expr_over expr).words ts e → expr.words ts e
over_expr ts e (inr w) = (0, w)
over_expr ts e (inl (f, b, u, split, w, (g, c, parts, cut_b, (front, back, x, cut_g, (k, wx), (middle, last, xs, cut_back, ws, same)), v))) =
    let (n, vs) = deep_parts middle xs ws in
    (suc (k + n), inl (f, b, u, split, w, (g, c, parts, cut_b, (front, back, x, cut_g, rises k (k + n) (omega arith) front x wx, (middle, last, xs, cut_back, raise_parts middle xs n (k + n) (omega arith) vs, same)), v)))

deeper : (n : ℕ) → Maps any_value Expr (cut_within n) expr → Maps any_value Expr (cut_within (suc n)) expr
deeper n one = record { image = image } where
  image : (ts : List Lexeme) (x : Expr) → Unit {0} → (cut_within (suc n)).words ts x → (y : Expr) × Unit {0} × expr.words ts y
  image ts x fits w =
      let (y, meets, w') = (maps_over any_value (cut_within n) expr one).image ts x fits w in
      (y, tt, over_expr ts y w')

-- what is cut is an expression
pub cut_covers : (n : ℕ) → Maps any_value Expr (cut_within n) expr
cut_covers zero = record { image = image } where
  image : (ts : List Lexeme) (x : Expr) → Unit {0} → (cut_within zero).words ts x → (y : Expr) × Unit {0} × expr.words ts y
  image ts x fits (inl (front, back, e, split, w, (none, same))) =
      let P : List Lexeme → Type 0 = λ us. expr.words us e in
      (e, tt, subst P (sym (split ∙ ap (λ us. front ++ us) none ∙ append-nil front)) (over_expr front e (inl w)))
  image ts x fits (inr w) = (x, tt, (0, w))
cut_covers (suc n) = deeper n (cut_covers n)

-- an expression of a depth, cut
within_cut : (n k : ℕ) → Maps any_value Expr (expr_within k) (cut_within n)
within_cut zero zero = record { image = λ ts x fits w. (x, tt, inr w) }
within_cut zero (suc k) = record { image = image } where
  image : (ts : List Lexeme) (x : Expr) → Unit {0} → (expr_within (suc k)).words ts x → (y : Expr) × Unit {0} × (cut_within zero).words ts y
  image ts x fits (inl w) = (Concat [], tt, inl (ts, [], x, sym (append-nil ts), concatenation_rises (expr_within k) expr (λ us e v. (k, v)) ts x w, (refl, refl)))
  image ts x fits (inr w) = (x, tt, inr w)
within_cut (suc n) zero = record { image = λ ts x fits w. (x, tt, inr w) }
within_cut (suc n) (suc k) = maps_over any_value (expr_within k) (cut_within n) (within_cut n k)

-- an expression, cut
pub covers_cut : (n : ℕ) → Maps any_value Expr expr (cut_within n)
covers_cut n = record { image = λ ts x fits w. (within_cut n w.0).image ts x fits w.1 }

-- the same tokens are designs
pub cut_is_design : (ts : List Lexeme) (tree : Tree) → (design_over cut).words ts tree → (other : Tree) × design.words ts other
unfolding cut
cut_is_design ts tree w = let (other, meets, v) = (maps_design any_value (cut_within 32) expr (cut_covers 32)).image ts tree (tt {0}) w in (other, v)

pub design_is_cut : (ts : List Lexeme) (tree : Tree) → design.words ts tree → (other : Tree) × (design_over cut).words ts other
unfolding cut
design_is_cut ts tree w = let (other, meets, v) = (maps_design any_value expr (cut_within 32) (covers_cut 32)).image ts tree (tt {0}) w in (other, v)
