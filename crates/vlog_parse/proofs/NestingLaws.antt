-- Where few braces are open, nothing is cut: the tree is that of the text.
use Rattle.std.proofs.Common.{◌≡◌, refl, sym, ◌∙◌, ap, subst, ℕ, zero, suc, ◌+◌, ◌≤◌, List, [], ◌∷◌, ◌++◌, inl, inr, arith, append_assoc}
use Rattle.grammar.specs.Rule.{AreWords, separated}
use Rattle.vlog_parse.specs.declared.tree.Expr.{Expr}
use Rattle.vlog_parse.specs.declared.tree.Tree.{Tree}
use Rattle.vlog_parse.specs.declared.sort.Sort.TheVariants.{LeftBrace, RightBrace, Comma}
use Rattle.vlog_parse.specs.Lexemes.{Lexeme}
use Rattle.vlog_parse.specs.Expressions.{is, expr_within, expr}
use Rattle.vlog_parse.specs.Design.{design_over, design}
use Rattle.vlog_parse.specs.Skipping.{cut_within, cut}
use Rattle.vlog_parse.proofs.MapLaws.{Mode, Maps}
use Rattle.vlog_parse.proofs.MapRules.{maps_design}
use Rattle.vlog_parse.proofs.BraceLaws.{count-append, opens, closes, open_counts, cut_balanced, comma_balanced, next_balanced}

-- each front opens at most n braces more than it closes
abbrev OpensAtMost : ℕ → List Lexeme → Type 0
OpensAtMost n ts = (a b : List Lexeme) → ts ≡ a ++ b → opens a ≤ n + closes a

front_opens : (n : ℕ) (ts front back : List Lexeme) → ts ≡ front ++ back → OpensAtMost n ts → OpensAtMost n front
front_opens n ts front back whole most a b e = most a (b ++ back) (whole ∙ ap (λ us. us ++ back) e ∙ append_assoc a b back)

-- so does what stands behind as many closed braces as opened ones
back_opens : (n : ℕ) (ts front back : List Lexeme) → ts ≡ front ++ back → opens front ≡ closes front → OpensAtMost n ts → OpensAtMost n back
back_opens n ts front back whole balanced most a b e =
    let all : opens (front ++ a) ≤ n + closes (front ++ a) = most (front ++ a) b (whole ∙ ap (λ us. front ++ us) e ∙ sym (append_assoc front a b)) in
    let o : opens (front ++ a) ≡ opens front + opens a = count-append (is LeftBrace) front a in
    let c : closes (front ++ a) ≡ closes front + closes a = count-append (is RightBrace) front a in
    omega (arith, all, o, c, balanced)

abbrev IsKept : ℕ → Type 0
IsKept n = (ts : List Lexeme) (e : Expr) → (cut_within n).words ts e → OpensAtMost n ts → (expr_within n).words ts e

-- the parts of a list behind the first
kept_parts : (n : ℕ) → IsKept n → (ts : List Lexeme) (xs : List Expr) → AreWords (separated (is Comma) (cut_within n)).words ts xs → OpensAtMost n ts
    → AreWords (separated (is Comma) (expr_within n)).words ts xs
kept_parts n one ts [] w most = w
kept_parts n one ts (x ∷ xs) (front, back, whole, w, ws) most =
    let first : OpensAtMost n front = front_opens n ts front back whole most in
    let balanced : opens front ≡ closes front = (next_balanced (cut_within n) (cut_balanced n)).counts front x w in
    (front, back, whole, part front x w first, kept_parts n one back xs ws (back_opens n ts front back whole balanced most)) where
      part : (us : List Lexeme) (e : Expr) → (separated (is Comma) (cut_within n)).words us e → OpensAtMost n us → (separated (is Comma) (expr_within n)).words us e
      part us e (m, r, u, split, v, we) few =
          (m, r, u, split, v, one r e we (back_opens n us m r split (comma_balanced.counts m u v) few))

-- nothing is cut of an expression
kept : (n : ℕ) → IsKept n
kept zero ts e (inr w) most = w
kept zero ts e (inl (f, b, x, whole, (g, c, u, g_is, (t, t_is, passes, same), ws), v)) most = absurd (
    let starts : ts ≡ (t ∷ []) ++ (c ++ b) = whole ∙ ap (λ us. us ++ b) (g_is ∙ ap (λ us. us ++ c) t_is) in
    let one : opens (t ∷ []) ≤ 0 + closes (t ∷ []) = most (t ∷ []) (c ++ b) starts in
    let counts : (opens (t ∷ []) ≡ 1) × (closes (t ∷ []) ≡ 0) = open_counts t passes in
    omega (arith, one, counts.0, counts.1))
kept (suc n) ts e (inr w) most = inr w
kept (suc n) ts e (inl (f, b, u, whole, (t, t_is, passes, same), (g, c, parts, split, (front, back, x, g_is, w, (middle, last, xs, back_is, ws, v)), z))) most =
    let inner : OpensAtMost n g = inside in
    let few : OpensAtMost n front = front_opens n g front back g_is inner in
    let rest : OpensAtMost n back = back_opens n g front back g_is ((cut_balanced n).counts front x w) inner in
    inl (f, b, u, whole, (t, t_is, passes, same), (g, c, parts, split, (front, back, x, g_is, kept n front x w few, (middle, last, xs, back_is, kept_parts n (kept n) middle xs ws (front_opens n back middle last back_is rest), v)), z)) where
      inside : OpensAtMost n g
      inside a a' is_a =
          let starts : ts ≡ ((t ∷ []) ++ a) ++ (a' ++ c) = whole ∙ ap (λ us. us ++ b) t_is ∙ ap (λ us. (t ∷ []) ++ us) (split ∙ ap (λ us. us ++ c) is_a ∙ append_assoc a a' c) in
          let all : opens ((t ∷ []) ++ a) ≤ suc n + closes ((t ∷ []) ++ a) = most ((t ∷ []) ++ a) (a' ++ c) starts in
          let o : opens ((t ∷ []) ++ a) ≡ opens (t ∷ []) + opens a = count-append (is LeftBrace) (t ∷ []) a in
          let k : closes ((t ∷ []) ++ a) ≡ closes (t ∷ []) + closes a = count-append (is RightBrace) (t ∷ []) a in
          let counts : (opens (t ∷ []) ≡ 1) × (closes (t ∷ []) ≡ 0) = open_counts t passes in
          omega (arith, all, o, k, counts.0, counts.1)

-- Whole texts

-- each part opens at most 32 braces more than it closes
abbrev pub NestsIn : List Lexeme → Type 0
NestsIn ts = (a s b : List Lexeme) → ts ≡ a ++ (s ++ b) → opens s ≤ 32 + closes s

-- the same value, where no part opens too many
abbrev nested : Mode
nested = record {
  Fits = NestsIn;
  front = λ x y fits a s b e. fits a s (b ++ y) (ap (λ us. us ++ y) e ∙ append_assoc a (s ++ b) y ∙ ap (λ us. a ++ us) (append_assoc s b y));
  back = λ x y fits a s b e. fits (x ++ a) s b (ap (λ us. x ++ us) e ∙ sym (append_assoc x a (s ++ b)));
  Meets = λ A x y. x ≡ y;
  same = λ A x. refl;
  joins = λ A x y z v w. v ∙ w;
  kept = λ A B f x y v. ap f v;
}

cut_same : Maps nested Expr (cut_within 32) expr
cut_same = record { image = λ ts x fits w. (x, refl, (32, kept 32 ts x w (λ a b e. fits [] a b e))) }

-- nothing is cut of a design
pub cut_whole : (ts : List Lexeme) (tree : Tree) → NestsIn ts → (design_over cut).words ts tree → design.words ts tree
unfolding cut
cut_whole ts tree fits w =
    let (other, is_same, v) = (maps_design nested (cut_within 32) expr cut_same).image ts tree fits w in
    let P : Tree → Type 0 = λ x. design.words ts x in
    subst P (sym is_same) v
