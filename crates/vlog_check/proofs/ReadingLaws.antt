-- What is read of the leaves of an expression.
use Rattle.std.proofs.Common.{◌≡◌, ℕ, zero, suc, ◌+◌, ◌^◌, ◌<◌, ◌≤◌, Bool, true, false, not, ◌&&◌, ◌||◌, List, [], ◌∷◌, ◌++◌, length, map, take, get_or, slice_get, Option, Some, None, refl, ap, sym, subst, ◌∙◌, inl, inr, ◌⊎◌, ⊎_elim, arith, length-append, zero-add, append-nil}
use Rattle.std.specs.List.{flat_map, list_all, list_any}
use Rattle.std.specs.Option.{option_or}
use Rattle.std.proofs.lemmas.List.{take_more, take_all}
use Rattle.std.proofs.lemmas.List.Concat.{flat_map-append}
use Rattle.std.proofs.lemmas.List.Folds.{list_all-append, list_any-append}
use Rattle.std.proofs.lemmas.List.Sums.{sum_by-append}
use Rattle.std.proofs.lemmas.Option.{same_Some}
use Rattle.ila_base.specs.declared.refusal.NetRefusal.TheVariants as refusals
use Rattle.vlog_parse.specs.declared.tree.Expr.{Expr, fold-roll-Expr}
use Rattle.vlog_parse.specs.declared.tree.Expr.TheVariants.{Concat, rolls-Concat}
use Rattle.vlog_parse.specs.declared.tree.Expr.TheOpen as layer
use Rattle.vlog_parse.specs.declared.tree.Module.{Module}
use Rattle.vlog_parse.specs.Leaves.{Leaf, leaves, leaves_at, leaf_place}
use Rattle.vlog_check.specs.declared.expr.Reading.{Reading}
use Rattle.vlog_check.specs.declared.found.Detail.TheVariants.{Alone}
use Rattle.vlog_check.specs.declared.found.Found.{Found}
use Rattle.vlog_check.specs.Found.{IsLeastFinding, FindsAmong, earlier}
use Rattle.vlog_check.specs.FindingWidths.{FindsLeaf, finding}
use Rattle.vlog_check.specs.Names.{IsReading, head_place, joined}
use Rattle.vlog_check.specs.Scope.{leaf_width, width_of, is_declared, is_fixed, leaf_text}
use Rattle.vlog_check.proofs.LeastLaws.{least_as, least_both, least_where, least_unless}

-- Leaves

flat_map_map : {X Y : Type 0} (f : X → List Y) (xs : List X) → flat_map (λ (ys : List Y). ys) (map f xs) ≡ flat_map f xs
flat_map_map f [] = refl
flat_map_map f (x ∷ xs) = ap (λ rest. f x ++ rest) (flat_map_map f xs)

-- the leaves of a concatenation are those of its parts
pub leaves-Concat : (parts : List Expr) → leaves (Concat parts) ≡ flat_map leaves parts
leaves-Concat parts = ap leaves (sym (rolls-Concat parts)) ∙ (fold-roll-Expr (List Leaf) leaves_at (layer.Concat parts) ∙ flat_map_map leaves parts)

-- those of the first parts, of one more, and of all
pub flat_map-take_more : {X Y : Type 0} (f : X → List Y) (xs : List X) (i : ℕ) (d : X) → i < length xs → flat_map f (take (i + 1) xs) ≡ flat_map f (take i xs) ++ f (get_or xs i d)
flat_map-take_more f xs i d low = ap (flat_map f) (take_more xs i d low) ∙ flat_map-append f (take i xs) (get_or xs i d ∷ []) ∙ ap (λ r. flat_map f (take i xs) ++ r) (append-nil (f (get_or xs i d)))

pub length-flat_map-take : {X Y : Type 0} (f : X → List Y) (xs : List X) (i : ℕ) → length (flat_map f (take i xs)) ≤ length (flat_map f xs)
length-flat_map-take f [] zero = omega arith
length-flat_map-take f [] (suc i) = omega arith
length-flat_map-take f (x ∷ xs) zero = omega arith
length-flat_map-take f (x ∷ xs) (suc i) = omega (arith, length-append (f x) (flat_map f (take i xs)), length-append (f x) (flat_map f xs), length-flat_map-take f xs i)

-- Findings among leaves

module _ {X : Type 0} (F : X → Found → Type 0) where
  Among : List X → Found → Type 0
  Among xs = FindsAmong (λ k x f. F x f) xs

  pub among_split : (xs ys : List X) (k : ℕ) (x : X) → slice_get (xs ++ ys) k ≡ Some x → ((j : ℕ) × (slice_get xs j ≡ Some x)) ⊎ ((j : ℕ) × (slice_get ys j ≡ Some x))
  among_split [] ys k x at = inr (k, at)
  among_split (z ∷ zs) ys zero x at = inl (zero, at)
  among_split (z ∷ zs) ys (suc k) x at = ⊎_elim (λ h. inl (suc h.0, h.1)) (λ h. inr h) (among_split zs ys k x at)

  pub among_left : (xs ys : List X) (k : ℕ) (x : X) → slice_get xs k ≡ Some x → (j : ℕ) × (slice_get (xs ++ ys) j ≡ Some x)
  among_left [] ys k x at = absurd (none_some x at)
    where
      none_some : (y : X) → None ≡ Some y → ⊥
      none_some y e = cc
  among_left (z ∷ zs) ys zero x at = (zero, at)
  among_left (z ∷ zs) ys (suc k) x at = let h = among_left zs ys k x at in (suc h.0, h.1)

  pub among_right : (xs ys : List X) (k : ℕ) (x : X) → slice_get ys k ≡ Some x → (j : ℕ) × (slice_get (xs ++ ys) j ≡ Some x)
  among_right [] ys k x at = (k, at)
  among_right (z ∷ zs) ys k x at = let h = among_right zs ys k x at in (suc h.0, h.1)

  pub least_append : (xs ys : List X) (a b : Option Found) → IsLeastFinding (FindsAmong (λ k x f. F x f) xs) a → IsLeastFinding (FindsAmong (λ k x f. F x f) ys) b
      → IsLeastFinding (FindsAmong (λ k x f. F x f) (xs ++ ys)) (earlier a b)
  least_append xs ys a b p q = least_as (λ f. FindsAmong (λ k x g. F x g) xs f ⊎ FindsAmong (λ k x g. F x g) ys f) (FindsAmong (λ k x f. F x f) (xs ++ ys)) (earlier a b) to from
      (least_both (FindsAmong (λ k x f. F x f) xs) (FindsAmong (λ k x f. F x f) ys) a b p q)
    where
      to : (f : Found) → FindsAmong (λ k x g. F x g) xs f ⊎ FindsAmong (λ k x g. F x g) ys f → FindsAmong (λ k x g. F x g) (xs ++ ys) f
      to f (inl h) = let j = among_left xs ys h.0 h.1 h.2 in (j.0, h.1, j.1, h.3)
      to f (inr h) = let j = among_right xs ys h.0 h.1 h.2 in (j.0, h.1, j.1, h.3)

      from : (f : Found) → FindsAmong (λ k x g. F x g) (xs ++ ys) f → FindsAmong (λ k x g. F x g) xs f ⊎ FindsAmong (λ k x g. F x g) ys f
      from f h = ⊎_elim (λ j. inl (j.0, h.1, j.1, h.3)) (λ j. inr (j.0, h.1, j.1, h.3)) (among_split xs ys h.0 h.1 h.2)

  pub least_single : (x : X) (o : Option Found) → IsLeastFinding (F x) o → IsLeastFinding (FindsAmong (λ k y f. F y f) (x ∷ [])) o
  least_single x o least = least_as (F x) (FindsAmong (λ k y f. F y f) (x ∷ [])) o (λ f h. (0, x, refl, h)) (λ f h. from f h.0 h.1 h.2 h.3) least
    where
      from : (f : Found) (k : ℕ) (y : X) → slice_get (x ∷ []) k ≡ Some y → F y f → F x f
      from f zero y at h = subst (λ z. F z f) (sym (same_Some x y at)) h
      from f (suc k) y at h = absurd (none_some at)
        where
          none_some : None ≡ Some y → ⊥
          none_some e = cc

-- Readings

-- a leaf that is declared
pub reading_declared : (m : Module) (leaf : Leaf) (r : Reading) → is_declared m leaf ≡ true → r.place ≡ Some (leaf_place leaf) → r.width ≡ leaf_width m leaf → r.width ≤ 2 ^ 32
    → r.sound ≡ true → r.fixed ≡ is_fixed leaf → r.found ≡ None → IsReading m (leaf ∷ []) r
reading_declared m leaf r known first bits small sound fixed none = record {
  first = first;
  bits = omega (arith, zero-add (leaf_width m leaf));
  bound = omega (arith, zero-add (leaf_width m leaf));
  all = sound ∙ sym (ap (λ b. b && true) known);
  any = fixed ∙ or_false (is_fixed leaf);
  least = subst (IsLeastFinding (FindsAmong (λ k l f. FindsLeaf m l f) (leaf ∷ []))) (sym none)
      (least_single (FindsLeaf m) leaf None (least_unless (not (is_declared m leaf)) (finding (leaf_place leaf) Alone (refusals.Undeclared (leaf_text leaf))) (ap not known)));
}
  where
    or_false : (b : Bool) → b ≡ (b || false)
    or_false true = refl
    or_false false = refl

-- a leaf that isn't
pub reading_undeclared : (m : Module) (leaf : Leaf) (r : Reading) → is_declared m leaf ≡ false → r.place ≡ Some (leaf_place leaf) → r.width ≡ leaf_width m leaf → r.width ≤ 2 ^ 32
    → r.sound ≡ false → r.fixed ≡ is_fixed leaf
    → r.found ≡ Some (record { place = leaf_place leaf; subject = 0; detail = Alone; refusal = refusals.Undeclared (leaf_text leaf) }) → IsReading m (leaf ∷ []) r
reading_undeclared m leaf r unknown first bits small sound fixed some = record {
  first = first;
  bits = omega (arith, zero-add (leaf_width m leaf));
  bound = omega (arith, zero-add (leaf_width m leaf));
  all = sound ∙ sym (ap (λ b. b && true) unknown);
  any = fixed ∙ or_false (is_fixed leaf);
  least = subst (IsLeastFinding (FindsAmong (λ k l f. FindsLeaf m l f) (leaf ∷ []))) (sym some)
      (least_single (FindsLeaf m) leaf (Some (finding (leaf_place leaf) Alone (refusals.Undeclared (leaf_text leaf)))) (least_where (not (is_declared m leaf)) (finding (leaf_place leaf) Alone (refusals.Undeclared (leaf_text leaf))) (ap not unknown)));
}
  where
    or_false : (b : Bool) → b ≡ (b || false)
    or_false true = refl
    or_false false = refl

-- leaves one behind the other
pub reading_joined : (m : Module) (xs ys : List Leaf) (a b : Reading) → IsReading m xs a → IsReading m ys b → IsReading m (xs ++ ys) (joined a b)
reading_joined m xs ys a b p q = record {
  first = ap (λ o. option_or o b.place) p.first ∙ ap (option_or (head_place xs)) q.first ∙ heads xs;
  bits = omega (arith, p.bits, q.bits, sum_by-append (leaf_width m) xs ys);
  bound = omega (arith, p.bound, q.bound, length-append xs ys, sum_by-append (leaf_width m) xs ys);
  all = ap (λ s. s && b.sound) p.all ∙ ap (λ s. list_all (is_declared m) xs && s) q.all ∙ sym (list_all-append (is_declared m) xs ys);
  any = ap (λ s. s || b.fixed) p.any ∙ ap (λ s. list_any is_fixed xs || s) q.any ∙ sym (list_any-append is_fixed xs ys);
  least = least_append (FindsLeaf m) xs ys a.found b.found p.least q.least;
}
  where
    heads : (zs : List Leaf) → option_or (head_place zs) (head_place ys) ≡ head_place (zs ++ ys)
    heads [] = refl
    heads (z ∷ zs) = refl

-- nothing read yet
pub reading_empty : (m : Module) (r : Reading) → r.place ≡ None → r.width ≡ 0 → r.sound ≡ true → r.fixed ≡ false → r.found ≡ None → IsReading m [] r
reading_empty m r first bits sound fixed none = record {
  first = first;
  bits = omega arith;
  bound = omega arith;
  all = sound;
  any = fixed;
  least = subst (IsLeastFinding (FindsAmong (λ k l f. FindsLeaf m l f) [])) (sym none) (λ f h. none_some h.1 h.2);
}
  where
    none_some : (y : Leaf) → None ≡ Some y → ⊥
    none_some y e = cc

-- A loop over the parts of a concatenation

pub parts_more : (xs : List Expr) (i : ℕ) (part : Expr) → i < length xs → part ≡ get_or xs i part → flat_map leaves (take (i + 1) xs) ≡ flat_map leaves (take i xs) ++ leaves part
parts_more xs i part low is = flat_map-take_more leaves xs i part low ∙ ap (λ p. flat_map leaves (take i xs) ++ leaves p) (sym is)

-- an expression of few leaves has the width that was read
pub reading_width : (m : Module) (e : Expr) (r : Reading) → length (leaves e) ≤ 67108864 → IsReading m (leaves e) r → r.width ≡ width_of m e
reading_width m e r few reading = omega (arith, reading.bits, reading.bound)

pub parts_all : (e : Expr) (parts xs : List Expr) (i : ℕ) → e ≡ Concat parts → xs ≡ parts → length xs ≤ i → flat_map leaves (take i xs) ≡ leaves e
parts_all e parts xs i is same end = ap (flat_map leaves) (take_all i xs end ∙ same) ∙ sym (leaves-Concat parts) ∙ ap leaves (sym is)
