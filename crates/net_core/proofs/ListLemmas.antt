-- The elements of lists that are enumerated, filtered or joined.
use Rattle.std.proofs.Common.{◌≡◌, ℕ, zero, suc, ◌+◌, Bool, true, false, cond, List, [], ◌∷◌, ◌++◌, slice_get, Option, Some, None, refl, ap, sym, ◌∙◌, arith, length, ◌⊎◌, inl, inr}
use Rattle.std.specs.List.{enumerate_from, filter_map, cons_option, flat_map}
use Rattle.std.specs.Option.{option_map}
use Rattle.std.specs.Map.{lookup}
pub use Rattle.net_graph.proofs.ListLemmas.{slice_get_left}

pub option_map_some : {A B : Type 0} (f : A → B) (o : Option A) (y : B) → option_map f o ≡ Some y → (x : A) × (o ≡ Some x) × (f x ≡ y)
option_map_some f None y e = absurd (cc e)
option_map_some f (Some x) y e = (x, refl, cc e)

pub slice_get-enumerate_from : {A : Type 0} (n : ℕ) (xs : List A) (i : ℕ) → slice_get (enumerate_from n xs) i ≡ option_map (λ x. (n + i, x)) (slice_get xs i)
slice_get-enumerate_from n [] i = refl
slice_get-enumerate_from n (x ∷ xs) zero = let e : n ≡ n + 0 = omega arith in ap (λ k. Some (k, x)) e
slice_get-enumerate_from n (x ∷ xs) (suc i) =
    slice_get-enumerate_from (n + 1) xs i ∙ (let e : n + 1 + i ≡ n + suc i = omega arith in ap (λ k. option_map (λ y. (k, y)) (slice_get xs i)) e)

-- what a look-up finds is an entry whose key passes, and it finds nothing where no key passes
module _ {K X : Type 0} (test : K → Bool) where
  pub lookup_some : (es : List (K × X)) (v : X) → lookup test es ≡ Some v → (i : ℕ) × (k : K) × (slice_get es i ≡ Some (k, v)) × (test k ≡ true)
  lookup_some [] v e = absurd (cc e)
  lookup_some (e ∷ es) v found = by (lookup_some es v) (test e.0) refl found
    where
      by : (lookup test es ≡ Some v → (i : ℕ) × (k : K) × (slice_get es i ≡ Some (k, v)) × (test k ≡ true)) → (b : Bool) → test e.0 ≡ b → cond b (Some e.1) (lookup test es) ≡ Some v → (i : ℕ) × (k : K) × (slice_get (e ∷ es) i ≡ Some (k, v)) × (test k ≡ true)
      by later true p f = let is : e.1 ≡ v = cc f in (0, e.0, ap (λ (o : X). Some (e.0, o)) is, p)
      by later false p f = let rest = later f in (suc rest.0, rest.1, rest.2, rest.3)

  pub lookup_none : (es : List (K × X)) (i : ℕ) (k : K) (v : X) → lookup test es ≡ None → slice_get es i ≡ Some (k, v) → test k ≡ false
  lookup_none [] i k v missing at = absurd (cc at)
  lookup_none (e ∷ es) i k v missing at = by (λ j. lookup_none es j k v) (test e.0) refl missing i at
    where
      by : ((j : ℕ) → lookup test es ≡ None → slice_get es j ≡ Some (k, v) → test k ≡ false) → (b : Bool) → test e.0 ≡ b → cond b (Some e.1) (lookup test es) ≡ None → (i : ℕ) → slice_get (e ∷ es) i ≡ Some (k, v) → test k ≡ false
      by later true p m i at = absurd (cc m)
      by later false p m zero at = let is : e ≡ (k, v) = cc at in sym (ap (λ (o : K × X). test o.0) is) ∙ p
      by later false p m (suc i) at = later i m at

module _ {X Y : Type 0} (f : X → Option Y) where
  pub filter_map_some : (xs : List X) (i : ℕ) (y : Y) → slice_get (filter_map f xs) i ≡ Some y → (j : ℕ) × (x : X) × (slice_get xs j ≡ Some x) × (f x ≡ Some y)
  filter_map_some [] i y at = absurd (cc at)
  filter_map_some (x ∷ xs) i y at = by (λ j. filter_map_some xs j y) (f x) refl i at
    where
      by : ((i : ℕ) → slice_get (filter_map f xs) i ≡ Some y → (j : ℕ) × (z : X) × (slice_get xs j ≡ Some z) × (f z ≡ Some y)) → (o : Option Y) → f x ≡ o → (i : ℕ) → slice_get (cons_option o (filter_map f xs)) i ≡ Some y → (j : ℕ) × (z : X) × (slice_get (x ∷ xs) j ≡ Some z) × (f z ≡ Some y)
      by later None p i at = let rest = later i at in (suc rest.0, rest.1, rest.2, rest.3)
      by later (Some z) p zero at = (0, x, refl, p ∙ at)
      by later (Some z) p (suc i) at = let rest = later i at in (suc rest.0, rest.1, rest.2, rest.3)

  pub filter_map_at : (xs : List X) (j : ℕ) (x : X) (y : Y) → slice_get xs j ≡ Some x → f x ≡ Some y → (i : ℕ) × (slice_get (filter_map f xs) i ≡ Some y)
  filter_map_at [] j x y at gives = absurd (cc at)
  filter_map_at (z ∷ zs) zero x y at gives = (0, rw (ap f (let is : z ≡ x = cc at in is) ∙ gives) refl)
  filter_map_at (z ∷ zs) (suc j) x y at gives = by (filter_map_at zs j x y at gives) (f z)
    where
      by : (i : ℕ) × (slice_get (filter_map f zs) i ≡ Some y) → (o : Option Y) → (i : ℕ) × (slice_get (cons_option o (filter_map f zs)) i ≡ Some y)
      by rest None = rest
      by rest (Some w) = (suc rest.0, rest.1)

-- an element of two lists joined is one of the first, or one of the second behind it
pub slice_get_append : {A : Type 0} (xs ys : List A) (n : ℕ) (y : A) → slice_get (xs ++ ys) n ≡ Some y
    → (slice_get xs n ≡ Some y) ⊎ ((m : ℕ) × (n ≡ length xs + m) × (slice_get ys m ≡ Some y))
slice_get_append [] ys n y at = inr (n, omega arith, at)
slice_get_append (x ∷ xs) ys zero y at = inl at
slice_get_append (x ∷ xs) ys (suc n) y at =
    elim (slice_get_append xs ys n y at) [ inl here ↦ inl here | inr later ↦ inr (later.0, (let e : n ≡ length xs + later.0 = later.1 in omega arith), later.2) ]

pub slice_get_right : {A : Type 0} (xs ys : List A) (n m : ℕ) (y : A) → n ≡ length xs + m → slice_get ys m ≡ Some y → slice_get (xs ++ ys) n ≡ Some y
slice_get_right [] ys n m y is at = (let e : n ≡ m = omega arith in ap (slice_get ys) e) ∙ at
slice_get_right (x ∷ xs) ys zero m y is at = absurd (omega arith)
slice_get_right (x ∷ xs) ys (suc n) m y is at = slice_get_right xs ys n m y (omega arith) at

module _ {X Y : Type 0} (f : X → List Y) where
  -- an element of the lists joined is one of a list
  pub flat_map_some : (xs : List X) (n : ℕ) (y : Y) → slice_get (flat_map f xs) n ≡ Some y
      → (j : ℕ) × (x : X) × (i : ℕ) × (slice_get xs j ≡ Some x) × (slice_get (f x) i ≡ Some y)
  flat_map_some [] n y at = absurd (cc at)
  flat_map_some (x ∷ xs) n y at =
      elim (slice_get_append (f x) (flat_map f xs) n y at) [
        | inl here ↦ (0, x, n, refl, here)
        | inr later ↦ (let rest = flat_map_some xs later.0 y later.2 in (suc rest.0, rest.1, rest.2, rest.3, rest.4))
      ]

  pub flat_map_at : (xs : List X) (j : ℕ) (x : X) (i : ℕ) (y : Y) → slice_get xs j ≡ Some x → slice_get (f x) i ≡ Some y
      → (n : ℕ) × (slice_get (flat_map f xs) n ≡ Some y)
  flat_map_at [] j x i y at within = absurd (cc at)
  flat_map_at (z ∷ zs) zero x i y at within =
      let is : x ≡ z = cc at in
      (i, slice_get_left (f z) (flat_map f zs) i y (sym (ap (λ (o : X). slice_get (f o) i) is) ∙ within))
  flat_map_at (z ∷ zs) (suc j) x i y at within =
      let rest = flat_map_at zs j x i y at within in
      (length (f z) + rest.0, slice_get_right (f z) (flat_map f zs) (length (f z) + rest.0) rest.0 y refl rest.1)
