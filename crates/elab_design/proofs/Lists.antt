-- Elements of lists.
use Rattle.std.proofs.Common.{◌≡◌, ℕ, zero, suc, ◌+◌, List, [], ◌∷◌, ◌++◌, map, length, slice_get, Option, Some, ◌⊎◌, inl, inr, refl, ap, sym, ◌∙◌, arith}
use Rattle.std.specs.List.{flat_map, filter_map}
use Rattle.std.specs.Option.{option_map}
use Rattle.std.proofs.lemmas.Option.{slice_get-map}
use Rattle.net_core.proofs.ListLemmas.{option_map_some, slice_get_append, slice_get_left, slice_get_right, flat_map_some, flat_map_at, filter_map_some, filter_map_at}
use Rattle.vlog_parse.specs.ReadTree.{In}
use Rattle.vlog_check.specs.Scope.{numbered_from}

pub in_none : {X : Type 0} (x : X) → In {X = X} [] x → ⊥
in_none x (k, at) = cc at

pub in_left : {X : Type 0} (xs ys : List X) (x : X) → In xs x → In (xs ++ ys) x
in_left xs ys x (k, at) = (k, slice_get_left xs ys k x at)

pub in_right : {X : Type 0} (xs ys : List X) (x : X) → In ys x → In (xs ++ ys) x
in_right xs ys x (k, at) = (length xs + k, slice_get_right xs ys (length xs + k) k x refl at)

pub in_append : {X : Type 0} (xs ys : List X) (x : X) → In (xs ++ ys) x → In xs x ⊎ In ys x
in_append xs ys x (k, at) = elim (slice_get_append xs ys k x at) [ inl here ↦ inl (k, here) | inr later ↦ inr (later.0, later.2) ]

pub in_one : {X : Type 0} (x y : X) → In (x ∷ []) y → x ≡ y
in_one x y (zero, at) = cc at
in_one x y (suc k, at) = absurd (cc at)

pub in_map : {X Y : Type 0} (f : X → Y) (xs : List X) (x : X) → In xs x → In (map f xs) (f x)
in_map f xs x (k, at) = (k, slice_get-map f xs k ∙ ap (option_map f) at)

pub map_in : {X Y : Type 0} (f : X → Y) (xs : List X) (y : Y) → In (map f xs) y → (x : X) × In xs x × (f x ≡ y)
map_in f xs y (k, at) = let own = option_map_some f (slice_get xs k) y (sym (slice_get-map f xs k) ∙ at) in (own.0, (k, own.1), own.2)

pub in_flat_map : {X Y : Type 0} (f : X → List Y) (xs : List X) (x : X) (y : Y) → In xs x → In (f x) y → In (flat_map f xs) y
in_flat_map f xs x y (j, at) (i, within) = flat_map_at f xs j x i y at within

pub flat_map_in : {X Y : Type 0} (f : X → List Y) (xs : List X) (y : Y) → In (flat_map f xs) y → (x : X) × In xs x × In (f x) y
flat_map_in f xs y (k, at) = let own = flat_map_some f xs k y at in (own.1, (own.0, own.3), (own.2, own.4))

pub in_filter_map : {X Y : Type 0} (f : X → Option Y) (xs : List X) (x : X) (y : Y) → In xs x → f x ≡ Some y → In (filter_map f xs) y
in_filter_map f xs x y (j, at) gives = filter_map_at f xs j x y at gives

pub filter_map_in : {X Y : Type 0} (f : X → Option Y) (xs : List X) (y : Y) → In (filter_map f xs) y → (x : X) × In xs x × (f x ≡ Some y)
filter_map_in f xs y (k, at) = let own = filter_map_some f xs k y at in (own.1, (own.0, own.2), own.3)

pub same_on : {X Y : Type 0} (f g : X → Y) (xs : List X) → ((x : X) → In xs x → f x ≡ g x) → map f xs ≡ map g xs
same_on f g [] same = refl
same_on f g (x ∷ xs) same = λ i. same x (0, refl) i ∷ same_on f g xs (λ y own. same y (suc own.0, own.1)) i

pub map_of_map : {X Y Z : Type 0} (g : Y → Z) (f : X → Y) (xs : List X) → map g (map f xs) ≡ map (λ x. g (f x)) xs
map_of_map g f [] = refl
map_of_map g f (x ∷ xs) = ap (λ ys. g (f x) ∷ ys) (map_of_map g f xs)

-- names with their numbers

numbered : (a : ℕ) (names : List (List ℕ)) (k : ℕ) → slice_get (numbered_from a names) k ≡ option_map (λ (name : List ℕ). (name, a + k)) (slice_get names k)
numbered a [] k = refl
numbered a (name ∷ names) zero = let e : a ≡ a + 0 = omega arith in ap (λ n. Some (name, n)) e
numbered a (name ∷ names) (suc k) = numbered (a + 1) names k ∙ (let e : a + 1 + k ≡ a + suc k = omega arith in ap (λ n. option_map (λ (x : List ℕ). (x, n)) (slice_get names k)) e)

pub numbered_at : (names : List (List ℕ)) (k : ℕ) (name : List ℕ) → slice_get names k ≡ Some name → slice_get (numbered_from 0 names) k ≡ Some (name, k)
numbered_at names k name at = let e : 0 + k ≡ k = omega arith in numbered 0 names k ∙ ap (option_map (λ (x : List ℕ). (x, 0 + k))) at ∙ ap (λ n. Some (name, n)) e

pub at_number : (names : List (List ℕ)) (k : ℕ) (entry : List ℕ × ℕ) → slice_get (numbered_from 0 names) k ≡ Some entry → (slice_get names k ≡ Some entry.0) × (entry.1 ≡ k)
at_number names k entry at =
    let own = option_map_some (λ (x : List ℕ). (x, 0 + k)) (slice_get names k) entry (sym (numbered 0 names k) ∙ at) in
    let e : 0 + k ≡ k = omega arith in
    (own.1 ∙ ap (λ (x : List ℕ × ℕ). Some x.0) own.2, sym (ap (λ (x : List ℕ × ℕ). x.1) own.2) ∙ e)
