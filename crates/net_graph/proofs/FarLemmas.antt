-- Ways along edges, joined; and elements of the parts of a list.
use Rattle.std.proofs.Common.{◌≡◌, ◌≢◌, ℕ, zero, suc, ◌+◌, ◌<◌, List, [], ◌∷◌, take, drop, slice_get, Some, ap, sym, ◌∙◌, subst, arith, ◌⊎◌, inl, inr}
use Rattle.std.proofs.lemmas.Bool.{cases_eq}
use Rattle.net_graph.specs.declared.graph.Graph.{Graph}
use Rattle.net_graph.specs.Lists.{IsIn}
use Rattle.net_graph.specs.Recurrent.{LeadsFar, LeadsTo, one, more}

pub far_after : (graph : Graph) (m k n : ℕ) → LeadsFar graph m k → LeadsFar graph k n → LeadsFar graph m n
far_after graph m k n way (one _ _ edge) = more m k n way edge
far_after graph m k n way (more _ j _ rest edge) = more m j n (far_after graph m k j way rest) edge

pub to_far : (graph : Graph) (m k n : ℕ) → LeadsTo graph m k → LeadsFar graph k n → LeadsFar graph m n
to_far graph m k n (inl same) way = subst (λ (u : ℕ). LeadsFar graph u n) (sym same) way
to_far graph m k n (inr first) way = far_after graph m k n first way

pub far_to : (graph : Graph) (m k n : ℕ) → LeadsFar graph m k → LeadsTo graph k n → LeadsFar graph m n
far_to graph m k n way (inl same) = subst (λ (u : ℕ). LeadsFar graph m u) same way
far_to graph m k n way (inr rest) = far_after graph m k n way rest

pub to_after : (graph : Graph) (m k n : ℕ) → LeadsTo graph m k → LeadsTo graph k n → LeadsTo graph m n
to_after graph m k n (inl same) way = subst (λ (u : ℕ). LeadsTo graph u n) (sym same) way
to_after graph m k n (inr first) way = inr (far_to graph m k n first way)

pub to_other : (graph : Graph) (m n : ℕ) → LeadsTo graph m n → m ≢ n → LeadsFar graph m n
to_other graph m n (inl same) other = absurd (other same)
to_other graph m n (inr way) other = way

-- Parts of lists

pub in_take : {A : Type 0} (k : ℕ) (xs : List A) (i : ℕ) (x : A) → slice_get (take k xs) i ≡ Some x → (slice_get xs i ≡ Some x) × (i < k)
in_take zero xs i x at = absurd (cc at)
in_take (suc k) [] i x at = absurd (cc at)
in_take (suc k) (y ∷ xs) zero x at = (at, omega arith)
in_take (suc k) (y ∷ xs) (suc i) x at = let rest = in_take k xs i x at in (rest.0, omega (arith, rest.1))

pub take_in : {A : Type 0} (k : ℕ) (xs : List A) (i : ℕ) (x : A) → slice_get xs i ≡ Some x → i < k → slice_get (take k xs) i ≡ Some x
take_in zero xs i x at low = absurd (omega (arith, low))
take_in (suc k) [] i x at low = absurd (cc at)
take_in (suc k) (y ∷ xs) zero x at low = at
take_in (suc k) (y ∷ xs) (suc i) x at low = take_in k xs i x at (omega (arith, low))

pub in_drop : {A : Type 0} (k : ℕ) (xs : List A) (i : ℕ) (x : A) → slice_get (drop k xs) i ≡ Some x → slice_get xs (k + i) ≡ Some x
in_drop zero xs i x at = let e : i ≡ 0 + i = omega arith in ap (slice_get xs) (sym e) ∙ at
in_drop (suc k) [] i x at = absurd (cc at)
in_drop (suc k) (y ∷ xs) i x at = let e : suc k + i ≡ suc (k + i) = omega arith in ap (slice_get (y ∷ xs)) e ∙ in_drop k xs i x at

pub drop_in : {A : Type 0} (k : ℕ) (xs : List A) (i j : ℕ) (x : A) → slice_get xs i ≡ Some x → i ≡ k + j → slice_get (drop k xs) j ≡ Some x
drop_in zero xs i j x at is = let e : j ≡ i = omega (arith, is) in ap (slice_get xs) e ∙ at
drop_in (suc k) [] i j x at is = absurd (cc at)
drop_in (suc k) (y ∷ xs) zero j x at is = absurd (omega (arith, is))
drop_in (suc k) (y ∷ xs) (suc i) j x at is = drop_in k xs i j x at (omega (arith, is))

pub in_one : (m n : ℕ) → IsIn (n ∷ []) m → m ≡ n
in_one m n (zero, at) = let e : n ≡ m = cc at in sym e
in_one m n (suc i, at) = absurd (cc at)

-- what is among the first k + 1 elements is among the first k or is the one behind them
pub take_more_in : (xs : List ℕ) (k n m : ℕ) → slice_get xs k ≡ Some n → IsIn (take (k + 1) xs) m → IsIn (take k xs) m ⊎ (m ≡ n)
take_more_in xs k n m at on =
    let own = in_take (k + 1) xs on.0 m on.1 in
    by on.0 own.0 own.1
  where
    by : (i : ℕ) → slice_get xs i ≡ Some m → i < k + 1 → IsIn (take k xs) m ⊎ (m ≡ n)
    by i here low = elim (cases_eq i k) [
      | inl is ↦ inr (let e : Some m ≡ Some n = sym here ∙ ap (slice_get xs) is ∙ at in cc e)
      | inr less ↦ inl (i, take_in k xs i m here (omega (arith, less, low)))
    ]

pub take_fewer_in : (xs : List ℕ) (k m : ℕ) → IsIn (take k xs) m → IsIn (take (k + 1) xs) m
take_fewer_in xs k m on = let own = in_take k xs on.0 m on.1 in (on.0, take_in (k + 1) xs on.0 m own.0 (omega (arith, own.1)))

pub take_last_in : (xs : List ℕ) (k n : ℕ) → slice_get xs k ≡ Some n → IsIn (take (k + 1) xs) n
take_last_in xs k n at = (k, take_in (k + 1) xs k n at (omega arith))
