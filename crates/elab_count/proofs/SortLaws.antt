-- The nodes of a graph with their numbers, sorted.
use Rattle.std.proofs.Common.{◌≡◌, ℕ, zero, suc, ◌+◌, ◌<◌, ◌≤◌, Bool, true, false, cond, List, [], ◌∷◌, ◌++◌, length, take, get_or, slice_get, Some, refl, ap, sym, ◌∙◌, arith, true≢false, inl, inr, nat_lt, nat_eq}
use Rattle.std.specs.List.{slice_index, Contains}
use Rattle.std.specs.List.Sorted.{IsPermutation, IsNonDecreasingBy, IsSorted}
use Rattle.std.specs.Ordering.{nat_cmp, is_lt, ordering_then}
use Rattle.std.specs.declared.cmp.Ordering.TheVariants.{Less, Equal, Greater}
use Rattle.std.proofs.lemmas.Bool.{cases_lt}
use Rattle.std.proofs.lemmas.List.{take_more, length-take}
use Rattle.std.proofs.lemmas.List.Sorted.{Contains-permutation, IsPermutation-sym, IsNonDecreasingBy-from_all_adjacent}
use Rattle.std.proofs.lemmas.Option.{slice_get_within, slice_get-get_or, get_or_from_slice_get, same_Some}
use Rattle.net_graph.specs.declared.graph.Graph.{Graph}
use Rattle.net_graph.specs.Graph.{Leads, node_count, IsRanked}
use Rattle.elab_count.specs.Instances.{AreSorted, IsSorting}

-- numbers, each with its place
abbrev pub numbered : ℕ → List ℕ → List (ℕ × ℕ)
numbered k [] = []
numbered k (r ∷ ranks) = (r, k) ∷ numbered (k + 1) ranks

numbered_push : (k : ℕ) (ranks : List ℕ) (r n : ℕ) → n ≡ k + length ranks → numbered k (ranks ++ r ∷ []) ≡ numbered k ranks ++ (r, n) ∷ []
numbered_push k [] r n is = ap (λ m. (r, m) ∷ []) (let e : k ≡ n = omega (arith, is) in e)
numbered_push k (x ∷ ranks) r n is = ap (λ rest. (x, k) ∷ rest) (numbered_push (k + 1) ranks r n (omega (arith, is)))

pub numbered_more : (ranks : List ℕ) (k r : ℕ) → k < length ranks → r ≡ get_or ranks k r → numbered 0 (take k ranks) ++ (r, k) ∷ [] ≡ numbered 0 (take (k + 1) ranks)
numbered_more ranks k r low is =
    sym (numbered_push 0 (take k ranks) r k (omega (arith, length-take k ranks, low))) ∙ ap (λ x. numbered 0 (take k ranks ++ x ∷ [])) is ∙ ap (numbered 0) (sym (take_more ranks k r low))

of_numbered : (k : ℕ) (ranks : List ℕ) (i r n : ℕ) → slice_get (numbered k ranks) i ≡ Some (r, n) → (n ≡ k + i) × (slice_get ranks i ≡ Some r)
of_numbered k [] i r n at = absurd (cc at)
of_numbered k (x ∷ ranks) zero r n at = let e : (x, k) ≡ (r, n) = same_Some (x, k) (r, n) at in (omega (arith, ap (λ (p : ℕ × ℕ). p.1) e), ap (λ (p : ℕ × ℕ). Some p.0) e)
of_numbered k (x ∷ ranks) (suc i) r n at = let rest = of_numbered (k + 1) ranks i r n at in (omega (arith, rest.0), rest.1)

at_numbered : (k : ℕ) (ranks : List ℕ) (i r n : ℕ) → n ≡ k + i → slice_get ranks i ≡ Some r → slice_get (numbered k ranks) i ≡ Some (r, n)
at_numbered k [] i r n is at = absurd (cc at)
at_numbered k (x ∷ ranks) zero r n is at = ap (λ m. Some (x, m)) (let e : k ≡ n = omega (arith, is) in e) ∙ ap (λ y. Some (y, n)) (same_Some x r at)
at_numbered k (x ∷ ranks) (suc i) r n is at = at_numbered (k + 1) ranks i r n (omega (arith, is)) at

to_contains : {X : Type 0} (xs : List X) (i : ℕ) (x : X) → slice_get xs i ≡ Some x → Contains xs x
to_contains xs i x at = (i, slice_get_within xs i x at, get_or_from_slice_get xs i x x at)

from_contains : {X : Type 0} (xs : List X) (x : X) (h : Contains xs x) → slice_get xs h.0 ≡ Some x
from_contains xs x h = slice_get-get_or xs h.0 x h.1 ∙ ap (λ y. Some y) h.2

pub are_sorted : (ranks : List ℕ) (old new : List (ℕ × ℕ)) → old ≡ numbered 0 ranks → IsPermutation old new → IsNonDecreasingBy (λ (p : ℕ × ℕ). p.0) new → AreSorted ranks new
are_sorted ranks old new is moved rises = record {
  own = own;
  all = all;
  rising = λ i j r s a b upto at on. (let d : ℕ × ℕ = (0, 0) in
      omega (arith, rises i j d upto (slice_get_within new j (s, b) on), ap (λ (p : ℕ × ℕ). p.0) (get_or_from_slice_get new i (r, a) d at), ap (λ (p : ℕ × ℕ). p.0) (get_or_from_slice_get new j (s, b) d on)));
}
  where
    own : (i r n : ℕ) → slice_get new i ≡ Some (r, n) → slice_get ranks n ≡ Some r
    own i r n at =
        let there = Contains-permutation new old (r, n) (IsPermutation-sym old new moved) (to_contains new i (r, n) at) in
        let found = of_numbered 0 ranks there.0 r n (ap (λ xs. slice_get xs there.0) (sym is) ∙ from_contains old (r, n) there) in
        let e : n ≡ there.0 = omega (arith, found.0) in
        ap (slice_get ranks) e ∙ found.1

    all : (n r : ℕ) → slice_get ranks n ≡ Some r → (i : ℕ) × (slice_get new i ≡ Some (r, n))
    all n r at =
        let there = Contains-permutation old new (r, n) moved (to_contains old n (r, n) (ap (λ xs. slice_get xs n) is ∙ at_numbered 0 ranks n r n (omega arith) at)) in
        (there.0, from_contains new (r, n) there)

pub is_sorting : (graph : Graph) (ranks : List ℕ) (order : List (ℕ × ℕ)) → length ranks ≡ node_count graph → IsRanked (Leads graph) (slice_index ranks) → AreSorted ranks order → IsSorting graph order
is_sorting graph ranks order size ranked sorted = record {
  within = λ i r n at. omega (arith, size, slice_get_within ranks n r (sorted.own i r n at));
  all = λ n low. (let found = sorted.all n (get_or ranks n 0) (slice_get-get_or ranks n 0 (omega (arith, low, size))) in (found.0, get_or ranks n 0, found.1));
  behind = λ i j r s a b upto at on leads.
      omega (arith, sorted.rising i j r s a b upto at on, ranked b a leads, get_or_from_slice_get ranks a r 0 (sorted.own i r a at), get_or_from_slice_get ranks b s 0 (sorted.own j s b on));
}

pub rising_of_sort : (xs : List (ℕ × ℕ)) → IsSorted (λ (a b : ℕ × ℕ). ordering_then (nat_cmp a.0 b.0) (nat_cmp a.1 b.1)) xs → IsNonDecreasingBy (λ (p : ℕ × ℕ). p.0) xs
rising_of_sort xs sorted = IsNonDecreasingBy-from_all_adjacent (λ (p : ℕ × ℕ). p.0) xs (λ k d low. by (get_or xs k d) (get_or xs (k + 1) d) (sorted k d (omega arith) low))
  where
    by : (a b : ℕ × ℕ) → is_lt (ordering_then (nat_cmp b.0 a.0) (nat_cmp b.1 a.1)) ≡ false → a.0 ≤ b.0
    by a b late = elim (cases_lt b.0 a.0) [
      | inl low ↦ absurd (true≢false (sym (ap (λ o. is_lt (ordering_then o (nat_cmp b.1 a.1))) (below (nat_lt b.0 a.0) (nat_eq b.0 a.0) (search (arith, low)))) ∙ late))
      | inr high ↦ omega (arith, high)
    ]
      where
        below : (p q : Bool) → p ≡ true → cond p Less (cond q Equal Greater) ≡ Less
        below true q is = refl
        below false q is = absurd (true≢false (sym is))
