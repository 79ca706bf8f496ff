-- A graph with finitely many nodes and without a cycle has numbers that rise along its edges: of each node, how many paths end there.
use Rattle.std.proofs.Common.{◌≡◌, ◌≢◌, ℕ, zero, suc, ◌+◌, ◌<◌, ◌≤◌, List, [], ◌∷◌, length, take, slice_get, get_or, Some, refl, ap, sym, ◌∙◌, subst, arith, inl, inr, ◌⊎◌, ◌↔◌}
use Rattle.std.specs.Prelude.{⊤}
use Rattle.std.proofs.lemmas.Bool.{cases_eq}
use Rattle.std.proofs.lemmas.Option.{slice_get-get_or, slice_get_within, same_Some}
use Rattle.net_graph.specs.Lists.{IsIn, AllDiffer}
use Rattle.net_graph.specs.Graph.{IsCycle, IsRanked}
use Rattle.net_core.proofs.ClockLemmas.{pigeonhole}

-- Lists

taken : (k : ℕ) (xs : List ℕ) (i x : ℕ) → slice_get (take k xs) i ≡ Some x → (i < k) × (slice_get xs i ≡ Some x)
taken zero [] i x at = absurd (cc at)
taken zero (y ∷ ys) i x at = absurd (cc at)
taken (suc k) [] i x at = absurd (cc at)
taken (suc k) (y ∷ ys) zero x at = (omega arith, at)
taken (suc k) (y ∷ ys) (suc i) x at = let rest = taken k ys i x at in (omega (arith, rest.0), rest.1)

length_taken : (k : ℕ) (xs : List ℕ) → k ≤ length xs → length (take k xs) ≡ k
length_taken zero [] low = refl
length_taken zero (y ∷ ys) low = refl
length_taken (suc k) [] low = absurd (omega (arith, low))
length_taken (suc k) (y ∷ ys) low = ap suc (length_taken k ys (omega (arith, low)))

is_in : (x : ℕ) (xs : List ℕ) → IsIn xs x ⊎ ¬ IsIn xs x
is_in x [] = inr (λ (i, at). absurd (cc at))
is_in x (y ∷ ys) = elim (cases_eq y x) [
  | inl same ↦ inl (0, ap (λ (z : ℕ). Some z) same)
  | inr other ↦ (elim (is_in x ys) [
    | inl own ↦ inl (suc own.0, own.1)
    | inr none ↦ inr (λ (i, at). by none other i at)
  ])
]
  where
    by : ¬ IsIn ys x → y ≢ x → (i : ℕ) → slice_get (y ∷ ys) i ≡ Some x → ⊥
    by none other zero at = other (same_Some _ _ at)
    by none other (suc i) at = none (i, at)

-- the sum over a list of one more than each value
total_of : (ℕ → ℕ) → List ℕ → ℕ
total_of g [] = 0
total_of g (x ∷ xs) = suc (g x) + total_of g xs

above : (g : ℕ → ℕ) (xs : List ℕ) (i x : ℕ) → slice_get xs i ≡ Some x → g x < total_of g xs
unfolding total_of
above g [] i x at = absurd (cc at)
above g (y ∷ ys) zero x at = let same : g y ≡ g x = ap g (same_Some _ _ at) in omega (arith, same)
above g (y ∷ ys) (suc i) x at = omega (arith, above g ys i x at)

same_total : (g h : ℕ → ℕ) (D : ℕ → Type 0) (xs : List ℕ) → ((x : ℕ) → (g x ≡ h x) ⊎ D x) → (total_of g xs ≡ total_of h xs) ⊎ ((x : ℕ) × IsIn xs x × D x)
unfolding total_of
same_total g h D [] each = inl refl
same_total g h D (y ∷ ys) each = elim (each y) [
  | inl same ↦ (elim (same_total g h D ys each) [
    | inl rest ↦ inl (omega (arith, same, rest))
    | inr deep ↦ inr (deep.0, (suc deep.1.0, deep.1.1), deep.2)
  ])
  | inr deep ↦ inr (y, (0, refl), deep)
]

module _ (leads : ℕ → ℕ → Type 0) (count : ℕ) (sources : ℕ → List ℕ) (are : (m n : ℕ) → IsIn (sources n) m ↔ leads m n)
    (low : (m n : ℕ) → leads m n → (m < count) × (n < count)) where
  -- how many paths of at most so many edges end at a node
  pub paths : ℕ → ℕ → ℕ
  paths zero n = 0
  paths (suc f) n = total_of (paths f) (sources n)

  -- a path of so many edges ends at the node
  abbrev Deep : ℕ → ℕ → Type 0
  Deep zero n = ⊤
  Deep (suc f) n = (m : ℕ) × IsIn (sources n) m × Deep f m

  rising : (f m n : ℕ) → leads m n → paths f m < paths (suc f) n
  unfolding paths
  rising f m n edge = let own = (are m n).1 edge in above (paths f) (sources n) own.0 m own.1

  stable : (f n : ℕ) → (paths (suc f) n ≡ paths f n) ⊎ Deep (suc f) n
  unfolding paths total_of
  stable zero n = by (sources n) refl
    where
      by : (xs : List ℕ) → sources n ≡ xs → (total_of (paths zero) (sources n) ≡ 0) ⊎ Deep (suc zero) n
      by [] is = inl (ap (total_of (paths zero)) is)
      by (x ∷ xs) is = inr (x, (0, ap (λ ys. slice_get ys 0) is), tt)
  stable (suc f) n = same_total (paths (suc f)) (paths f) (Deep (suc f)) (sources n) (stable f)

  -- distinct nodes, each of which leads to the next
  record IsTrail (nodes : List ℕ) : Type 0 where
    distinct : AllDiffer nodes
    next : (i m n : ℕ) → slice_get nodes i ≡ Some m → slice_get nodes (i + 1) ≡ Some n → leads m n
    within : (i m : ℕ) → slice_get nodes i ≡ Some m → m < count

  trail_short : (nodes : List ℕ) → IsTrail nodes → length nodes ≤ count
  trail_short nodes trail = pigeonhole (length nodes) count (λ k. get_or nodes k 0)
      (λ k inside. trail.within k (get_or nodes k 0) (slice_get-get_or nodes k 0 inside))
      (λ j k a b same. trail.distinct j k (get_or nodes j 0) (slice_get-get_or nodes j 0 a) (slice_get-get_or nodes k 0 b ∙ ap (λ (x : ℕ). Some x) (sym same)))

  trail_more : (m head : ℕ) (path : List ℕ) → IsTrail (head ∷ path) → leads m head → ¬ IsIn (head ∷ path) m → IsTrail (m ∷ head ∷ path)
  trail_more m head path trail edge new = record { distinct = distinct; next = next; within = within }
    where
      distinct : AllDiffer (m ∷ head ∷ path)
      distinct zero zero x a b = refl
      distinct zero (suc j) x a b = absurd (new (j, b ∙ sym a))
      distinct (suc i) zero x a b = absurd (new (i, a ∙ sym b))
      distinct (suc i) (suc j) x a b = ap suc (trail.distinct i j x a b)

      next : (i k n : ℕ) → slice_get (m ∷ head ∷ path) i ≡ Some k → slice_get (m ∷ head ∷ path) (i + 1) ≡ Some n → leads k n
      next zero k n a b =
          let from : m ≡ k = same_Some _ _ a in
          let to : head ≡ n = same_Some _ _ b in
          subst (λ (o : ℕ). leads o n) from (subst (leads m) to edge)
      next (suc i) k n a b = trail.next i k n a ((let e : suc (i + 1) ≡ suc i + 1 = omega arith in ap (slice_get (m ∷ head ∷ path)) e) ∙ b)

      within : (i k : ℕ) → slice_get (m ∷ head ∷ path) i ≡ Some k → k < count
      within zero k a = subst (λ (o : ℕ). o < count) (same_Some _ _ a) (low m head edge).0
      within (suc i) k a = trail.within i k a

  -- a trail whose first node is led to by one of its nodes ends a cycle there
  closed : (head : ℕ) (path : List ℕ) (m j : ℕ) → IsTrail (head ∷ path) → leads m head → slice_get (head ∷ path) j ≡ Some m → IsCycle leads (take (suc j) (head ∷ path))
  closed head path m j trail edge at = record {
    nonempty = omega (arith, size);
    distinct = λ a b x one two. trail.distinct a b x (taken (suc j) (head ∷ path) a x one).1 (taken (suc j) (head ∷ path) b x two).1;
    next = λ i a b one two. trail.next i a b (taken (suc j) (head ∷ path) i a one).1 (taken (suc j) (head ∷ path) (i + 1) b two).1;
    first = λ i a b last one two.
        let place : i ≡ j = omega (arith, last, size) in
        let from : m ≡ a = same_Some _ _ (sym at ∙ ap (slice_get (head ∷ path)) (sym place) ∙ (taken (suc j) (head ∷ path) i a one).1) in
        let to : head ≡ b = same_Some _ _ (taken (suc j) (head ∷ path) 0 b two).1 in
        subst (λ (o : ℕ). leads o b) from (subst (leads m) to edge);
  }
    where
      size : length (take (suc j) (head ∷ path)) ≡ suc j
      size = length_taken (suc j) (head ∷ path) (omega (arith, slice_get_within (head ∷ path) j m at))

  from_deep : (f head : ℕ) (path : List ℕ) → IsTrail (head ∷ path) → Deep f head → count ≤ length path + f → (nodes : List ℕ) × IsCycle leads nodes
  from_deep zero head path trail deep enough = absurd (omega (arith, trail_short (head ∷ path) trail, enough))
  from_deep (suc f) head path trail (m, own, deep) enough = elim (is_in m (head ∷ path)) [
    | inl there ↦ (take (suc there.0) (head ∷ path), closed head path m there.0 trail ((are m head).0 own) there.1)
    | inr new ↦ from_deep f m (head ∷ path) (trail_more m head path trail ((are m head).0 own) new) deep (omega (arith, enough))
  ]

  trail_one : (n : ℕ) → n < count → IsTrail (n ∷ [])
  trail_one n inside = record { distinct = distinct; next = next; within = within }
    where
      distinct : AllDiffer (n ∷ [])
      distinct zero zero x a b = refl
      distinct zero (suc j) x a b = absurd (cc b)
      distinct (suc i) j x a b = absurd (cc a)

      next : (i k m : ℕ) → slice_get (n ∷ []) i ≡ Some k → slice_get (n ∷ []) (i + 1) ≡ Some m → leads k m
      next i k m a b = absurd (omega (arith, slice_get_within (n ∷ []) (i + 1) m b))

      within : (i m : ℕ) → slice_get (n ∷ []) i ≡ Some m → m < count
      within zero m a = subst (λ (o : ℕ). o < count) (same_Some _ _ a) inside
      within (suc i) m a = absurd (cc a)

  pub acyclic_ranked : ((nodes : List ℕ) → ¬ IsCycle leads nodes) → IsRanked leads (paths count)
  acyclic_ranked none m n edge = elim (stable count n) [
    | inl same ↦ omega (arith, rising count m n edge, same)
    | inr deep ↦ absurd (
        let found = from_deep (suc count) n [] (trail_one n (low m n edge).1) deep (omega arith) in
        none found.0 found.1)
  ]
