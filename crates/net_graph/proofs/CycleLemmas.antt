-- The nodes of a path that closes, the last first, are a cycle, and turned it is one.
use Rattle.std.proofs.Common.{◌≡◌, ℕ, ◌+◌, ◌-◌, ◌<◌, ◌≤◌, List, ◌++◌, length, map, reverse, take, drop, slice_get, slice_index, Option, Some, None, refl, ap, sym, ◌∙◌, subst, arith, ◌⊎◌, inl, inr, get_or, length-drop}
use Rattle.std.specs.Option.{option_map}
use Rattle.std.proofs.lemmas.List.{length-append, length-map, length-reverse, length-take, take_all, get_or-reverse, get_or-drop, get_or-take, get_or_append_left, get_or-append-add}
use Rattle.std.proofs.Math.Seq.{take-append_seam}
use Rattle.std.proofs.lemmas.Bool.{cases_lt}
use Rattle.std.proofs.lemmas.Option.{slice_get_within, get_or_from_slice_get, slice_get-get_or, slice_get-map, same_Some}
use Rattle.net_graph.specs.declared.search.Visit.{Visit}
use Rattle.net_graph.specs.declared.search.Step.{Step}
use Rattle.net_graph.specs.Rows.{RowHas}
use Rattle.net_graph.specs.Graph.{IsCycle}
use Rattle.net_graph.specs.Lists.{AllDiffer, BeginsLeast}
use Rattle.net_graph.specs.Search.{IsSearch, ClosesAt, IsLoopAt, nodes_from}

-- the element at a place, from the element at another place of another list
moved : {A : Type 0} (xs ys : List A) (i j : ℕ) (x : A) → slice_get xs i ≡ Some x → j < length ys → get_or xs i x ≡ get_or ys j x → slice_get ys j ≡ Some x
moved xs ys i j x at low same = slice_get-get_or ys j x low ∙ ap (λ (y : _). Some y) (sym same ∙ get_or_from_slice_get xs i x x at)

slice_get_reverse : {A : Type 0} (xs : List A) (k : ℕ) (x : A) → slice_get (reverse xs) k ≡ Some x → (j : ℕ) × (j + k + 1 ≡ length xs) × (slice_get xs j ≡ Some x)
slice_get_reverse xs k x at =
    let low : k < length xs = omega (arith, slice_get_within (reverse xs) k x at, length-reverse xs) in
    (length xs - 1 - k, omega (arith, low), moved (reverse xs) xs k (length xs - 1 - k) x at (omega (arith, low)) (get_or-reverse xs k x low))

slice_get_drop : {A : Type 0} (n : ℕ) (xs : List A) (k : ℕ) (x : A) → slice_get (drop n xs) k ≡ Some x → slice_get xs (n + k) ≡ Some x
slice_get_drop n xs k x at =
    moved (drop n xs) xs k (n + k) x at (omega (arith, slice_get_within (drop n xs) k x at, length-drop n xs)) (get_or-drop n xs k x)

option_map_some : {A B : Type 0} (f : A → B) (o : Option A) (y : B) → option_map f o ≡ Some y → (x : A) × (o ≡ Some x) × (f x ≡ y)
option_map_some f None y e = absurd (cc e)
option_map_some f (Some x) y e = (x, refl, cc e)

-- a node of the path from a place on, the last first
nodes_at : (path : List Step) (place k n : ℕ) → slice_get (nodes_from path place) k ≡ Some n
    → (j : ℕ) × (s : Step) × (place ≤ j) × (j + k + 1 ≡ length path) × (slice_get path j ≡ Some s) × (s.node ≡ n)
nodes_at path place k n at =
    let own = option_map_some (λ (s : Step). s.node) (slice_get (reverse (drop place path)) k) n (sym (slice_get-map (λ (s : Step). s.node) (reverse (drop place path)) k) ∙ at) in
    let back = slice_get_reverse (drop place path) k own.0 own.1 in
    (place + back.0, own.0, omega arith, omega (arith, back.1, length-drop place path), slice_get_drop place path back.0 own.0 back.2, own.2)

length_nodes : (path : List Step) (place : ℕ) → length (nodes_from path place) ≡ length path - place
length_nodes path place = length-map (reverse (drop place path)) (λ (s : Step). s.node) ∙ length-reverse (drop place path) ∙ length-drop place path

pub path_cycle : (starts sources : List ℕ) (visits : List Visit) (path : List Step) (found m place : ℕ) (step : Step)
    → IsSearch starts sources visits path found → ClosesAt starts sources visits path m → slice_get path place ≡ Some step → step.node ≡ m
    → IsCycle (RowHas starts sources) (nodes_from path place)
path_cycle starts sources visits path found m place step search closes at is = record {
  nonempty = omega (arith, length_nodes path place, slice_get_within path place step at);
  distinct = λ i j x here there.
      let a = nodes_at path place i x here in let b = nodes_at path place j x there in
      omega (arith, a.3, b.3, search.once a.0 b.0 a.1 b.1 a.4 b.4 (a.5 ∙ sym b.5));
  next = λ i k n here there.
      let a = nodes_at path place i k here in let b = nodes_at path place (i + 1) n there in
      let e : b.0 + 1 ≡ a.0 = omega (arith, a.3, b.3) in
      both a.1 b.1 k n a.5 b.5 (search.linked b.0 b.1 a.1 b.4 (ap (slice_get path) e ∙ a.4));
  first = λ i k n last here there.
      let a = nodes_at path place i k here in let b = nodes_at path place 0 n there in
      let e : a.0 ≡ place = omega (arith, a.3, last, length_nodes path place, a.2, slice_get_within path place step at) in
      let s : a.1 ≡ step = same_Some _ _ (sym a.4 ∙ ap (slice_get path) e ∙ at) in
      let k_is : m ≡ k = sym is ∙ ap (λ (u : Step). u.node) (sym s) ∙ a.5 in
      subst (λ (u : ℕ). RowHas starts sources u n) k_is (subst (λ (u : ℕ). RowHas starts sources m u) b.5 (closes.1 b.0 b.1 b.4 (omega (arith, b.3))));
}
  where
    both : (s t : Step) (k n : ℕ) → s.node ≡ k → t.node ≡ n → RowHas starts sources s.node t.node → RowHas starts sources k n
    both s t k n one two row = subst (λ (u : ℕ). RowHas starts sources u n) one (subst (λ (u : ℕ). RowHas starts sources s.node u) two row)

-- an element of a turned list
module _ (nodes : List ℕ) (k : ℕ) (within : k < length nodes) where
  abbrev turned : List ℕ
  turned = drop k nodes ++ take k nodes

  pub length_turned : length turned ≡ length nodes
  length_turned = omega (arith, length-append (drop k nodes) (take k nodes), length-drop k nodes, length-take k nodes, within)

  turned_at : (i x : ℕ) → slice_get turned i ≡ Some x
      → (j : ℕ) × (slice_get nodes j ≡ Some x) × (((j ≡ k + i) × (k + i < length nodes)) ⊎ ((k + i ≡ j + length nodes) × (j < k)))
  turned_at i x at = elim (cases_lt i (length nodes - k)) [
    | inl low ↦ (k + i, moved turned nodes i (k + i) x at (omega (arith, low)) (get_or_append_left (drop k nodes) (take k nodes) x i (omega (arith, low, length-drop k nodes)) ∙ get_or-drop k nodes i x), inl (refl, omega (arith, low)))
    | inr high ↦ (
        let j : ℕ = i - (length nodes - k) in
        let less : i < length nodes = omega (arith, slice_get_within turned i x at, length_turned) in
        let e : i ≡ length (drop k nodes) + (i - (length nodes - k)) = omega (arith, high, length-drop k nodes) in (
          i - (length nodes - k),
          moved turned nodes i (i - (length nodes - k)) x at (omega (arith, less, high))
              (ap (λ u. get_or turned u x) e ∙ get_or-append-add (drop k nodes) (take k nodes) (i - (length nodes - k)) x ∙ get_or-take k nodes (i - (length nodes - k)) x (omega (arith, less, high, within))),
          inr (omega (arith, high, within), omega (arith, less, high, within)),
        ))
  ]

  module _ (leads : ℕ → ℕ → Type 0) (cycle : IsCycle leads nodes) where
    turned_distinct : AllDiffer turned
    turned_distinct i j x here there =
        let a = turned_at i x here in let b = turned_at j x there in
        let e : a.0 ≡ b.0 = cycle.distinct a.0 b.0 x a.1 b.1 in
        elim a.2 [
          | inl one ↦ elim b.2 [ inl two ↦ omega (arith, one, two, e) | inr two ↦ absurd (omega (arith, one, two, e)) ]
          | inr one ↦ elim b.2 [ inl two ↦ absurd (omega (arith, one, two, e)) | inr two ↦ omega (arith, one, two, e) ]
        ]

    -- two elements of which the second is the next of the first, around
    around : (i j m n : ℕ) → slice_get nodes i ≡ Some m → slice_get nodes j ≡ Some n → (j ≡ i + 1) ⊎ ((i + 1 ≡ length nodes) × (j ≡ 0)) → leads m n
    around i j m n here there (inl next) = cycle.next i m n here (ap (slice_get nodes) (sym next) ∙ there)
    around i j m n here there (inr last) = cycle.first i m n last.0 here (ap (slice_get nodes) (sym last.1) ∙ there)

    turned_next : (i m n : ℕ) → slice_get turned i ≡ Some m → slice_get turned (i + 1) ≡ Some n → leads m n
    turned_next i m n here there =
        let a = turned_at i m here in let b = turned_at (i + 1) n there in
        around a.0 b.0 m n a.1 b.1 (elim a.2 [
          | inl one ↦ elim b.2 [ inl two ↦ inl (omega (arith, one, two)) | inr two ↦ inr (omega (arith, one, two), omega (arith, one, two)) ]
          | inr one ↦ elim b.2 [ inl two ↦ absurd (omega (arith, one, two)) | inr two ↦ inl (omega (arith, one, two)) ]
        ])

    turned_first : (i m n : ℕ) → i + 1 ≡ length turned → slice_get turned i ≡ Some m → slice_get turned 0 ≡ Some n → leads m n
    turned_first i m n last here there =
        let a = turned_at i m here in let b = turned_at 0 n there in
        around a.0 b.0 m n a.1 b.1 (elim a.2 [
          | inl one ↦ elim b.2 [ inl two ↦ inr (omega (arith, one, two, last, length_turned), omega (arith, one, two, last, length_turned)) | inr two ↦ absurd (omega (arith, one, two, within)) ]
          | inr one ↦ elim b.2 [ inl two ↦ inl (omega (arith, one, two, last, length_turned)) | inr two ↦ absurd (omega (arith, two, within)) ]
        ])

    pub turned_cycle : IsCycle leads turned
    turned_cycle = record { nonempty = omega (arith, length_turned, within); distinct = turned_distinct; next = turned_next; first = turned_first }

  pub turned_least : ((i : ℕ) → i < length nodes → slice_index nodes k ≤ slice_index nodes i) → BeginsLeast turned
  turned_least least i m n here there =
      let a = turned_at 0 m here in let b = turned_at i n there in
      let e : a.0 ≡ k = elim a.2 [ inl one ↦ omega (arith, one) | inr one ↦ absurd (omega (arith, one, within)) ] in
      let m_is : get_or nodes k 0 ≡ m = ap (λ u. get_or nodes u 0) (sym e) ∙ get_or_from_slice_get nodes a.0 m 0 a.1 in
      let n_is : get_or nodes b.0 0 ≡ n = get_or_from_slice_get nodes b.0 n 0 b.1 in
      let le : get_or nodes k 0 ≤ get_or nodes b.0 0 = least b.0 (slice_get_within nodes b.0 n b.1) in
      omega (arith, m_is, n_is, le)

-- what the search answers where its path closes
pub loop_is_cycle : (starts sources : List ℕ) (visits : List Visit) (path : List Step) (found m : ℕ) (nodes : List ℕ)
    → IsSearch starts sources visits path found → ClosesAt starts sources visits path m → IsLoopAt path m nodes
    → IsCycle (RowHas starts sources) nodes × BeginsLeast nodes
loop_is_cycle starts sources visits path found m nodes search closes loop =
    let own = path_cycle starts sources visits path found m loop.place loop.step search closes loop.at loop.is in (
      subst (λ (xs : List ℕ). IsCycle (RowHas starts sources) xs) (sym loop.turned) (turned_cycle (nodes_from path loop.place) loop.turn loop.within (RowHas starts sources) own),
      subst (λ (xs : List ℕ). BeginsLeast xs) (sym loop.turned) (turned_least (nodes_from path loop.place) loop.turn loop.within loop.least),
    )

-- what the code makes of the path is the loop
pub loop_made : (path : List Step) (m place turn n : ℕ) (step : Step) (back nodes out : List ℕ) → slice_get path place ≡ Some step → step.node ≡ m
    → back ≡ map (λ (s : Step). s.node) (reverse (take (length path - place) (drop place path))) → turn < length back
    → ((i : ℕ) → i < length back → slice_index back turn ≤ slice_index back i)
    → nodes ≡ drop turn back ++ take turn back → n ≡ length back → out ≡ take n (nodes ++ drop (length nodes) back) → IsLoopAt path m out
loop_made path m place turn n step back nodes out at is made within least turned size leaves = record {
  place = place;
  step = step;
  at = at;
  is = is;
  turn = turn;
  within = omega (arith, within, ap length whole);
  least = λ i low. subst (λ (xs : List ℕ). slice_index xs turn ≤ slice_index xs i) whole (least i (omega (arith, low, ap length whole)));
  turned = leaves ∙ ap (λ (k : ℕ). take k (nodes ++ drop (length nodes) back)) count ∙ take-append_seam nodes (drop (length nodes) back) ∙ turned
      ∙ ap (λ (xs : List ℕ). drop turn xs ++ take turn xs) whole;
}
  where
    whole : back ≡ nodes_from path place
    whole = made ∙ ap (λ (steps : List Step). map (λ (s : Step). s.node) (reverse steps)) (take_all (length path - place) (drop place path) (omega (arith, length-drop place path)))

    count : n ≡ length nodes
    count = omega (arith, size, ap length turned, length_turned back turn within)
