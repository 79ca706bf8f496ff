-- What is marked on the way along the edges backwards.
use Rattle.std.proofs.Common.{◌≡◌, ◌≢◌, ℕ, zero, suc, ◌+◌, ◌-◌, ◌<◌, ◌≤◌, Bool, true, false, List, [], ◌∷◌, ◌++◌, length, slice_get, Some, refl, ap, sym, ◌∙◌, subst, arith, ◌⊎◌, inl, inr, ◌↔◌, get_or, sum_by, replicate, take, drop, slice_index, length-drop}
use Rattle.std.proofs.Math.ListN.{set}
use Rattle.std.proofs.lemmas.List.{length-take, get_or-drop, get_or-take, length-set, length-append, length-replicate, get_or-set_same, get_or-set_other, get_or_past}
use Rattle.std.proofs.lemmas.List.Sums.{sum_by-set}
use Rattle.std.proofs.lemmas.List.Folds.{sum_by-replicate}
use Rattle.std.proofs.lemmas.Bool.{cases_eq, cases_lt}
use Rattle.std.proofs.lemmas.Option.{slice_get_within, slice_get-get_or, get_or_from_slice_get, same_Some}
use Rattle.net_graph.specs.declared.graph.Graph.{Graph}
use Rattle.net_graph.specs.Graph.{Leads, node_count}
use Rattle.net_graph.specs.Reach.{Reaches, itself, along, MarksOne, Marks, unmarked_one}
use Rattle.net_graph.specs.Lists.{IsIn, is_marked}
use Rattle.net_graph.proofs.ListLemmas.{slice_get_left, slice_get_last, slice_get_pushed}

pub marked_low : (marks : List Bool) (n : ℕ) → is_marked marks n ≡ true → n < length marks
marked_low marks n is = elim (cases_lt n (length marks)) [
  | inl low ↦ low
  | inr high ↦ absurd (let e : false ≡ true = sym (get_or_past marks n false high) ∙ is in cc e)
]

pub marks_none : (nodes : List ℕ) (marks : List Bool) (list : List ℕ) → Marks nodes 0 marks marks list list
marks_none nodes marks list = record {
  size = refl;
  stays = λ n is. is;
  all = λ i n low at. absurd (omega (arith, low));
  only = λ n is. inl is;
  kept = λ i n at. at;
  listed = λ n is. inl is;
  marked = λ i n at. inl at;
  counted = refl;
}

pub marks_more : (nodes : List ℕ) (bound n : ℕ) (old mid new : List Bool) (before middle after : List ℕ) → slice_get nodes bound ≡ Some n → n < length old
    → Marks nodes bound old mid before middle → MarksOne n mid new middle after → Marks nodes (bound + 1) old new before after
marks_more nodes bound n old mid new before middle after at low marks (inl seen) =
    subst (λ (m : List Bool). Marks nodes (bound + 1) old m before after) (sym seen.1)
    (subst (λ (l : List ℕ). Marks nodes (bound + 1) old mid before l) (sym seen.2) (record {
      size = marks.size;
      stays = marks.stays;
      all = all;
      only = marks.only;
      kept = marks.kept;
      listed = marks.listed;
      marked = marks.marked;
      counted = marks.counted;
    }))
  where
    all : (i k : ℕ) → i < bound + 1 → slice_get nodes i ≡ Some k → is_marked mid k ≡ true
    all i k less on = elim (cases_eq i bound) [
      | inl is ↦ (let same : n ≡ k = same_Some _ _ (sym at ∙ ap (slice_get nodes) (sym is) ∙ on) in sym (ap (is_marked mid) same) ∙ seen.0)
      | inr other ↦ marks.all i k (omega (arith, less, other)) on
    ]
marks_more nodes bound n old mid new before middle after at low marks (inr fresh) =
    subst (λ (m : List Bool). Marks nodes (bound + 1) old m before after) (sym fresh.1)
    (subst (λ (l : List ℕ). Marks nodes (bound + 1) old (set mid n true) before l) (sym fresh.2) (record {
      size = length-set mid n true ∙ marks.size;
      stays = λ k is. later k (marks.stays k is);
      all = all;
      only = only;
      kept = λ i k on. slice_get_left middle (n ∷ []) i k (marks.kept i k on);
      listed = listed;
      marked = marked;
      counted = omega (arith, length-append middle (n ∷ []), marks.counted, sum_by-set unmarked_one mid n true false within, ap unmarked_one fresh.0);
    }))
  where
    within : n < length mid
    within = omega (arith, low, marks.size)

    here : is_marked (set mid n true) n ≡ true
    here = get_or-set_same mid n true false within

    later : (k : ℕ) → is_marked mid k ≡ true → is_marked (set mid n true) k ≡ true
    later k is = elim (cases_eq k n) [
      | inl same ↦ ap (is_marked (set mid n true)) same ∙ here
      | inr other ↦ get_or-set_other mid n k true false other ∙ is
    ]

    all : (i k : ℕ) → i < bound + 1 → slice_get nodes i ≡ Some k → is_marked (set mid n true) k ≡ true
    all i k less on = elim (cases_eq i bound) [
      | inl is ↦ (let same : n ≡ k = same_Some _ _ (sym at ∙ ap (slice_get nodes) (sym is) ∙ on) in sym (ap (is_marked (set mid n true)) same) ∙ here)
      | inr other ↦ later k (marks.all i k (omega (arith, less, other)) on)
    ]

    was : (k : ℕ) → k ≢ n → is_marked (set mid n true) k ≡ true → is_marked mid k ≡ true
    was k other is = sym (get_or-set_other mid n k true false other) ∙ is

    only : (k : ℕ) → is_marked (set mid n true) k ≡ true → (is_marked old k ≡ true) ⊎ IsIn nodes k
    only k is = elim (cases_eq k n) [
      | inl same ↦ inr (bound, at ∙ ap (λ (u : ℕ). Some u) (sym same))
      | inr other ↦ marks.only k (was k other is)
    ]

    listed : (k : ℕ) → is_marked (set mid n true) k ≡ true → (is_marked old k ≡ true) ⊎ IsIn (middle ++ n ∷ []) k
    listed k is = elim (cases_eq k n) [
      | inl same ↦ inr (length middle, slice_get_last middle n (length middle) refl ∙ ap (λ (u : ℕ). Some u) (sym same))
      | inr other ↦ elim (marks.listed k (was k other is)) [ inl then ↦ inl then | inr own ↦ inr (own.0, slice_get_left middle (n ∷ []) own.0 k own.1) ]
    ]

    marked : (i k : ℕ) → slice_get (middle ++ n ∷ []) i ≡ Some k → (slice_get before i ≡ Some k) ⊎ (is_marked (set mid n true) k ≡ true)
    marked i k on = elim (slice_get_pushed middle n i k on) [
      | inl own ↦ elim (marks.marked i k own) [ inl then ↦ inl then | inr is ↦ inr (later k is) ]
      | inr last ↦ inr (sym (ap (is_marked (set mid n true)) last.1) ∙ here)
    ]

-- of what is listed the first ones were followed
pub record IsClosing (graph : Graph) (ends : List ℕ) (marks : List Bool) (list : List ℕ) (at : ℕ) : Type 0 where
  pub size : length marks ≡ node_count graph
  pub sound : (n : ℕ) → is_marked marks n ≡ true → Reaches graph ends n
  pub ends_in : (n : ℕ) → IsIn ends n → is_marked marks n ≡ true
  pub listed : (n : ℕ) → is_marked marks n ≡ true → IsIn list n
  pub marked : (i n : ℕ) → slice_get list i ≡ Some n → is_marked marks n ≡ true
  pub counted : length list + sum_by unmarked_one marks ≡ length marks
  pub followed : (k n m : ℕ) → k < at → slice_get list k ≡ Some n → Leads graph m n → is_marked marks m ≡ true

unmarked_replicate : (k n : ℕ) → is_marked (replicate k false) n ≡ true → ⊥
unmarked_replicate zero n is = cc is
unmarked_replicate (suc k) zero is = cc is
unmarked_replicate (suc k) (suc n) is = unmarked_replicate k n is

pub closing_start : (graph : Graph) (ends : List ℕ) (old marks : List Bool) (before list : List ℕ) (count : ℕ) → old ≡ replicate count false → before ≡ [] → count ≡ node_count graph
    → Marks ends (length ends) old marks before list → IsClosing graph ends marks list 0
closing_start graph ends old marks before list count blank empty size made = by (subst (λ (o : List Bool). Marks ends (length ends) o marks [] list) blank (subst (λ (b : List ℕ). Marks ends (length ends) old marks b list) empty made))
  where
    by : Marks ends (length ends) (replicate count false) marks [] list → IsClosing graph ends marks list 0
    by own = record {
      size = own.size ∙ length-replicate count false ∙ size;
      sound = λ n is. elim (own.only n is) [ inl was ↦ absurd (unmarked_replicate count n was) | inr on ↦ itself on.0 n on.1 ];
      ends_in = λ n on. own.all on.0 n (slice_get_within ends on.0 n on.1) on.1;
      listed = λ n is. elim (own.listed n is) [ inl was ↦ absurd (unmarked_replicate count n was) | inr on ↦ on ];
      marked = λ i n on. elim (own.marked i n on) [ inl was ↦ absurd (cc was) | inr is ↦ is ];
      counted = omega (arith, own.counted, own.size, length-replicate count false, sum_by-replicate unmarked_one count false);
      followed = λ k n m low on leads. absurd (omega (arith, low));
    }

pub closing_more : (graph : Graph) (ends : List ℕ) (marks new : List Bool) (list after row : List ℕ) (at n : ℕ) → IsClosing graph ends marks list at → slice_get list at ≡ Some n
    → ((m : ℕ) → IsIn row m ↔ Leads graph m n) → Marks row (length row) marks new list after → IsClosing graph ends new after (at + 1)
closing_more graph ends marks new list after row at n closing here edges made = record {
  size = made.size ∙ closing.size;
  sound = λ k is. elim (made.only k is) [
    | inl was ↦ closing.sound k was
    | inr on ↦ along k n ((edges k).0 on) (closing.sound n (closing.marked at n here))
  ];
  ends_in = λ k on. made.stays k (closing.ends_in k on);
  listed = λ k is. elim (made.listed k is) [ inl was ↦ (let on = closing.listed k was in (on.0, made.kept on.0 k on.1)) | inr on ↦ on ];
  marked = λ i k on. elim (made.marked i k on) [ inl was ↦ made.stays k (closing.marked i k was) | inr is ↦ is ];
  counted = omega (arith, made.counted, made.size, closing.counted);
  followed = followed;
}
  where
    followed : (k j m : ℕ) → k < at + 1 → slice_get after k ≡ Some j → Leads graph m j → is_marked new m ≡ true
    followed k j m low on leads = elim (cases_eq k at) [
      | inl is ↦ (
          let same : n ≡ j = same_Some _ _ (sym (made.kept at n here) ∙ ap (slice_get after) (sym is) ∙ on) in
          let own = (edges m).1 (subst (λ (u : ℕ). Leads graph m u) (sym same) leads) in
          made.all own.0 m (slice_get_within row own.0 m own.1) own.1)
      | inr other ↦ (
          let less : k < at = omega (arith, low, other) in
          let old : slice_get list k ≡ Some (get_or list k 0) = slice_get-get_or list k 0 (omega (arith, less, slice_get_within list at n here)) in
          let same : get_or list k 0 ≡ j = same_Some _ _ (sym (made.kept k (get_or list k 0) old) ∙ on) in
          made.stays m (closing.followed k j m less (old ∙ ap (λ (u : ℕ). Some u) same) leads))
    ]

pub closing_all : (graph : Graph) (ends : List ℕ) (marks : List Bool) (list : List ℕ) (at : ℕ) → IsClosing graph ends marks list at → length list ≤ at
    → (n : ℕ) → (is_marked marks n ≡ true) ↔ Reaches graph ends n
closing_all graph ends marks list at closing over n = (closing.sound n, complete n)
  where
    complete : (k : ℕ) → Reaches graph ends k → is_marked marks k ≡ true
    complete k (itself i _ on) = closing.ends_in k (i, on)
    complete k (along _ j leads reaches) =
        let on = closing.listed j (complete j reaches) in
        closing.followed on.0 j k (omega (arith, over, slice_get_within list on.0 j on.1)) on.1 leads

-- the row of a node, as a part of the sources, has the nodes that lead to it
pub row_edges : (graph : Graph) (slice : List ℕ) (n a b : ℕ) → a ≡ slice_index graph.starts.items n → b ≡ slice_index graph.starts.items (n + 1) → slice ≡ graph.sources.items
    → (m : ℕ) → IsIn (take (b - a) (drop a slice)) m ↔ Leads graph m n
row_edges graph slice n a b begin end same m = (into, out)
  where
    into : IsIn (take (b - a) (drop a slice)) m → Leads graph m n
    into (i, at) =
        let low : i < length (take (b - a) (drop a slice)) = slice_get_within (take (b - a) (drop a slice)) i m at in
        let short : i < b - a = omega (arith, low, length-take (b - a) (drop a slice)) in
        let on : slice_get slice (a + i) ≡ Some m =
        slice_get-get_or slice (a + i) m (omega (arith, low, length-take (b - a) (drop a slice), length-drop a slice))
        ∙ ap (λ (u : ℕ). Some u) (sym (get_or-drop a slice i m) ∙ sym (get_or-take (b - a) (drop a slice) i m short) ∙ get_or_from_slice_get (take (b - a) (drop a slice)) i m m at) in
        record { place = a + i; begins = omega (arith, begin); ends = omega (arith, end, short); is = ap (λ (xs : List ℕ). slice_get xs (a + i)) (sym same) ∙ on }

    out : Leads graph m n → IsIn (take (b - a) (drop a slice)) m
    out row =
        let on : slice_get slice row.place ≡ Some m = ap (λ (xs : List ℕ). slice_get xs row.place) same ∙ row.is in
        let within : row.place < length slice = slice_get_within slice row.place m on in
        let short : row.place - a < b - a = omega (arith, row.begins, row.ends, begin, end) in
        let place : a + (row.place - a) ≡ row.place = omega (arith, row.begins, begin) in (
          row.place - a,
          slice_get-get_or (take (b - a) (drop a slice)) (row.place - a) m (omega (arith, length-take (b - a) (drop a slice), length-drop a slice, short, within, row.begins, begin))
              ∙ ap (λ (u : ℕ). Some u) (get_or-take (b - a) (drop a slice) (row.place - a) m short ∙ get_or-drop a slice (row.place - a) m ∙ ap (λ (k : ℕ). get_or slice k m) place ∙ get_or_from_slice_get slice row.place m m on),
        )
