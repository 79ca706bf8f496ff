-- A node or a group is done, and the search ends.
use Rattle.std.proofs.Common.{◌≡◌, ◌≢◌, ℕ, ◌+◌, ◌-◌, ◌<◌, ◌≤◌, List, [], length, take, drop, slice_get, slice_index, Option, Some, None, refl, ap, sym, ◌∙◌, subst, arith, ◌⊎◌, inl, inr, get_or}
use Rattle.std.proofs.lemmas.Bool.{cases_eq, cases_lt}
use Rattle.std.proofs.lemmas.Option.{slice_get_within, slice_get-get_or, same_Some}
use Rattle.net_graph.specs.declared.graph.Graph.{Graph}
use Rattle.net_graph.specs.declared.components.Stage.{Stage}
use Rattle.net_graph.specs.declared.components.Stage.TheVariants.{New, Open, Done}
use Rattle.net_graph.specs.declared.components.Branch.{Branch}
use Rattle.net_graph.specs.Graph.{Leads}
use Rattle.net_graph.specs.Lists.{IsIn}
use Rattle.net_graph.specs.Recurrent.{LeadsFar, LeadsTo, one, more, IsRecurrent, IsLeastRecurrent}
use Rattle.net_graph.specs.Components.{NotBefore, IsNoted, IsSettled, IsPast, IsSplit, AreDone, AreNoted}
use Rattle.net_graph.proofs.FarLemmas.{far_after, to_other, in_take, take_in, in_drop, drop_in}
use Rattle.net_graph.proofs.ComponentLemmas.{open_not_done, same_place, bounds_below, to_done}

module _ (graph : Graph) (end : ℕ) (stages : List Stage) (members bounds : List ℕ) (path : List Branch) (least : Option ℕ)
    (split : IsSplit graph end stages members bounds path least) (k n : ℕ) (s : Branch) (at : slice_get path k ≡ Some s) (final : k + 1 ≡ length path)
    (has : slice_get members s.place ≡ Some n) (over : slice_index graph.starts.items (n + 1) ≤ s.next) where
  -- each branch but the last has a lower place
  lower : (i : ℕ) (t : Branch) → slice_get path i ≡ Some t → (t ≡ s) ⊎ ((i < k) × (t.place < s.place))
  lower i t here = elim (cases_eq i k) [
    | inl is ↦ inl (same_Some _ _ (sym here ∙ ap (slice_get path) is ∙ at))
    | inr other ↦ (let less : i < k = omega (arith, other, final, slice_get_within path i t here) in inr (less, split.rising i k t s less here at))
  ]

  -- the edges that were passed with the front of the path were passed before
  passed : (i m e : ℕ) → slice_get members i ≡ Some m → e < slice_index graph.starts.items (m + 1) → IsPast (take k path) i e → IsPast path i e
  passed i m e here to past l t on same = elim (lower l t on) [
    | inr below ↦ past l t (take_in k path l t on below.0) same
    | inl own ↦ (
        let place : s.place ≡ i = sym (ap (λ (u : Branch). u.place) own) ∙ same in
        let node : n ≡ m = same_Some _ _ (sym has ∙ ap (slice_get members) place ∙ here) in
        omega (arith, to, over, ap (λ (u : Branch). u.next) own, ap (λ (u : ℕ). slice_index graph.starts.items (u + 1)) node))
  ]

  -- Only the node is done

  pub split_left : ((b : ℕ) → IsIn bounds b → b ≢ s.place) → IsSplit graph end stages members bounds (take k path) least
  split_left none = record {
    size = split.size;
    opened = split.opened;
    listed = split.listed;
    rising = λ i j t u less here there. split.rising i j t u less (in_take k path i t here).0 (in_take k path j u there).0;
    within = λ i t here. split.within i t (in_take k path i t here).0;
    climbing = split.climbing;
    on_path = λ b on. let old = split.on_path b on in elim (lower old.0 old.1 old.2) [
      | inr below ↦ (old.0, old.1, take_in k path old.0 old.1 old.2 below.0, old.3)
      | inl own ↦ absurd (none b on (sym old.3 ∙ ap (λ (u : Branch). u.place) own))
    ];
    first = split.first;
    looked = λ i m e y here from to on past. split.looked i m e y here from to on (passed i m e here to past);
    leads = split.leads;
    closed = split.closed;
    noted = split.noted;
    found = split.found;
    below = split.below;
  }

  -- The group of the node is done

  module _ (h : ℕ) (own : slice_get bounds h ≡ Some s.place) (highest : h + 1 ≡ length bounds) (after : List Stage) (found : Option ℕ)
      (done : AreDone (drop s.place members) stages after)
      (many : s.place + 1 < length members → AreNoted (drop s.place members) least found) (single : length members ≤ s.place + 1 → found ≡ least) where
    below_bound : (b : ℕ) → IsIn bounds b → b ≤ s.place
    below_bound b on = bounds_below graph end stages members bounds path least split k s at final b on

    keeps : (m : ℕ) → IsNoted least m → IsNoted found m
    keeps m is = elim (cases_lt (s.place + 1) (length members)) [
      | inl more_than ↦ (many more_than).keeps m is
      | inr few ↦ subst (λ (l : Option ℕ). IsNoted l m) (sym (single few)) is
    ]

    -- a node that is open at or behind the place is done, others are as they were
    group_done : (i m : ℕ) → slice_get members i ≡ Some m → s.place ≤ i → slice_get after m ≡ Some Done
    group_done i m here low = done.done m (i - s.place, drop_in s.place members i (i - s.place) m here (omega (arith, low)))

    out_of_drop : (m : ℕ) → IsIn (drop s.place members) m → (i : ℕ) × (slice_get members i ≡ Some m) × (s.place ≤ i)
    out_of_drop m on = (s.place + on.0, in_drop s.place members on.0 m on.1, omega arith)

    done_stays : (m : ℕ) → slice_get stages m ≡ Some Done → slice_get after m ≡ Some Done
    done_stays m is = elim (done.stays m Done is) [ inl kept ↦ kept | inr on ↦ done.done m on ]

    front_stays : (i m : ℕ) → slice_get members i ≡ Some m → i < s.place → slice_get after m ≡ Some (Open i)
    front_stays i m here low = elim (done.stays m (Open i) (split.opened i m here)) [
      | inl kept ↦ kept
      | inr on ↦ (let out = out_of_drop m on in
          absurd (omega (arith, low, out.2, same_place stages m i out.0 (split.opened i m here) (split.opened out.0 m out.1))))
    ]

    done_was : (m : ℕ) → slice_get after m ≡ Some Done → (slice_get stages m ≡ Some Done) ⊎ ((i : ℕ) × (slice_get members i ≡ Some m) × (s.place ≤ i))
    done_was m is = elim (done.was m Done is) [ inl older ↦ inl older | inr on ↦ inr (out_of_drop m on.1) ]

    not_before : (i j : ℕ) → i < s.place → NotBefore (take h bounds) i j → NotBefore bounds i j
    not_before i j low later b on under = elim (cases_eq on.0 h) [
      | inl is ↦ absurd (let e : Some s.place ≡ Some b = sym own ∙ sym (ap (slice_get bounds) is) ∙ on.1 in omega (arith, same_Some _ _ e, under, low))
      | inr other ↦ later b (on.0, take_in h bounds on.0 b on.1 (omega (arith, other, highest, slice_get_within bounds on.0 b on.1))) under
    ]

    settled_kept : (i m y : ℕ) → i < s.place → IsSettled stages bounds least i m y → IsSettled after (take h bounds) found i m y
    settled_kept i m y low (inl is) = inl (done_stays y is)
    settled_kept i m y low (inr open_) = elim (cases_lt open_.0 s.place) [
      | inl front ↦ inr (
        open_.0,
        front_stays open_.0 y (split.listed open_.0 y open_.1) front,
        (λ b on under. open_.2 b (on.0, (in_take h bounds on.0 b on.1).0) under),
        (λ is. keeps m (open_.3 is)),
      )
      | inr back ↦ inl (group_done open_.0 y (split.listed open_.0 y open_.1) back)
    ]

    -- an edge to a node of the group comes from a done node or one of the group
    edge_settled : (i m y : ℕ) → slice_get members i ≡ Some m → s.place ≤ i → Leads graph y m → IsSettled stages bounds least i m y
    edge_settled i m y here low edge = split.looked i m edge.place y here edge.begins edge.ends edge.is (λ l t on same. elim (lower l t on) [
      | inr below ↦ absurd (omega (arith, below.1, same, low))
      | inl is ↦ (
          let place : s.place ≡ i = sym (ap (λ (u : Branch). u.place) is) ∙ same in
          let node : n ≡ m = same_Some _ _ (sym has ∙ ap (slice_get members) place ∙ here) in
          omega (arith, edge.ends, over, ap (λ (u : Branch). u.next) is, ap (λ (u : ℕ). slice_index graph.starts.items (u + 1)) node))
    ])

    closed : (m y : ℕ) → slice_get after y ≡ Some Done → Leads graph m y → slice_get after m ≡ Some Done
    closed m y is edge = elim (done_was y is) [
      | inl older ↦ done_stays m (split.closed m y older edge)
      | inr group ↦ elim (edge_settled group.0 y m group.1 group.2 edge) [
        | inl older ↦ done_stays m older
        | inr open_ ↦ group_done open_.0 m (split.listed open_.0 m open_.1) (open_.2 s.place (h, own) group.2)
      ]
    ]

    -- the last edge of a way
    last_edge : (m y : ℕ) → LeadsFar graph m y → (x : ℕ) × LeadsTo graph m x × Leads graph x y
    last_edge m y (one _ _ edge) = (m, inl refl, edge)
    last_edge m y (more _ x _ way edge) = (x, inr way, edge)

    noted : (m : ℕ) → slice_get after m ≡ Some Done → LeadsFar graph m m → IsNoted found m
    noted m is far = elim (done_was m is) [
      | inl older ↦ keeps m (split.noted m older far)
      | inr group ↦ (
          let last = last_edge m m far in
          elim (edge_settled group.0 m last.0 group.1 group.2 last.2) [
            | inl older ↦ absurd (open_not_done stages m group.0 (split.opened group.0 m group.1) (to_done graph end stages members bounds path least split m last.0 last.1 older))
            | inr open_ ↦ elim (cases_eq last.0 m) [
              | inl itself ↦ keeps m (open_.3 itself)
              | inr other ↦ (
                  let source = split.listed open_.0 last.0 open_.1 in
                  let apart : group.0 ≢ open_.0 = λ e. other (same_Some _ _ (sym source ∙ sym (ap (slice_get members) e) ∙ group.1)) in
                  let behind : s.place ≤ open_.0 = open_.2 s.place (h, own) group.2 in
                  let two : s.place + 1 < length members = omega (arith, apart, behind, group.2, slice_get_within members group.0 m group.1, slice_get_within members open_.0 last.0 source) in
                  (many two).takes m (group.0 - s.place, drop_in s.place members group.0 (group.0 - s.place) m group.1 (omega (arith, group.2))))
            ]
          ])
    ]

    -- each of a group of many leads to itself
    group_recurs : (i m : ℕ) → slice_get members i ≡ Some m → s.place ≤ i → s.place + 1 < length members → IsRecurrent graph end m
    group_recurs i m here low two = (split.below i m here, far_after graph m (get_or members j 0) m away back)
      where
        other_place : (i : ℕ) → (j : ℕ) × (s.place ≤ j) × (j < length members) × (j ≢ i)
        other_place i = elim (cases_eq i s.place) [
          | inl is ↦ (s.place + 1, omega arith, omega (arith, two), λ e. absurd (omega (arith, e, is)))
          | inr differ ↦ (s.place, omega arith, omega (arith, two), λ e. differ (sym e))
        ]

        j : ℕ
        j = (other_place i).0

        there : slice_get members j ≡ Some (get_or members j 0)
        there = slice_get-get_or members j 0 (other_place i).2

        differ : m ≢ get_or members j 0
        differ e = (other_place i).3 (same_place stages m j i (ap (slice_get stages) e ∙ split.opened j (get_or members j 0) there) (split.opened i m here))

        away : LeadsFar graph m (get_or members j 0)
        away = to_other graph m (get_or members j 0) (split.leads j i (get_or members j 0) m there here (λ b on _. omega (arith, below_bound b on, low))) differ

        back : LeadsFar graph (get_or members j 0) m
        back = to_other graph (get_or members j 0) m (split.leads i j m (get_or members j 0) here there (λ b on _. omega (arith, below_bound b on, (other_place i).1))) (λ e. differ (sym e))

    pub split_closed : IsSplit graph end after (take s.place members) (take h bounds) (take k path) found
    split_closed = record {
      size = ap (λ l. l + 1) done.size ∙ split.size;
      opened = λ i m here. let old = in_take s.place members i m here in front_stays i m old.0 old.1;
      listed = listed;
      rising = λ i j t u less here there. split.rising i j t u less (in_take k path i t here).0 (in_take k path j u there).0;
      within = λ i t here. let old = in_take k path i t here in let node = split.within i t old.0 in
          (node.0, take_in s.place members t.place node.0 node.1 (split.rising i k t s old.1 old.0 at), node.2, node.3);
      climbing = λ i j b c less here there. split.climbing i j b c less (in_take h bounds i b here).0 (in_take h bounds j c there).0;
      on_path = λ b on. let old = in_take h bounds on.0 b on.1 in let branch = split.on_path b (on.0, old.0) in elim (lower branch.0 branch.1 branch.2) [
        | inr below ↦ (branch.0, branch.1, take_in k path branch.0 branch.1 branch.2 below.0, branch.3)
        | inl is ↦ absurd (omega (arith, split.climbing on.0 h b s.place old.1 old.0 own, branch.3, ap (λ (u : Branch). u.place) is))
      ];
      first = first;
      looked = λ i m e y here from to on past. let old = in_take s.place members i m here in
          settled_kept i m y old.1 (split.looked i m e y old.0 from to on (passed i m e old.0 to past));
      leads = λ i j m y here there later. let first_at = in_take s.place members i m here in let second_at = in_take s.place members j y there in
          split.leads i j m y first_at.0 second_at.0 (not_before i j first_at.1 later);
      closed = closed;
      noted = noted;
      found = found_recurs;
      below = λ i m here. split.below i m (in_take s.place members i m here).0;
    }
      where
        listed : (i m : ℕ) → slice_get after m ≡ Some (Open i) → slice_get (take s.place members) i ≡ Some m
        listed i m here = elim (done.was m (Open i) here) [
          | inl older ↦ (
              let was = split.listed i m older in
              elim (cases_lt i s.place) [
                | inl low ↦ take_in s.place members i m was low
                | inr high ↦ absurd (open_not_done after m i here (group_done i m was high))
              ])
          | inr on ↦ absurd (let e = on.0 in cc e)
        ]

        first : (i m : ℕ) → slice_get (take s.place members) i ≡ Some m → IsIn (take h bounds) 0
        first i m here =
            let old = in_take s.place members i m here in
            let zero_at = split.first i m old.0 in
            elim (cases_eq zero_at.0 h) [
              | inl is ↦ absurd (let e : Some s.place ≡ Some 0 = sym own ∙ sym (ap (slice_get bounds) is) ∙ zero_at.1 in omega (arith, same_Some _ _ e, old.1))
              | inr other ↦ (zero_at.0, take_in h bounds zero_at.0 0 zero_at.1 (omega (arith, other, highest, slice_get_within bounds zero_at.0 0 zero_at.1)))
            ]

        found_recurs : (m : ℕ) → found ≡ Some m → IsRecurrent graph end m
        found_recurs m is = elim (cases_lt (s.place + 1) (length members)) [
          | inl two ↦ elim ((many two).only m is) [
            | inl older ↦ split.found m older
            | inr on ↦ (let out = out_of_drop m on in group_recurs out.0 m out.1 out.2 two)
          ]
          | inr few ↦ split.found m (sym (single few) ∙ is)
        ]

-- The end

module _ (graph : Graph) (end : ℕ) (stages : List Stage) (members bounds : List ℕ) (least : Option ℕ) (split : IsSplit graph end stages members bounds [] least) (low : end < length stages)
    (seen : slice_get stages end ≡ Some New → ⊥) where
  end_done : slice_get stages end ≡ Some Done
  end_done = by (get_or stages end New) (slice_get-get_or stages end New low)
    where
      by : (stage : Stage) → slice_get stages end ≡ Some stage → slice_get stages end ≡ Some Done
      by New at = absurd (seen at)
      by (Open i) at = let on = split.on_path 0 (split.first i end (split.listed i end at)) in absurd (cc on.2)
      by Done at = at

  pub split_end : IsLeastRecurrent graph end least
  split_end = by least refl
    where
      noted : (m : ℕ) → IsRecurrent graph end m → IsNoted least m
      noted m is = split.noted m (to_done graph end stages members bounds [] least split m end is.0 end_done) is.1

      by : (l : Option ℕ) → least ≡ l → IsLeastRecurrent graph end l
      by None none = λ m is. let on = noted m is in absurd (let e : Some on.0 ≡ None = sym on.1 ∙ none in cc e)
      by (Some l) some = (split.found l some, λ m is. let on = noted m is in let e : Some on.0 ≡ Some l = sym on.1 ∙ some in omega (arith, same_Some _ _ e, on.2))
