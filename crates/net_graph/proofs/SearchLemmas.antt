-- What one turn of the search does to its path and its visits.
use Rattle.std.proofs.Common.{◌≡◌, ◌≢◌, ℕ, ◌+◌, ◌-◌, ◌<◌, ◌≤◌, List, [], ◌∷◌, ◌++◌, length, slice_get, slice_index, Some, refl, ap, sym, ◌∙◌, subst, arith, ◌⊎◌, inl, inr}
use Rattle.std.proofs.Math.ListN.{set}
use Rattle.std.proofs.lemmas.List.{length-append, length-set}
use Rattle.std.proofs.lemmas.Bool.{cases_eq}
use Rattle.std.proofs.lemmas.List.Sums.{sum_by-set, sum_by_push}
use Rattle.std.proofs.lemmas.Option.{slice_get_within, get_or_from_slice_get, same_Some}
use Rattle.net_graph.specs.declared.search.Visit.{Visit}
use Rattle.net_graph.specs.declared.search.Visit.TheVariants.{New, Open, Done}
use Rattle.net_graph.specs.declared.search.Step.{Step}
use Rattle.net_graph.specs.Rows.{RowHas, AreRows}
use Rattle.net_graph.specs.Search.{IsSearch, IsDone, IsLooked, KeepsSeen, new_one, work}
use Rattle.net_graph.proofs.ListLemmas.{slice_get_set_same, slice_get_set_other, slice_get_left, slice_get_last, slice_get_pushed}

-- the last step goes on to its next edge
module _ (starts sources : List ℕ) (visits : List Visit) (rest : List Step) (s : Step) (found m number : ℕ)
    (search : IsSearch starts sources visits (rest ++ s ∷ []) found) (low : s.next < slice_index starts (s.node + 1))
    (edge : slice_get sources s.next ≡ Some m) (done : IsDone visits m number) where
  abbrev moved : Step
  moved = record { node = s.node; next = s.next + 1 }

  -- a step of the new path is one of the old path, or the moved one
  moved_from : (i : ℕ) (t : Step) → slice_get (rest ++ moved ∷ []) i ≡ Some t → (slice_get (rest ++ s ∷ []) i ≡ Some t) ⊎ ((slice_get (rest ++ s ∷ []) i ≡ Some s) × (moved ≡ t))
  moved_from i t at = elim (slice_get_pushed rest moved i t at) [
    | inl here ↦ inl (slice_get_left rest (s ∷ []) i t here)
    | inr last ↦ inr (slice_get_last rest s i last.0, last.1)
  ]

  old_step : (i : ℕ) (t : Step) → slice_get (rest ++ moved ∷ []) i ≡ Some t → (old : Step) × (slice_get (rest ++ s ∷ []) i ≡ Some old) × (old.node ≡ t.node)
  old_step i t at = elim (moved_from i t at) [
    | inl same ↦ (t, same, refl)
    | inr other ↦ (s, other.0, ap (λ (u : Step). u.node) other.1)
  ]

  moved_looked : IsLooked starts sources visits moved
  moved_looked place n begins ends at = elim (cases_eq place s.next) [
    | inl here ↦ (
        let is : m ≡ n = same_Some _ _ (sym edge ∙ sym (ap (slice_get sources) here) ∙ at) in
        (number, sym (ap (slice_get visits) is) ∙ done))
    | inr other ↦ search.looked (length rest) s (slice_get_last rest s (length rest) refl) place n begins (omega (arith, ends, other)) at
  ]

  pub search_moved : IsSearch starts sources visits (rest ++ moved ∷ []) found
  search_moved = record {
    size = search.size;
    opened = λ i t at. let old = old_step i t at in sym (ap (slice_get visits) old.2) ∙ search.opened i old.0 old.1;
    once = λ i j t u here there same. let a = old_step i t here in let b = old_step j u there in search.once i j a.0 b.0 a.1 b.1 (a.2 ∙ same ∙ sym b.2);
    on_path = on_path;
    linked = λ i t u here there.
        let a = old_step i t here in let b = old_step (i + 1) u there in
        subst (λ (k : ℕ). RowHas starts sources k t.node) b.2 (subst (λ (k : ℕ). RowHas starts sources b.0.node k) a.2 (search.linked i a.0 b.0 a.1 b.1));
    within = λ i t at. elim (moved_from i t at) [
      | inl same ↦ search.within i t same
      | inr other ↦ subst (λ (u : Step). (slice_index starts u.node ≤ u.next) × (u.next ≤ slice_index starts (u.node + 1))) other.1
          (omega (arith, (search.within i s other.0).0), omega (arith, low))
    ];
    looked = λ i t at. elim (moved_from i t at) [
      | inl same ↦ search.looked i t same
      | inr other ↦ subst (λ (u : Step). IsLooked starts sources visits u) other.1 moved_looked
    ];
    below = search.below;
    low = search.low;
    counted = omega (arith, search.counted, length-append rest (moved ∷ []), length-append rest (s ∷ []));
  }
    where
      on_path : (n : ℕ) → slice_get visits n ≡ Some Open → (i : ℕ) × (t : Step) × (slice_get (rest ++ moved ∷ []) i ≡ Some t) × (t.node ≡ n)
      on_path n at =
          let old = search.on_path n at in
          elim (slice_get_pushed rest s old.0 old.1 old.2) [
            | inl here ↦ (old.0, old.1, slice_get_left rest (moved ∷ []) old.0 old.1 here, old.3)
            | inr last ↦ (old.0, moved, slice_get_last rest moved old.0 last.0, ap (λ (u : Step). u.node) last.1 ∙ old.3)
          ]

  pub work_moved : (e : ℕ) → s.next < length sources → work sources visits (rest ++ moved ∷ []) < work sources visits (rest ++ s ∷ [])
  work_moved e within =
      omega (arith, sum_by_push (λ (t : Step). length sources + 1 - t.next) rest moved, sum_by_push (λ (t : Step). length sources + 1 - t.next) rest s)

-- a new node is opened
module _ (starts sources : List ℕ) (visits : List Visit) (path : List Step) (found m next : ℕ)
    (search : IsSearch starts sources visits path found) (rows : AreRows starts sources) (begin : next ≡ slice_index starts m) (new : slice_get visits m ≡ Some New)
    (leads : (i : ℕ) (s : Step) → slice_get path i ≡ Some s → i + 1 ≡ length path → RowHas starts sources m s.node) where
  abbrev first : Step
  first = record { node = m; next = next }

  m_low : m < length visits
  m_low = slice_get_within visits m New new

  not_m : (n : ℕ) (v : Visit) → slice_get visits n ≡ Some v → (v ≡ New → ⊥) → n ≢ m
  not_m n v at other is = other (same_Some _ _ (sym at ∙ ap (slice_get visits) is ∙ new))

  kept : (n : ℕ) (v : Visit) → slice_get visits n ≡ Some v → (v ≡ New → ⊥) → slice_get (set visits m Open) n ≡ Some v
  kept n v at other = slice_get_set_other visits m n Open (not_m n v at other) ∙ at

  -- what is not open in the new visits was so before
  before : (n : ℕ) (v : Visit) → slice_get (set visits m Open) n ≡ Some v → (v ≡ Open → ⊥) → slice_get visits n ≡ Some v
  before n v at other = elim (cases_eq n m) [
    | inl is ↦ absurd (other (same_Some _ _ (sym at ∙ ap (slice_get (set visits m Open)) is ∙ slice_get_set_same visits m Open m_low)))
    | inr differ ↦ sym (slice_get_set_other visits m n Open differ) ∙ at
  ]

  open_apart : (i : ℕ) (s : Step) → slice_get path i ≡ Some s → s.node ≢ m
  open_apart i s at is = not_m s.node Open (search.opened i s at) (λ e. cc e) is

  done_kept : (n number : ℕ) → IsDone visits n number → IsDone (set visits m Open) n number
  done_kept n number at = kept n (Done number) at (λ e. cc e)

  pub search_opened : IsSearch starts sources (set visits m Open) (path ++ first ∷ []) found
  search_opened = record {
    size = ap (λ k. k + 1) (length-set visits m Open) ∙ search.size;
    opened = λ i t at. elim (slice_get_pushed path first i t at) [
      | inl here ↦ kept t.node Open (search.opened i t here) (λ e. cc e)
      | inr last ↦ ap (λ (u : Step). slice_get (set visits m Open) u.node) (sym last.1) ∙ slice_get_set_same visits m Open m_low
    ];
    once = once;
    on_path = on_path;
    linked = linked;
    within = λ i t at. elim (slice_get_pushed path first i t at) [
      | inl here ↦ search.within i t here
      | inr last ↦ subst (λ (u : Step). (slice_index starts u.node ≤ u.next) × (u.next ≤ slice_index starts (u.node + 1))) last.1
          (omega (arith, begin), omega (arith, begin, rows.rising m (omega (arith, m_low, search.size))))
    ];
    looked = λ i t at. elim (slice_get_pushed path first i t at) [
      | inl here ↦ (λ place n begins ends on. let old = search.looked i t here place n begins ends on in (old.0, done_kept n old.0 old.1))
      | inr last ↦ subst (λ (u : Step). IsLooked starts sources (set visits m Open) u) last.1 (λ place n begins ends on. absurd (omega (arith, begins, ends, begin)))
    ];
    below = λ n k number at row. let old = search.below n k number (before n (Done number) at (λ e. cc e)) row in (old.0, done_kept k old.0 old.1, old.2);
    low = λ n number at. search.low n number (before n (Done number) at (λ e. cc e));
    counted = omega (arith, search.counted, length-append path (first ∷ []), length-set visits m Open, sum_by-set new_one visits m Open New m_low, ap new_one (get_or_from_slice_get visits m New New new));
  }
    where
      once : (i j : ℕ) (s t : Step) → slice_get (path ++ first ∷ []) i ≡ Some s → slice_get (path ++ first ∷ []) j ≡ Some t → s.node ≡ t.node → i ≡ j
      once i j s t here there same = elim (slice_get_pushed path first i s here) [
        | inl left ↦ elim (slice_get_pushed path first j t there) [
          | inl right ↦ search.once i j s t left right same
          | inr last ↦ absurd (open_apart i s left (same ∙ ap (λ (u : Step). u.node) (sym last.1)))
        ]
        | inr one ↦ elim (slice_get_pushed path first j t there) [
          | inl right ↦ absurd (open_apart j t right (sym same ∙ ap (λ (u : Step). u.node) (sym one.1)))
          | inr last ↦ one.0 ∙ sym last.0
        ]
      ]

      on_path : (n : ℕ) → slice_get (set visits m Open) n ≡ Some Open → (i : ℕ) × (t : Step) × (slice_get (path ++ first ∷ []) i ≡ Some t) × (t.node ≡ n)
      on_path n at = elim (cases_eq n m) [
        | inl is ↦ (length path, first, slice_get_last path first (length path) refl, sym is)
        | inr differ ↦ (
            let old = search.on_path n (sym (slice_get_set_other visits m n Open differ) ∙ at) in
            (old.0, old.1, slice_get_left path (first ∷ []) old.0 old.1 old.2, old.3))
      ]

      linked : (i : ℕ) (s t : Step) → slice_get (path ++ first ∷ []) i ≡ Some s → slice_get (path ++ first ∷ []) (i + 1) ≡ Some t → RowHas starts sources t.node s.node
      linked i s t here there = elim (slice_get_pushed path first i s here) [
        | inl left ↦ elim (slice_get_pushed path first (i + 1) t there) [
          | inl right ↦ search.linked i s t left right
          | inr last ↦ subst (λ (u : Step). RowHas starts sources u.node s.node) last.1 (leads i s left last.0)
        ]
        | inr one ↦ absurd (omega (arith, one.0, slice_get_within (path ++ first ∷ []) (i + 1) t there, length-append path (first ∷ [])))
      ]

  pub seen_opened : KeepsSeen visits (set visits m Open)
  seen_opened n at = before n New at (λ e. cc e)

  pub work_opened : work sources (set visits m Open) (path ++ first ∷ []) < work sources visits path
  work_opened = grind (arith, sum_by_push (λ (t : Step). length sources + 1 - t.next) path first, sum_by-set new_one visits m Open New m_low, ap new_one (get_or_from_slice_get visits m New New new))

-- the last step's node is done
module _ (starts sources : List ℕ) (visits : List Visit) (rest : List Step) (s : Step) (found : ℕ)
    (search : IsSearch starts sources visits (rest ++ s ∷ []) found) (over : slice_index starts (s.node + 1) ≤ s.next) where
  abbrev last_at : slice_get (rest ++ s ∷ []) (length rest) ≡ Some s
  last_at = slice_get_last rest s (length rest) refl

  s_open : slice_get visits s.node ≡ Some Open
  s_open = search.opened (length rest) s last_at

  s_low : s.node < length visits
  s_low = slice_get_within visits s.node Open s_open

  apart : (n : ℕ) (v : Visit) → slice_get visits n ≡ Some v → (v ≡ Open → ⊥) → n ≢ s.node
  apart n v at other is = other (same_Some _ _ (sym at ∙ ap (slice_get visits) is ∙ s_open))

  rest_apart : (i : ℕ) (t : Step) → slice_get rest i ≡ Some t → t.node ≢ s.node
  rest_apart i t at same =
      let e : i ≡ length rest = search.once i (length rest) t s (slice_get_left rest (s ∷ []) i t at) last_at same in
      omega (arith, e, slice_get_within rest i t at)

  kept_done : (n number : ℕ) → IsDone visits n number → IsDone (set visits s.node (Done found)) n number
  kept_done n number at = slice_get_set_other visits s.node n (Done found) (apart n (Done number) at (λ e. cc e)) ∙ at

  same_before : (n : ℕ) (v : Visit) → slice_get (set visits s.node (Done found)) n ≡ Some v → n ≢ s.node → slice_get visits n ≡ Some v
  same_before n v at differ = sym (slice_get_set_other visits s.node n (Done found) differ) ∙ at

  is_found : (n number : ℕ) → IsDone (set visits s.node (Done found)) n number → n ≡ s.node → number ≡ found
  is_found n number at is =
      let e : Done number ≡ Done found = same_Some _ _ (sym at ∙ ap (slice_get (set visits s.node (Done found))) is ∙ slice_get_set_same visits s.node (Done found) s_low) in cc e

  pub search_done : IsSearch starts sources (set visits s.node (Done found)) rest (found + 1)
  search_done = record {
    size = ap (λ k. k + 1) (length-set visits s.node (Done found)) ∙ search.size;
    opened = λ i t at. slice_get_set_other visits s.node t.node (Done found) (rest_apart i t at) ∙ search.opened i t (slice_get_left rest (s ∷ []) i t at);
    once = λ i j t u here there same. search.once i j t u (slice_get_left rest (s ∷ []) i t here) (slice_get_left rest (s ∷ []) j u there) same;
    on_path = on_path;
    linked = λ i t u here there. search.linked i t u (slice_get_left rest (s ∷ []) i t here) (slice_get_left rest (s ∷ []) (i + 1) u there);
    within = λ i t at. search.within i t (slice_get_left rest (s ∷ []) i t at);
    looked = λ i t at place n begins ends on.
        let old = search.looked i t (slice_get_left rest (s ∷ []) i t at) place n begins ends on in (old.0, kept_done n old.0 old.1);
    below = below;
    low = low;
    counted = omega (arith, search.counted, length-append rest (s ∷ []), length-set visits s.node (Done found), sum_by-set new_one visits s.node (Done found) Open s_low, ap new_one (get_or_from_slice_get visits s.node Open Open s_open));
  }
    where
      on_path : (n : ℕ) → slice_get (set visits s.node (Done found)) n ≡ Some Open → (i : ℕ) × (t : Step) × (slice_get rest i ≡ Some t) × (t.node ≡ n)
      on_path n at = elim (cases_eq n s.node) [
        | inl is ↦ absurd (let e : Open ≡ Done found = same_Some _ _ (sym at ∙ ap (slice_get (set visits s.node (Done found))) is ∙ slice_get_set_same visits s.node (Done found) s_low) in cc e)
        | inr differ ↦ (
            let old = search.on_path n (same_before n Open at differ) in
            elim (slice_get_pushed rest s old.0 old.1 old.2) [
              | inl here ↦ (old.0, old.1, here, old.3)
              | inr last ↦ absurd (differ (sym old.3 ∙ ap (λ (u : Step). u.node) (sym last.1)))
            ])
      ]

      low : (n number : ℕ) → IsDone (set visits s.node (Done found)) n number → number < found + 1
      low n number at = elim (cases_eq n s.node) [
        | inl is ↦ omega (arith, is_found n number at is)
        | inr differ ↦ omega (arith, search.low n number (same_before n (Done number) at differ))
      ]

      below : (n m number : ℕ) → IsDone (set visits s.node (Done found)) n number → RowHas starts sources m n → (lower : ℕ) × IsDone (set visits s.node (Done found)) m lower × (lower < number)
      below n m number at row = elim (cases_eq n s.node) [
        | inl is ↦ (
            let old = search.looked (length rest) s last_at row.place m (subst (λ (k : ℕ). slice_index starts k ≤ row.place) is row.begins)
            (omega (arith, over, subst (λ (k : ℕ). row.place < slice_index starts (k + 1)) is row.ends)) row.is in
            (old.0, kept_done m old.0 old.1, omega (arith, is_found n number at is, search.low m old.0 old.1)))
        | inr differ ↦ (
            let old = search.below n m number (same_before n (Done number) at differ) row in
            (old.0, kept_done m old.0 old.1, old.2))
      ]

  pub seen_done : KeepsSeen visits (set visits s.node (Done found))
  seen_done n at = elim (cases_eq n s.node) [
    | inl is ↦ absurd (let e : New ≡ Done found = same_Some _ _ (sym at ∙ ap (slice_get (set visits s.node (Done found))) is ∙ slice_get_set_same visits s.node (Done found) s_low) in cc e)
    | inr differ ↦ same_before n New at differ
  ]

  pub work_done : s.next ≤ length sources → work sources (set visits s.node (Done found)) rest < work sources visits (rest ++ s ∷ [])
  work_done within = grind (arith, sum_by_push (λ (t : Step). length sources + 1 - t.next) rest s, sum_by-set new_one visits s.node (Done found) Open s_low, ap new_one (get_or_from_slice_get visits s.node Open Open s_open))

-- the last step, and the edge along which it looks
module _ (starts sources : List ℕ) (visits : List Visit) (rest : List Step) (s : Step) (found : ℕ)
    (search : IsSearch starts sources visits (rest ++ s ∷ []) found) (rows : AreRows starts sources) where
  pub last_node_low : s.node < length visits
  last_node_low = slice_get_within visits s.node Open (search.opened (length rest) s (slice_get_last rest s (length rest) refl))

  pub last_within : (slice_index starts s.node ≤ s.next) × (s.next ≤ slice_index starts (s.node + 1))
  last_within = search.within (length rest) s (slice_get_last rest s (length rest) refl)

  pub last_in_sources : s.next ≤ length sources
  last_in_sources = omega (arith, last_within.1, rows.within (s.node + 1) (omega (arith, last_node_low, search.size)))

  pub source_low : (m : ℕ) → slice_get sources s.next ≡ Some m → m < length visits
  source_low m edge = omega (arith, rows.nodes s.next m edge, search.size)

  pub leads_last : (m : ℕ) → slice_get sources s.next ≡ Some m → s.next < slice_index starts (s.node + 1)
      → (i : ℕ) (t : Step) → slice_get (rest ++ s ∷ []) i ≡ Some t → i + 1 ≡ length (rest ++ s ∷ []) → RowHas starts sources m t.node
  leads_last m edge low i t at last = elim (slice_get_pushed rest s i t at) [
    | inl here ↦ absurd (omega (arith, slice_get_within rest i t here, last, length-append rest (s ∷ [])))
    | inr is ↦ subst (λ (u : Step). RowHas starts sources m u.node) is.1 (record { place = s.next; begins = last_within.0; ends = low; is = edge })
  ]
