-- A new node is opened that leads to all open ones.
use Rattle.std.proofs.Common.{◌≡◌, ◌≢◌, ℕ, zero, suc, ◌+◌, ◌-◌, ◌<◌, ◌≤◌, List, [], ◌∷◌, ◌++◌, length, slice_get, slice_index, Option, Some, None, refl, ap, sym, ◌∙◌, subst, arith, inl, inr, replicate}
use Rattle.std.proofs.Math.ListN.{set}
use Rattle.std.proofs.lemmas.Bool.{cases_eq}
use Rattle.std.proofs.lemmas.List.{length-set, length-replicate}
use Rattle.std.proofs.lemmas.List.Sums.{sum_by-set, sum_by_push}
use Rattle.std.proofs.lemmas.Option.{slice_get_within, slice_get-get_or, get_or_from_slice_get, same_Some}
use Rattle.net_graph.specs.declared.graph.Graph.{Graph}
use Rattle.net_graph.specs.declared.components.Stage.{Stage}
use Rattle.net_graph.specs.declared.components.Stage.TheVariants.{New, Open, Done}
use Rattle.net_graph.specs.declared.components.Branch.{Branch}
use Rattle.net_graph.specs.Rows.{AreRows}
use Rattle.net_graph.specs.Lists.{IsIn}
use Rattle.net_graph.specs.Recurrent.{LeadsTo}
use Rattle.net_graph.specs.Components.{NotBefore, IsSettled, IsPast, IsSplit, KeepsSeen, KeepsPath, work, new_one}
use Rattle.net_graph.proofs.ListLemmas.{slice_get_set_same, slice_get_set_other, slice_get_left, slice_get_last, slice_get_pushed}
use Rattle.net_graph.proofs.ComponentLemmas.{new_not_open, open_not_done, same_place, branch_low, bound_low}

-- the branch of a node that is opened
abbrev pub fresh : List ℕ → ℕ → Branch
fresh members next = record { place = length members; next = next }

-- before the first node
only_new : (k n : ℕ) (stage : Stage) → slice_get (replicate k New) n ≡ Some stage → stage ≡ New
only_new zero n stage at = absurd (cc at)
only_new (suc k) zero stage at = let e : New ≡ stage = cc at in sym e
only_new (suc k) (suc n) stage at = only_new k n stage at

pub split_start : (graph : Graph) (end count : ℕ) → count + 1 ≡ length graph.starts.items → IsSplit graph end (replicate count New) [] [] [] None
split_start graph end count size = record {
  size = ap (λ n. n + 1) (length-replicate count New) ∙ size;
  opened = λ i n at. absurd (cc at);
  listed = λ i n at. absurd (let e : Open i ≡ New = only_new count n (Open i) at in cc e);
  rising = λ i j s t less here there. absurd (cc here);
  within = λ i s at. absurd (cc at);
  climbing = λ i j b c less here there. absurd (cc here);
  on_path = λ b on. absurd (cc on.1);
  first = λ i n at. absurd (cc at);
  looked = λ i n edge x at from to on past. absurd (cc at);
  leads = λ i j m n here there later. absurd (cc here);
  closed = λ m n done edge. absurd (let e : Done ≡ New = only_new count n Done done in cc e);
  noted = λ n done far. absurd (let e : Done ≡ New = only_new count n Done done in cc e);
  found = λ n is. absurd (cc is);
  below = λ i n at. absurd (cc at);
}

pub new_at : (count n : ℕ) → n < count → slice_get (replicate count New) n ≡ Some New
new_at zero n low = absurd (omega (arith, low))
new_at (suc count) zero low = refl
new_at (suc count) (suc n) low = new_at count n (omega (arith, low))

module _ (graph : Graph) (end : ℕ) (stages : List Stage) (members bounds : List ℕ) (path : List Branch) (least : Option ℕ)
    (split : IsSplit graph end stages members bounds path least) (x next : ℕ) (new : slice_get stages x ≡ Some New) (begin : next ≡ slice_index graph.starts.items x)
    (leads : (i n : ℕ) → slice_get members i ≡ Some n → LeadsTo graph x n) where
  x_low : x < length stages
  x_low = slice_get_within stages x New new

  abbrev after : List Stage
  after = set stages x (Open (length members))

  apart : (n : ℕ) (stage : Stage) → slice_get stages n ≡ Some stage → (stage ≡ New → ⊥) → n ≢ x
  apart n stage at other is = other (same_Some _ _ (sym at ∙ ap (slice_get stages) is ∙ new))

  kept : (n : ℕ) (stage : Stage) → slice_get stages n ≡ Some stage → (stage ≡ New → ⊥) → slice_get after n ≡ Some stage
  kept n stage at other = slice_get_set_other stages x n (Open (length members)) (apart n stage at other) ∙ at

  here_open : slice_get after x ≡ Some (Open (length members))
  here_open = slice_get_set_same stages x (Open (length members)) x_low

  done_before : (n : ℕ) → slice_get after n ≡ Some Done → slice_get stages n ≡ Some Done
  done_before n at = elim (cases_eq n x) [
    | inl is ↦ absurd (open_not_done after x (length members) here_open (sym (ap (slice_get after) is) ∙ at))
    | inr other ↦ sym (slice_get_set_other stages x n (Open (length members)) other) ∙ at
  ]

  pub settled_opened : (i n : ℕ) → slice_get members i ≡ Some n → IsSettled after (bounds ++ length members ∷ []) least i n x
  settled_opened i n at = inr (
    length members,
    here_open,
    (λ b on low. elim (slice_get_pushed bounds (length members) on.0 b on.1) [
      | inl old ↦ omega (arith, bound_low graph end stages members bounds path least split b (on.0, old))
      | inr last ↦ omega (arith, last.1)
    ]),
    (λ is. absurd (new_not_open stages x i new (ap (slice_get stages) is ∙ split.opened i n at))),
  )

  settled_kept : (i n y : ℕ) → i < length members → IsSettled stages bounds least i n y → IsSettled after (bounds ++ length members ∷ []) least i n y
  settled_kept i n y low (inl done) = inl (kept y Done done (λ e. cc e))
  settled_kept i n y low (inr open_) = inr (
    open_.0,
    kept y (Open open_.0) open_.1 (λ e. cc e),
    (λ b on under. elim (slice_get_pushed bounds (length members) on.0 b on.1) [
      | inl old ↦ open_.2 b (on.0, old) under
      | inr last ↦ absurd (omega (arith, last.1, under, low))
    ]),
    open_.3,
  )

  rising : (i j : ℕ) (s t : Branch) → i < j → slice_get (path ++ fresh members next ∷ []) i ≡ Some s → slice_get (path ++ fresh members next ∷ []) j ≡ Some t → s.place < t.place
  rising i j s t less here there = elim (slice_get_pushed path (fresh members next) j t there) [
    | inl right ↦ elim (slice_get_pushed path (fresh members next) i s here) [
      | inl left ↦ split.rising i j s t less left right
      | inr one ↦ absurd (omega (arith, one.0, less, slice_get_within path j t right))
    ]
    | inr last ↦ elim (slice_get_pushed path (fresh members next) i s here) [
      | inl left ↦ omega (arith, branch_low graph end stages members bounds path least split i s left, ap (λ (u : Branch). u.place) last.1)
      | inr one ↦ absurd (omega (arith, one.0, last.0, less))
    ]
  ]

  climbing : (i j b c : ℕ) → i < j → slice_get (bounds ++ length members ∷ []) i ≡ Some b → slice_get (bounds ++ length members ∷ []) j ≡ Some c → b < c
  climbing i j b c less here there = elim (slice_get_pushed bounds (length members) j c there) [
    | inl right ↦ elim (slice_get_pushed bounds (length members) i b here) [
      | inl left ↦ split.climbing i j b c less left right
      | inr one ↦ absurd (omega (arith, one.0, less, slice_get_within bounds j c right))
    ]
    | inr last ↦ elim (slice_get_pushed bounds (length members) i b here) [
      | inl left ↦ omega (arith, bound_low graph end stages members bounds path least split b (i, left), last.1)
      | inr one ↦ absurd (omega (arith, one.0, last.0, less))
    ]
  ]

  on_path : (b : ℕ) → IsIn (bounds ++ length members ∷ []) b → (k : ℕ) × (s : Branch) × (slice_get (path ++ fresh members next ∷ []) k ≡ Some s) × (s.place ≡ b)
  on_path b on = elim (slice_get_pushed bounds (length members) on.0 b on.1) [
    | inl old ↦ (let own = split.on_path b (on.0, old) in (own.0, own.1, slice_get_left path (fresh members next ∷ []) own.0 own.1 own.2, own.3))
    | inr last ↦ (length path, fresh members next, slice_get_last path (fresh members next) (length path) refl, last.1)
  ]

  first : (i n : ℕ) → slice_get (members ++ x ∷ []) i ≡ Some n → IsIn (bounds ++ length members ∷ []) 0
  first i n at = elim (cases_eq (length members) 0) [
    | inl none ↦ (length bounds, slice_get_last bounds (length members) (length bounds) refl ∙ ap (λ (u : ℕ). Some u) none)
    | inr some ↦ (let old = split.first 0 _ (slice_get-get_or members 0 0 (omega (arith, some))) in (old.0, slice_get_left bounds (length members ∷ []) old.0 0 old.1))
  ]

  looked : (i n edge y : ℕ) → slice_get (members ++ x ∷ []) i ≡ Some n → slice_index graph.starts.items n ≤ edge → edge < slice_index graph.starts.items (n + 1)
      → slice_get graph.sources.items edge ≡ Some y → IsPast (path ++ fresh members next ∷ []) i edge → IsSettled after (bounds ++ length members ∷ []) least i n y
  looked i n edge y at from to on past = elim (slice_get_pushed members x i n at) [
    | inl old ↦ settled_kept i n y (slice_get_within members i n old)
        (split.looked i n edge y old from to on (λ k s here same. past k s (slice_get_left path (fresh members next ∷ []) k s here) same))
    | inr last ↦ absurd (omega (arith, past (length path) (fresh members next) (slice_get_last path (fresh members next) (length path) refl) (sym last.0), begin, from, ap (slice_index graph.starts.items) last.1))
  ]

  leads_new : (i j m n : ℕ) → slice_get (members ++ x ∷ []) i ≡ Some m → slice_get (members ++ x ∷ []) j ≡ Some n → NotBefore (bounds ++ length members ∷ []) i j → LeadsTo graph n m
  leads_new i j m n here there later = elim (slice_get_pushed members x i m here) [
    | inl left ↦ elim (slice_get_pushed members x j n there) [
      | inl right ↦ split.leads i j m n left right (λ b on low. later b (on.0, slice_get_left bounds (length members ∷ []) on.0 b on.1) low)
      | inr last ↦ subst (λ (u : ℕ). LeadsTo graph u m) last.1 (leads i m left)
    ]
    | inr one ↦ elim (slice_get_pushed members x j n there) [
      | inl right ↦ absurd (omega (
        arith,
        slice_get_within members j n right,
        one.0,
        later (length members) (length bounds, slice_get_last bounds (length members) (length bounds) refl) (omega (arith, one.0)),
      ))
      | inr last ↦ inl (sym last.1 ∙ one.1)
    ]
  ]

  pub split_opened : LeadsTo graph x end → AreRows graph.starts.items graph.sources.items
      → IsSplit graph end after (members ++ x ∷ []) (bounds ++ length members ∷ []) (path ++ fresh members next ∷ []) least
  split_opened below rows = record {
    size = ap (λ k. k + 1) (length-set stages x (Open (length members))) ∙ split.size;
    opened = λ i n at. elim (slice_get_pushed members x i n at) [
      | inl old ↦ kept n (Open i) (split.opened i n old) (λ e. cc e)
      | inr last ↦ ap (slice_get after) (sym last.1) ∙ here_open ∙ ap (λ (k : ℕ). Some (Open k)) (sym last.0)
    ];
    listed = λ i n at. elim (cases_eq n x) [
      | inl is ↦ slice_get_last members x i (same_place after x i (length members) (sym (ap (slice_get after) is) ∙ at) here_open) ∙ ap (λ (u : ℕ). Some u) (sym is)
      | inr other ↦ slice_get_left members (x ∷ []) i n (split.listed i n (sym (slice_get_set_other stages x n (Open (length members)) other) ∙ at))
    ];
    rising = rising;
    within = λ i t at. elim (slice_get_pushed path (fresh members next) i t at) [
      | inl old ↦ (let own = split.within i t old in (own.0, slice_get_left members (x ∷ []) t.place own.0 own.1, own.2, own.3))
      | inr last ↦ (
        x,
        slice_get_last members x t.place (sym (ap (λ (u : Branch). u.place) last.1)),
        omega (arith, begin, ap (λ (u : Branch). u.next) last.1),
        omega (arith, begin, ap (λ (u : Branch). u.next) last.1, rows.rising x (omega (arith, x_low, split.size))),
      )
    ];
    climbing = climbing;
    on_path = on_path;
    first = first;
    looked = looked;
    leads = leads_new;
    closed = λ m n done edge. kept m Done (split.closed m n (done_before n done) edge) (λ e. cc e);
    noted = λ n done far. split.noted n (done_before n done) far;
    found = split.found;
    below = λ i n at. elim (slice_get_pushed members x i n at) [
      | inl old ↦ split.below i n old
      | inr last ↦ subst (λ (u : ℕ). LeadsTo graph u end) last.1 below
    ];
  }

  pub seen_opened : KeepsSeen stages after
  seen_opened n at = elim (cases_eq n x) [
    | inl is ↦ absurd (new_not_open after x (length members) (sym (ap (slice_get after) is) ∙ at) here_open)
    | inr other ↦ sym (slice_get_set_other stages x n (Open (length members)) other) ∙ at
  ]

  pub work_opened : work graph after (path ++ fresh members next ∷ []) < work graph stages path
  work_opened = grind (arith, sum_by_push (λ (t : Branch). length graph.sources.items + 1 - t.next) path (fresh members next), sum_by-set new_one stages x (Open (length members)) New x_low, ap new_one (get_or_from_slice_get stages x New New new))

pub path_opened : (path : List Branch) (s : Branch) → KeepsPath path (path ++ s ∷ [])
path_opened path s k t at = slice_get_left path (s ∷ []) k t at
