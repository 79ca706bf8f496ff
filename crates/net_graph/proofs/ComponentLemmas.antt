-- The search for components step by step: a node is opened, groups become one, an edge is passed, and a node or a group is done.
use Rattle.std.proofs.Common.{◌≡◌, ◌≢◌, ℕ, zero, suc, ◌+◌, ◌<◌, ◌≤◌, List, [], ◌∷◌, length, slice_get, slice_index, Option, Some, refl, ap, sym, ◌∙◌, subst, arith, ◌⊎◌, inl, inr}
use Rattle.std.proofs.Math.ListN.{set}
use Rattle.std.proofs.lemmas.Bool.{cases_eq, cases_lt}
use Rattle.std.proofs.lemmas.Option.{slice_get_within, same_Some}
use Rattle.net_graph.specs.declared.graph.Graph.{Graph}
use Rattle.net_graph.specs.declared.components.Stage.{Stage}
use Rattle.net_graph.specs.declared.components.Stage.TheVariants.{New, Open, Done}
use Rattle.net_graph.specs.declared.components.Branch.{Branch}
use Rattle.net_graph.specs.Graph.{Leads}
use Rattle.net_graph.specs.Lists.{IsIn}
use Rattle.net_graph.specs.Recurrent.{LeadsFar, LeadsTo, one, more, IsRecurrent}
use Rattle.net_graph.specs.Components.{NotBefore, IsNoted, IsSettled, IsPast, IsSplit, AreCut, AreNoted}
use Rattle.net_graph.proofs.ListLemmas.{slice_get_set_same, slice_get_set_other}
use Rattle.net_graph.proofs.FarLemmas.{far_to, to_after, in_take, in_one}

pub new_not_open : (stages : List Stage) (n i : ℕ) → slice_get stages n ≡ Some New → slice_get stages n ≡ Some (Open i) → ⊥
new_not_open stages n i new open_ = let e : New ≡ Open i = same_Some _ _ (sym new ∙ open_) in cc e

pub new_not_done : (stages : List Stage) (n : ℕ) → slice_get stages n ≡ Some New → slice_get stages n ≡ Some Done → ⊥
new_not_done stages n new done = let e : New ≡ Done = same_Some _ _ (sym new ∙ done) in cc e

pub open_not_done : (stages : List Stage) (n i : ℕ) → slice_get stages n ≡ Some (Open i) → slice_get stages n ≡ Some Done → ⊥
open_not_done stages n i open_ done = let e : Open i ≡ Done = same_Some _ _ (sym open_ ∙ done) in cc e

pub same_place : (stages : List Stage) (n i j : ℕ) → slice_get stages n ≡ Some (Open i) → slice_get stages n ≡ Some (Open j) → i ≡ j
same_place stages n i j here there = let e : Open i ≡ Open j = same_Some _ _ (sym here ∙ there) in cc e

-- the branch behind its next edge
abbrev pub moved_on : Branch → Branch
moved_on s = record { place = s.place; next = s.next + 1 }

module _ (graph : Graph) (end : ℕ) (stages : List Stage) (members bounds : List ℕ) (path : List Branch) (least : Option ℕ)
    (split : IsSplit graph end stages members bounds path least) where
  pub member_low : (i n : ℕ) → slice_get members i ≡ Some n → n < length stages
  member_low i n at = slice_get_within stages n (Open i) (split.opened i n at)

  pub branch_low : (k : ℕ) (s : Branch) → slice_get path k ≡ Some s → s.place < length members
  branch_low k s at = let own = split.within k s at in slice_get_within members s.place own.0 own.1

  pub bound_low : (b : ℕ) → IsIn bounds b → b < length members
  bound_low b on = let own = split.on_path b on in omega (arith, branch_low own.0 own.1 own.2, own.3)

  -- the last of the path is in the last group
  pub bounds_below : (k : ℕ) (s : Branch) → slice_get path k ≡ Some s → k + 1 ≡ length path → (b : ℕ) → IsIn bounds b → b ≤ s.place
  bounds_below k s at last b on =
      let own = split.on_path b on in
      elim (cases_eq own.0 k) [
        | inl is ↦ (let same : own.1 ≡ s = same_Some _ _ (sym own.2 ∙ ap (slice_get path) is ∙ at) in omega (arith, own.3, ap (λ (t : Branch). t.place) same))
        | inr other ↦ omega (arith, own.3, split.rising own.0 k own.1 s (omega (arith, other, last, slice_get_within path own.0 own.1 own.2)) own.2 at)
      ]

  -- what leads to a done node is done
  pub far_done : (m n : ℕ) → LeadsFar graph m n → slice_get stages n ≡ Some Done → slice_get stages m ≡ Some Done
  far_done m n (one _ _ edge) done = split.closed m n done edge
  far_done m n (more _ k _ way edge) done = far_done m k way (split.closed k n done edge)

  pub to_done : (m n : ℕ) → LeadsTo graph m n → slice_get stages n ≡ Some Done → slice_get stages m ≡ Some Done
  to_done m n (inl same) done = ap (slice_get stages) same ∙ done
  to_done m n (inr way) done = far_done m n way done

  -- what a group leads to is led to by each of the group
  pub leads_last : (p i n m : ℕ) → slice_get members p ≡ Some m → slice_get members i ≡ Some n → ((b : ℕ) → IsIn bounds b → b ≤ i) → LeadsTo graph n m
  leads_last p i n m here there below = split.leads p i m n here there (λ b on low. below b on)

  -- Noted

  pub split_noted : (x : ℕ) (new : Option ℕ) → IsRecurrent graph end x → AreNoted (x ∷ []) least new → IsSplit graph end stages members bounds path new
  split_noted x new is step = record {
    size = split.size;
    opened = split.opened;
    listed = split.listed;
    rising = split.rising;
    within = split.within;
    climbing = split.climbing;
    on_path = split.on_path;
    first = split.first;
    looked = λ i n edge y at from to on past. elim (split.looked i n edge y at from to on past) [
      | inl done ↦ inl done
      | inr open_ ↦ inr (open_.0, open_.1, open_.2, λ same. step.keeps n (open_.3 same))
    ];
    leads = split.leads;
    closed = split.closed;
    noted = λ n done far. step.keeps n (split.noted n done far);
    found = λ n is_new. elim (step.only n is_new) [
      | inl older ↦ split.found n older
      | inr on ↦ subst (λ (u : ℕ). IsRecurrent graph end u) (sym (in_one n x on)) is
    ];
    below = split.below;
  }

  -- Joined

  -- one of the bounds lies between the places, or none does
  between : (xs : List ℕ) (j p : ℕ) → ((b : ℕ) × IsIn xs b × (b ≤ j) × (p < b)) ⊎ ((b : ℕ) → IsIn xs b → b ≤ j → b ≤ p)
  between [] j p = inr (λ b on low. absurd (cc on.1))
  between (x ∷ xs) j p = elim (between xs j p) [
    | inl found ↦ inl (found.0, (suc found.1.0, found.1.1), found.2, found.3)
    | inr none ↦ elim (cases_lt p x) [
      | inr over ↦ inr (λ b on low. at_front b on low over none)
      | inl above ↦ elim (cases_lt j x) [
        | inl far ↦ inr (λ b on low. absurd_or b on low far none)
        | inr near ↦ inl (x, (0, refl), near, above)
      ]
    ]
  ]
    where
      at_front : (b : ℕ) → IsIn (x ∷ xs) b → b ≤ j → x ≤ p → ((c : ℕ) → IsIn xs c → c ≤ j → c ≤ p) → b ≤ p
      at_front b (zero, at) low over none = let e : x ≡ b = cc at in omega (arith, e, over)
      at_front b (suc k, at) low over none = none b (k, at) low

      absurd_or : (b : ℕ) → IsIn (x ∷ xs) b → b ≤ j → j < x → ((c : ℕ) → IsIn xs c → c ≤ j → c ≤ p) → b ≤ p
      absurd_or b (zero, at) low far none = let e : x ≡ b = cc at in absurd (omega (arith, e, low, far))
      absurd_or b (suc k, at) low far none = none b (k, at) low

  -- an edge leads from the node at place j to that of the last group at place i
  pub split_cut : (i n j x : ℕ) (new : List ℕ) → slice_get members i ≡ Some n → ((b : ℕ) → IsIn bounds b → b ≤ i) → slice_get members j ≡ Some x → Leads graph x n
      → AreCut j bounds new → IsSplit graph end stages members new path least
  split_cut i n j x new at below there edge cut = record {
    size = split.size;
    opened = split.opened;
    listed = split.listed;
    rising = split.rising;
    within = split.within;
    climbing = λ p q b c less here last. split.climbing p q b c less (inside p b here) (inside q c last);
    on_path = λ b on. split.on_path b (on.0, inside on.0 b on.1);
    first = λ p m on. cut.kept 0 (split.first p m on) (omega arith);
    looked = λ p m e y on from to is past. elim (split.looked p m e y on from to is past) [
      | inl done ↦ inl done
      | inr open_ ↦ inr (open_.0, open_.1, (λ b in_new low. open_.2 b (in_new.0, inside in_new.0 b in_new.1) low), open_.3)
    ];
    leads = leads;
    closed = split.closed;
    noted = split.noted;
    found = split.found;
    below = split.below;
  }
    where
      inside : (p b : ℕ) → slice_get new p ≡ Some b → slice_get bounds p ≡ Some b
      inside p b on = (in_take cut.count bounds p b (sym (ap (λ (xs : List ℕ). slice_get xs p) cut.front) ∙ on)).0

      leads : (p q m k : ℕ) → slice_get members p ≡ Some m → slice_get members q ≡ Some k → NotBefore new p q → LeadsTo graph k m
      leads p q m k here last later = elim (between bounds j p) [
        | inl found ↦ split.leads p q m k here last (λ b on low. later b (cut.kept b on (omega (arith, low, found.2, found.3))) low)
        | inr none ↦ to_after graph k x m
            (split.leads j q x k there last (λ b on low. later b (cut.kept b on low) (none b on low)))
            (inr (far_to graph x n m (one x n edge) (leads_last p i n m here at below)))
      ]

  pub settled_cut : (i n j x : ℕ) (new : List ℕ) (noted : Option ℕ) → slice_get members j ≡ Some x → AreCut j bounds new → (x ≡ n → IsNoted noted n)
      → IsSettled stages new noted i n x
  settled_cut i n j x new noted there cut is = inr (j, split.opened j x there, (λ b on low. cut.low b on), is)

  -- Moved

  pub split_moved : (k n x : ℕ) (s : Branch) → slice_get path k ≡ Some s → slice_get members s.place ≡ Some n → s.next < slice_index graph.starts.items (n + 1)
      → slice_get graph.sources.items s.next ≡ Some x → IsSettled stages bounds least s.place n x
      → IsSplit graph end stages members bounds (set path k (moved_on s)) least
  split_moved k n x s at has low edge settled = record {
    size = split.size;
    opened = split.opened;
    listed = split.listed;
    rising = λ i j t u less here there.
        let first = was i t here in let second = was j u there in omega (arith, first.2, second.2, split.rising i j first.0 second.0 less first.1 second.1);
    within = within;
    climbing = split.climbing;
    on_path = λ b on. let old = split.on_path b on in elim (cases_eq old.0 k) [
      | inl is ↦ (let same : old.1 ≡ s = same_Some _ _ (sym old.2 ∙ ap (slice_get path) is ∙ at) in
          (k, (moved_on s), slice_get_set_same path k (moved_on s) within_path, sym (ap (λ (u : Branch). u.place) same) ∙ old.3))
      | inr other ↦ (old.0, old.1, slice_get_set_other path k old.0 (moved_on s) other ∙ old.2, old.3)
    ];
    first = split.first;
    looked = looked;
    leads = split.leads;
    closed = split.closed;
    noted = split.noted;
    found = split.found;
    below = split.below;
  }
    where
      within_path : k < length path
      within_path = slice_get_within path k s at

      was : (i : ℕ) (t : Branch) → slice_get (set path k (moved_on s)) i ≡ Some t → (u : Branch) × (slice_get path i ≡ Some u) × (u.place ≡ t.place)
      was i t here = elim (cases_eq i k) [
        | inl is ↦ (let same : (moved_on s) ≡ t = same_Some _ _ (sym (slice_get_set_same path k (moved_on s) within_path) ∙ sym (ap (slice_get (set path k (moved_on s))) is) ∙ here) in
            (s, ap (slice_get path) is ∙ at, ap (λ (u : Branch). u.place) same))
        | inr other ↦ (t, sym (slice_get_set_other path k i (moved_on s) other) ∙ here, refl)
      ]

      within : (i : ℕ) (t : Branch) → slice_get (set path k (moved_on s)) i ≡ Some t
          → (m : ℕ) × (slice_get members t.place ≡ Some m) × (slice_index graph.starts.items m ≤ t.next) × (t.next ≤ slice_index graph.starts.items (m + 1))
      within i t here = elim (cases_eq i k) [
        | inl is ↦ (let same : (moved_on s) ≡ t = same_Some _ _ (sym (slice_get_set_same path k (moved_on s) within_path) ∙ sym (ap (slice_get (set path k (moved_on s))) is) ∙ here) in
            let old = split.within k s at in
            let node : old.0 ≡ n = same_Some _ _ (sym old.1 ∙ has) in
            subst (λ (u : Branch). (m : ℕ) × (slice_get members u.place ≡ Some m) × (slice_index graph.starts.items m ≤ u.next) × (u.next ≤ slice_index graph.starts.items (m + 1))) same
            (n, has, omega (arith, old.2, ap (slice_index graph.starts.items) node), omega (arith, low)))
        | inr other ↦ split.within i t (sym (slice_get_set_other path k i (moved_on s) other) ∙ here)
      ]

      -- what was passed but for the edge itself was passed before
      passed : (i e : ℕ) → IsPast (set path k (moved_on s)) i e → (e ≡ s.next → s.place ≢ i) → IsPast path i e
      passed i e past other l t on same = elim (cases_eq l k) [
        | inl is ↦ (let own : t ≡ s = same_Some _ _ (sym on ∙ ap (slice_get path) is ∙ at) in
            let here : s.place ≡ i = sym (ap (λ (u : Branch). u.place) own) ∙ same in
            let bound = past k (moved_on s) (slice_get_set_same path k (moved_on s) within_path) here in
            elim (cases_eq e s.next) [
              | inl equal ↦ absurd (other equal here)
              | inr differ ↦ omega (arith, bound, differ, ap (λ (u : Branch). u.next) own)
            ])
        | inr differ ↦ past l t (slice_get_set_other path k l (moved_on s) differ ∙ on) same
      ]

      looked : (i m e y : ℕ) → slice_get members i ≡ Some m → slice_index graph.starts.items m ≤ e → e < slice_index graph.starts.items (m + 1)
          → slice_get graph.sources.items e ≡ Some y → IsPast (set path k (moved_on s)) i e → IsSettled stages bounds least i m y
      looked i m e y here from to on past = elim (cases_eq e s.next) [
        | inr other ↦ split.looked i m e y here from to on (passed i e past (λ same. absurd (other same)))
        | inl same ↦ elim (cases_eq s.place i) [
          | inr apart ↦ split.looked i m e y here from to on (passed i e past (λ _. apart))
          | inl place ↦ (
              let source : x ≡ y = same_Some _ _ (sym edge ∙ sym (ap (slice_get graph.sources.items) same) ∙ on) in
              let node : n ≡ m = same_Some _ _ (sym has ∙ ap (slice_get members) place ∙ here) in
              subst (λ (u : ℕ). IsSettled stages bounds least i m u) source
              (subst (λ (u : ℕ). IsSettled stages bounds least i u x) node
              (subst (λ (u : ℕ). IsSettled stages bounds least u n x) place settled)))
        ]
      ]
