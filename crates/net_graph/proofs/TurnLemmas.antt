-- One turn of the search for components: the last node of the path is done, with its group where it began one, or an edge is passed.
use Rattle.std.proofs.Common.{◌≡◌, ◌≢◌, ℕ, zero, suc, ◌+◌, ◌-◌, ◌<◌, ◌≤◌, List, [], ◌∷◌, ◌++◌, length, take, drop, slice_get, Option, Some, refl, ap, sym, ◌∙◌, subst, arith, inl, inr, sum_by, get_or}
use Rattle.std.proofs.Math.ListN.{set}
use Rattle.std.proofs.lemmas.Bool.{cases_eq}
use Rattle.std.proofs.lemmas.List.Sums.{sum_by_push, sum_by-set}
use Rattle.std.proofs.lemmas.Option.{slice_get_within, slice_get-get_or, get_or_from_slice_get}
use Rattle.net_graph.specs.declared.graph.Graph.{Graph}
use Rattle.net_graph.specs.declared.components.Stage.{Stage}
use Rattle.net_graph.specs.declared.components.Stage.TheVariants.{New, Open}
use Rattle.net_graph.specs.declared.components.Branch.{Branch}
use Rattle.net_graph.specs.Rows.{AreRows}
use Rattle.net_graph.specs.Graph.{Leads}
use Rattle.net_graph.specs.Recurrent.{one}
use Rattle.net_graph.specs.Lists.{IsIn}
use Rattle.net_graph.specs.Components.{IsSettled, IsSplit, IsOver, AreCut, AreDone, AreNoted, IsNoted, KeepsSeen, work, new_one}
use Rattle.net_graph.proofs.ComponentLemmas.{bounds_below, moved_on, split_noted, split_cut, settled_cut}
use Rattle.net_graph.proofs.CloseLemmas.{split_left, split_closed}

-- a list is all but its last element, and that
front_and_last : {A : Type 0} (xs : List A) (k : ℕ) (x : A) → slice_get xs k ≡ Some x → k + 1 ≡ length xs → xs ≡ take k xs ++ x ∷ []
front_and_last [] k x at last = absurd (cc at)
front_and_last {A} (y ∷ xs) zero x at last = by xs (let e : length xs ≡ 0 = omega (arith, last) in e)
  where
    by : (ys : List A) → length ys ≡ 0 → y ∷ ys ≡ x ∷ []
    by [] none = let e : y ≡ x = cc at in ap (λ u. u ∷ []) e
    by (z ∷ ys) none = absurd (omega (arith, none))
front_and_last (y ∷ xs) (suc k) x at last = ap (λ ys. y ∷ ys) (front_and_last xs k x at (omega (arith, last)))

module _ (graph : Graph) (end : ℕ) (stages : List Stage) (members bounds : List ℕ) (path : List Branch) (least : Option ℕ)
    (split : IsSplit graph end stages members bounds path least) (place : ℕ) (over : IsOver graph members path place) where
  abbrev s : Branch
  s = over.branch

  has : slice_get members s.place ≡ Some over.node
  has = ap (slice_get members) over.has ∙ over.is

  bound_some : 0 < length bounds
  bound_some = let on = split.first s.place over.node has in omega (arith, slice_get_within bounds on.0 0 on.1)

  top : slice_get bounds (length bounds - 1) ≡ Some (get_or bounds (length bounds - 1) 0)
  top = slice_get-get_or bounds (length bounds - 1) 0 (omega (arith, bound_some))

  front : (rest : List Branch) → rest ≡ take (length path - 1) path → rest ≡ take over.last path
  front rest is = let e : length path - 1 ≡ over.last = omega (arith, over.end) in is ∙ ap (λ (k : ℕ). take k path) e

  pub bounds_some : 0 < length bounds
  bounds_some = bound_some

  pub left : (rest : List Branch) → rest ≡ take (length path - 1) path → get_or bounds (length bounds - 1) 0 ≢ place → IsSplit graph end stages members bounds rest least
  left rest is apart = subst (λ (p : List Branch). IsSplit graph end stages members bounds p least) (sym (front rest is))
      (split_left graph end stages members bounds path least split over.last over.node s over.at over.end has over.none none)
    where
      none : (b : ℕ) → IsIn bounds b → b ≢ s.place
      none b on same = elim (cases_eq on.0 (length bounds - 1)) [
        | inl last ↦ apart (get_or_from_slice_get bounds (length bounds - 1) b 0 (sym (ap (slice_get bounds) last) ∙ on.1) ∙ same ∙ over.has)
        | inr other ↦ omega (
          arith,
          same,
          split.climbing on.0 (length bounds - 1) b (get_or bounds (length bounds - 1) 0) (omega (arith, other, slice_get_within bounds on.0 b on.1)) on.1 top,
          bounds_below graph end stages members bounds path least split over.last s over.at over.end (get_or bounds (length bounds - 1) 0) (length bounds - 1, top),
        )
      ]

  pub closed : (rest : List Branch) (after : List Stage) (members_after bounds_after : List ℕ) (found : Option ℕ) → rest ≡ take (length path - 1) path
      → get_or bounds (length bounds - 1) 0 ≡ place → bounds_after ≡ take (length bounds - 1) bounds → members_after ≡ take place members
      → AreDone (drop place members) stages after → (place + 1 < length members → AreNoted (drop place members) least found) → (length members ≤ place + 1 → found ≡ least)
      → IsSplit graph end after members_after bounds_after rest found
  closed rest after members_after bounds_after found is begins cut_bounds cut_members done many single =
      subst (λ (p : List Branch). IsSplit graph end after members_after bounds_after p found) (sym (front rest is))
      (subst (λ (m : List ℕ). IsSplit graph end after m bounds_after (take over.last path) found) (sym (cut_members ∙ ap (λ (k : ℕ). take k members) (sym over.has)))
      (subst (λ (b : List ℕ). IsSplit graph end after (take s.place members) b (take over.last path) found) (sym cut_bounds)
      (split_closed graph end stages members bounds path least split over.last over.node s over.at over.end has over.none (length bounds - 1)
      (top ∙ ap (λ (u : ℕ). Some u) (begins ∙ sym over.has)) (omega (arith, bound_some)) after found
      (subst (λ (k : ℕ). AreDone (drop k members) stages after) (sym over.has) done)
      (λ more. subst (λ (k : ℕ). AreNoted (drop k members) least found) (sym over.has) (many (omega (arith, more, over.has))))
      (λ few. single (omega (arith, few, over.has))))))

  pub work_left : (after : List Stage) (rest : List Branch) → rest ≡ take (length path - 1) path → AreRows graph.starts.items graph.sources.items
      → sum_by new_one after ≤ sum_by new_one stages → work graph after rest < work graph stages path
  work_left after rest is rows fewer =
      let whole : path ≡ rest ++ s ∷ [] = front_and_last path over.last s over.at over.end ∙ ap (λ (p : List Branch). p ++ s ∷ []) (sym (front rest is)) in
      let own = split.within over.last s over.at in
      let low : s.next ≤ length graph.sources.items = omega (arith, own.3, rows.within (own.0 + 1) (omega (arith, split.size, slice_get_within stages own.0 _ (split.opened s.place own.0 own.1)))) in
      grind (arith, low, fewer, ap (sum_by (λ (t : Branch). length graph.sources.items + 1 - t.next)) whole, sum_by_push (λ (t : Branch). length graph.sources.items + 1 - t.next) rest s)

pub seen_done : (nodes : List ℕ) (old new : List Stage) → AreDone nodes old new → KeepsSeen old new
seen_done nodes old new done n at = elim (done.was n New at) [
  | inl older ↦ older
  | inr on ↦ absurd (let e = on.0 in cc e)
]

pub work_moved : (graph : Graph) (stages : List Stage) (path : List Branch) (k : ℕ) (s : Branch) → slice_get path k ≡ Some s → s.next < length graph.sources.items
    → work graph stages (set path k (moved_on s)) < work graph stages path
work_moved graph stages path k s at low =
    omega (
      arith,
      low,
      sum_by-set (λ (t : Branch). length graph.sources.items + 1 - t.next) path k (moved_on s) s (slice_get_within path k s at),
      ap (λ (t : Branch). length graph.sources.items + 1 - t.next) (get_or_from_slice_get path k s s at),
    )

pub source_low : (graph : Graph) (stages : List Stage) (x n : ℕ) → length stages + 1 ≡ length graph.starts.items → Leads graph x n → x < length stages
source_low graph stages x n size edge = omega (arith, size, graph.rows.nodes edge.place x edge.is)

-- an edge leads from the open node x to the open node n of the last group
module _ (graph : Graph) (end : ℕ) (stages : List Stage) (members bounds : List ℕ) (path : List Branch) (least : Option ℕ)
    (split : IsSplit graph end stages members bounds path least) (place n x j : ℕ) (has : slice_get members place ≡ Some n)
    (last : (b : ℕ) → IsIn bounds b → b ≤ place) (edge : Leads graph x n) (stage : slice_get stages x ≡ Some (Open j))
    (noted : Option ℕ) (own : x ≡ n → AreNoted (x ∷ []) least noted) (other : (x ≡ n → ⊥) → noted ≡ least) (new : List ℕ) (cut : AreCut j bounds new) where
  there : slice_get members j ≡ Some x
  there = split.listed j x stage

  pub open_split : IsSplit graph end stages members new path noted
  open_split = elim (cases_eq x n) [
    | inl same ↦ split_noted graph end stages members new path least joined x noted
        (split.below j x there, one x x (subst (λ (u : ℕ). Leads graph x u) (sym same) edge)) (own same)
    | inr differ ↦ subst (λ (l : Option ℕ). IsSplit graph end stages members new path l) (sym (other differ)) joined
  ]
    where
      joined : IsSplit graph end stages members new path least
      joined = split_cut graph end stages members bounds path least split place n j x new has last there edge cut

  pub open_settled : IsSettled stages new noted place n x
  open_settled = settled_cut graph end stages members bounds path least split place n j x new noted there cut
      (λ same. subst (λ (u : ℕ). IsNoted noted u) same ((own same).takes x (0, refl)))
