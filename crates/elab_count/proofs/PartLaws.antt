-- The top and the modules below it, in the graph of the modules.
use Rattle.std.proofs.Common.{◌≡◌, ℕ, zero, suc, ◌+◌, ◌-◌, ◌<◌, ◌↔◌, inl, inr, Bool, true, false, List, [], ◌∷◌, length, get_or, slice_get, Some, ap, sym, subst, ◌∙◌, arith}
use Rattle.std.specs.Prelude.{replicate}
use Rattle.std.proofs.lemmas.List.{get_or-replicate}
use Rattle.std.proofs.lemmas.Option.{slice_get_within, slice_get-get_or, same_Some}
use Rattle.vlog_parse.specs.declared.tree.Tree.{Tree}
use Rattle.vlog_check.specs.Checked.{Contains, IsBelow, child, deeper}
use Rattle.net_graph.specs.declared.graph.Graph.{Graph}
use Rattle.net_graph.specs.Graph.{Leads, IsCycle}
use Rattle.net_graph.specs.Reach.{Reaches, itself, along}
use Rattle.net_graph.specs.Lists.{is_marked}
use Rattle.elab_count.specs.Counting.{IsPart}
use Rattle.elab_count.specs.Instances.{IsInstanceGraph, IsSorting, AreInOrder}

below_more : (tree : Tree) (a b c : ℕ) → IsBelow tree a b → Contains tree b c → IsBelow tree a c
below_more tree a b c (child _ _ holds) more = deeper a b c holds (child b c more)
below_more tree a b c (deeper _ k _ holds rest) more = deeper a k c holds (below_more tree k b c rest more)

module _ (tree : Tree) (wanted : List Bool) (graph : Graph) (is : IsInstanceGraph tree wanted graph) where
  -- from the top on, where all modules are wanted
  module _ (all : (n : ℕ) → n < length tree.modules → is_marked wanted n ≡ true) (top : ℕ) (ends : List ℕ) (only : ends ≡ top ∷ []) where
    leads : (a b : ℕ) → Contains tree a b → Leads graph b a
    leads a b holds = (is.leads b a).1 (all a (slice_get_within tree.modules a holds.holder holds.at), holds)

    into_part : (n : ℕ) → Reaches graph ends n → IsPart tree top n
    into_part n (itself i _ at) = inl (by i (ap (λ xs. slice_get xs i) (sym only) ∙ at))
      where
        by : (i : ℕ) → slice_get (top ∷ []) i ≡ Some n → n ≡ top
        by zero p = sym (same_Some top n p)
        by (suc i) p = absurd (cc p)
    into_part n (along _ k edge rest) =
        let holds = ((is.leads n k).0 edge).1 in
        elim (into_part k rest) [
          | inl same ↦ inr (subst (λ (j : ℕ). IsBelow tree j n) same (child k n holds))
          | inr below ↦ inr (below_more tree top k n below holds)
        ]

    reach_below : (a n : ℕ) → IsBelow tree a n → Reaches graph ends a → Reaches graph ends n
    reach_below a n (child _ _ holds) reached = along n a (leads a n holds) reached
    reach_below a n (deeper _ k _ holds rest) reached = reach_below k n rest (along k a (leads a k holds) reached)

    at_top : Reaches graph ends top
    at_top = itself 0 top (ap (λ xs. slice_get xs 0) only)

    out_of_part : (n : ℕ) → IsPart tree top n → Reaches graph ends n
    out_of_part n (inl same) = subst (λ (k : ℕ). Reaches graph ends k) (sym same) at_top
    out_of_part n (inr below) = reach_below top n below at_top

    pub parts_reached : (n : ℕ) → Reaches graph ends n ↔ IsPart tree top n
    parts_reached n = (into_part n, out_of_part n)

  -- a cycle would be a wanted module that contains itself
  module _ (finite : (n : ℕ) → is_marked wanted n ≡ true → IsBelow tree n n → ⊥) (nodes : List ℕ) (cycle : IsCycle (Leads graph) nodes) where
    at : (i : ℕ) → i < length nodes → slice_get nodes i ≡ Some (get_or nodes i 0)
    at i low = slice_get-get_or nodes i 0 low

    next : (i : ℕ) → suc i < length nodes → Contains tree (get_or nodes (suc i) 0) (get_or nodes i 0)
    next i low = ((is.leads (get_or nodes i 0) (get_or nodes (suc i) 0)).0 (cycle.next i _ _ (at i (omega (arith, low))) (let e : i + 1 ≡ suc i = omega arith in ap (slice_get nodes) e ∙ at (suc i) low))).1

    climbs : (i : ℕ) → suc i < length nodes → IsBelow tree (get_or nodes (suc i) 0) (get_or nodes 0 0)
    climbs zero low = child _ _ (next zero low)
    climbs (suc i) low = deeper _ _ _ (next (suc i) low) (climbs i (omega (arith, low)))

    pub no_cycle : ⊥
    no_cycle = by (length nodes - 1) (omega (arith, cycle.nonempty))
      where
        by : (last : ℕ) → last + 1 ≡ length nodes → ⊥
        by last end = finite (get_or nodes 0 0) closing.0 (around last (omega (arith, end)) closing.1)
          where
            closing : (is_marked wanted (get_or nodes 0 0) ≡ true) × Contains tree (get_or nodes 0 0) (get_or nodes last 0)
            closing = (is.leads (get_or nodes last 0) (get_or nodes 0 0)).0 (cycle.first last _ _ end (at last (omega (arith, end))) (at 0 cycle.nonempty))

            around : (i : ℕ) → i < length nodes → Contains tree (get_or nodes 0 0) (get_or nodes i 0) → IsBelow tree (get_or nodes 0 0) (get_or nodes 0 0)
            around zero low holds = child _ _ holds
            around (suc i) low holds = deeper _ _ _ holds (climbs i low)

  pub in_order : (order : List (ℕ × ℕ)) → IsSorting graph order → AreInOrder tree wanted order
  in_order order sorted = record {
    within = λ i r n on. omega (arith, sorted.within i r n on, is.size);
    all = λ n low. sorted.all n (omega (arith, low, is.size));
    behind = λ i j r s a b upto on later marked holds. sorted.behind i j r s a b upto on later ((is.leads b a).1 (marked, holds));
  }

pub marked_all : (marks : List Bool) (n k : ℕ) → marks ≡ replicate n true → k < n → is_marked marks k ≡ true
marked_all marks n k is low = ap (λ xs. is_marked xs k) is ∙ get_or-replicate n k true false low
