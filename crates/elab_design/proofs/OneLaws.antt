-- A design has one flat order.
use Rattle.std.proofs.Common.{◌≡◌, List, [], ◌∷◌, ◌++◌, Some, None, refl, ap, sym, ◌∙◌, subst}
use Rattle.std.proofs.lemmas.Option.{same_Some}
use Rattle.vlog_parse.specs.declared.tree.Module.{Module}
use Rattle.vlog_parse.specs.declared.tree.Item.{Item}
use Rattle.vlog_parse.specs.declared.tree.Inst.{Inst}
use Rattle.vlog_check.specs.Scope.{OfModule, kind_of}
use Rattle.elab_design.specs.Design.{Path, Design}
use Rattle.elab_design.specs.DesignCells.{DesignCell}
use Rattle.elab_design.specs.Order.{DesignGroup, own_groups, module_in, InnerGroups, GroupsOf, own_cells, instance_links, Unfolds, over, own, plain, inside, FlatOrder}

module _ (d : Design) where
  no_kind : (inst : Inst) (n : Module) → module_in (kind_of d.tree inst) ≡ None → kind_of d.tree inst ≡ Some (OfModule n) → ⊥
  no_kind inst n lacks is = let e : module_in (Some (OfModule n)) ≡ None = sym (ap module_in is) ∙ lacks in cc e

  one_kind : (inst : Inst) (n o : Module) → kind_of d.tree inst ≡ Some (OfModule n) → kind_of d.tree inst ≡ Some (OfModule o) → n ≡ o
  one_kind inst n o is its = kinds_same (sym is ∙ its)
    where
      kinds_same : Some (OfModule n) ≡ Some (OfModule o) → n ≡ o
      kinds_same e = cc e

  pub one_unfolding : (m : Module) (path : Path) (its : List Item) (cells others : List DesignCell) → Unfolds d m path its cells → Unfolds d m path its others → cells ≡ others
  one_unfolding m path _ _ _ (over _ _) (over _ _) = refl
  one_unfolding m path _ _ _ (own _ _ item more cells _ rest) (own _ _ _ _ others _ other) = ap (λ cs. own_cells d m path item ++ cs) (one_unfolding m path more cells others rest other)
  one_unfolding m path _ _ _ (own _ _ _ more cells lacks rest) (inside _ o _ inst _ inner others is deep other) = absurd (no_kind inst o lacks is)
  one_unfolding m path _ _ _ (inside _ n _ inst more inner cells is deep rest) (own _ _ _ _ others lacks other) = absurd (no_kind inst n lacks is)
  one_unfolding m path _ _ _ (inside _ n _ inst more inner cells is deep rest) (inside _ o _ _ _ inner2 others its deep2 other) =
      let same = one_kind inst n o is its in
      let below : inner ≡ inner2 = one_unfolding n (inst.name ∷ path) n.items inner inner2 deep (subst (λ (x : Module). Unfolds d x (inst.name ∷ path) x.items inner2) (sym same) deep2) in
      ap (λ (x : Module). instance_links m path inst x ++ (inner ++ cells)) same
      ∙ ap (λ cs. instance_links m path inst o ++ (cs ++ cells)) below
      ∙ ap (λ cs. instance_links m path inst o ++ (inner2 ++ cs)) (one_unfolding m path more cells others rest other)

  one_inner : (path : Path) (its : List Item) (groups others : List DesignGroup) → InnerGroups d path its groups → InnerGroups d path its others → groups ≡ others
  one_inner path _ _ _ (over _) (over _) = refl
  one_inner path _ _ _ (plain _ item more groups _ rest) (plain _ _ _ others _ other) = one_inner path more groups others rest other
  one_inner path _ _ _ (plain _ _ more groups lacks rest) (inside _ o inst _ inner others is deep other) = absurd (no_kind inst o lacks is)
  one_inner path _ _ _ (inside _ n inst more inner groups is deep rest) (plain _ _ _ others lacks other) = absurd (no_kind inst n lacks is)
  one_inner path _ _ _ (inside _ n inst more inner groups is deep rest) (inside _ o _ _ inner2 others its deep2 other) =
      let same = one_kind inst n o is its in
      let below : inner ≡ inner2 = one_inner (inst.name ∷ path) n.items inner inner2 deep (subst (λ (x : Module). InnerGroups d (inst.name ∷ path) x.items inner2) (sym same) deep2) in
      ap (λ (x : Module). (own_groups x (inst.name ∷ path) ++ inner) ++ groups) same
      ∙ ap (λ gs. (own_groups o (inst.name ∷ path) ++ gs) ++ groups) below
      ∙ ap (λ gs. (own_groups o (inst.name ∷ path) ++ inner2) ++ gs) (one_inner path more groups others rest other)

  one_groups : (m n : Module) (path : Path) (groups others : List DesignGroup) → m ≡ n → GroupsOf d m path groups → GroupsOf d n path others → groups ≡ others
  one_groups m n path groups others same one other =
      let below : one.inner ≡ other.inner = one_inner path m.items one.inner other.inner one.below (subst (λ (x : Module). InnerGroups d path x.items other.inner) (sym same) other.below) in
      one.all ∙ ap (λ (x : Module). own_groups x path ++ one.inner) same ∙ ap (λ gs. own_groups n path ++ gs) below ∙ sym other.all

  pub one_order : (groups others : List DesignGroup) (cells more : List DesignCell) → FlatOrder d groups cells → FlatOrder d others more → (groups ≡ others) × (cells ≡ more)
  one_order groups others cells more one other =
      let same : one.top ≡ other.top = same_Some one.top other.top (sym one.is_top ∙ other.is_top) in (
        one_groups one.top other.top [] groups others same one.all_groups other.all_groups,
        one_unfolding one.top [] one.top.items cells more one.all_cells (subst (λ (x : Module). Unfolds d x [] x.items more) (sym same) other.all_cells),
      )
