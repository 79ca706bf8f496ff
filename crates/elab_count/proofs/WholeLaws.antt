-- What is unfolded counts what the table says.
use Rattle.std.proofs.Common.{◌≡◌, ℕ, zero, suc, ◌*◌, ◌≤◌, List, [], ◌∷◌, ◌++◌, map, length, slice_get, Option, Some, None, inl, inr, refl, ap, sym, ◌∙◌, subst, arith, append_assoc, append-nil}
use Rattle.std.specs.List.{filter_map, cons_option}
use Rattle.std.specs.Option.{option_map, option_map_or, option_and_then}
use Rattle.std.proofs.lemmas.List.{length-map}
use Rattle.std.proofs.lemmas.List.Sums.{sum_by-cons}
use Rattle.std.proofs.lemmas.Option.{same_Some}
use Rattle.ila_base.specs.declared.refusal.LimitKind.{LimitKind}
use Rattle.ila_base.specs.declared.refusal.LimitKind.TheVariants.{Cells, Pins, Nets, AllNames}
use Rattle.vlog_parse.specs.declared.tree.Module.{Module}
use Rattle.vlog_parse.specs.declared.tree.Range.{Range}
use Rattle.vlog_parse.specs.declared.tree.Item.{Item}
use Rattle.vlog_parse.specs.declared.tree.Item.TheVariants as items
use Rattle.vlog_parse.specs.declared.tree.Inst.{Inst}
use Rattle.vlog_parse.specs.ReadTree.{In}
use Rattle.vlog_check.specs.declared.primitive.Primitive.{Primitive}
use Rattle.ila_base.specs.declared.refusal.NetRefusal.TheVariants as refusals
use Rattle.vlog_check.specs.declared.found.Detail.TheVariants.{Alone}
use Rattle.vlog_check.specs.FindingPins.{FindsUnknown}
use Rattle.vlog_check.specs.FindingWidths.{finding}
use Rattle.vlog_check.specs.Scope.{Kind, OfCell, OfModule, kind_of, cell_first, cell_of, module_of, module_number, range_of, range_width}
use Rattle.vlog_check.specs.Checked.{Contains, IsBelow, child, IsChecked}
use Rattle.elab_design.specs.Design.{Path, Design, bit_of, indices}
use Rattle.elab_design.specs.DesignCells.{DesignCell}
use Rattle.elab_design.specs.Order.{DesignGroup, net_names, net_group, own_groups, module_in, inner_module, own_cells, leaf_of, instance_links, InnerGroups, Unfolds, over, own, plain, inside, FlatOrder}
use Rattle.elab_design.specs.Names.{flat_name}
use Rattle.elab_design.specs.Limits.{Counts, depth, unfolded, IsDeepest, amount, carried}
use Rattle.elab_design.proofs.Lists.{in_none}
use Rattle.elab_design.proofs.SoundLaws.{IsSoundDesign, sound_design, and_then_some, module_first}
use Rattle.elab_design.proofs.CheckLaws.{within_clean}
use Rattle.elab_design.proofs.WidthLaws.{indices_length}
use Rattle.elab_design.proofs.OneLaws.{one_order}
use Rattle.elab_design.proofs.ExistLaws.{InnerPaths, no_item, other_item, instance, HasWhole, HasTop, has_top, below_more, way_at, path_leads}
use Rattle.elab_scope.specs.Modules.{part_first, part_of}
use Rattle.elab_count.specs.declared.amounts.Count.{Count}
use Rattle.elab_scope.specs.declared.numbers.Part.TheVariants as parts
use Rattle.elab_scope.specs.Nets.{named_nets, nets_named}
use Rattle.elab_count.specs.Counting.{nothing, together, all_together, capped, behind, net_count, links_count, conns_width, count_at, part_count, item_count, module_count, IsPart, AreCounts, count_of}
use Rattle.elab_count.proofs.CapLaws.{Same, same_is, same_capped, same_together, same_behind, same_one, same_both, same_turned}
use Rattle.elab_count.proofs.CountedLaws.{front, flat_length, longest, IsCounted, counted_none, counted_both, counted_behind}
use Rattle.elab_count.proofs.ItemLaws.{assign_counted, gate_counted, leaf_counted}
use Rattle.elab_count.proofs.PortSumLaws.{instance_counted}

-- the cells, groups and paths of the items of a module at a path, by one walk
pub data Wholes (d : Design) : Module → Path → List Item → List DesignCell → List DesignGroup → List Path → Type 0 where
  ended : (m : Module) (path : Path) → Wholes d m path [] [] [] []
  passed : (m : Module) (path : Path) (item : Item) (more : List Item) (cells : List DesignCell) (groups : List DesignGroup) (paths : List Path) → inner_module d item ≡ None → Wholes d m path more cells groups paths
      → Wholes d m path (item ∷ more) (own_cells d m path item ++ cells) groups paths
  entered : (m n : Module) (path : Path) (inst : Inst) (more : List Item) (ic : List DesignCell) (ig : List DesignGroup) (ip : List Path) (cells : List DesignCell) (groups : List DesignGroup) (paths : List Path)
      → kind_of d.tree inst ≡ Some (OfModule n) → Wholes d n (inst.name ∷ path) n.items ic ig ip → Wholes d m path more cells groups paths
      → Wholes d m path (items.Inst inst ∷ more) (instance_links m path inst n ++ (ic ++ cells)) ((own_groups n (inst.name ∷ path) ++ ig) ++ groups) ((inst.name ∷ path) ∷ (ip ++ paths))

module _ (d : Design) where
  no_kind : (inst : Inst) (n : Module) → module_in (kind_of d.tree inst) ≡ None → kind_of d.tree inst ≡ Some (OfModule n) → ⊥
  no_kind inst n lacks is = let e : module_in (Some (OfModule n)) ≡ None = sym (ap module_in is) ∙ lacks in cc e

  one_kind : (inst : Inst) (n o : Module) → kind_of d.tree inst ≡ Some (OfModule n) → kind_of d.tree inst ≡ Some (OfModule o) → n ≡ o
  one_kind inst n o is its = kinds_same (sym is ∙ its)
    where
      kinds_same : Some (OfModule n) ≡ Some (OfModule o) → n ≡ o
      kinds_same e = cc e

  walk : (m : Module) (path : Path) (its : List Item) (cells : List DesignCell) (groups : List DesignGroup) (paths : List Path) → Unfolds d m path its cells → InnerGroups d path its groups → InnerPaths d path its paths
      → Wholes d m path its cells groups paths
  walk m path _ _ _ _ (over _ _) (over _) (no_item _) = ended m path
  walk m path _ _ _ _ (own _ _ item more cells lacks rest) (plain _ _ _ groups _ gs) (other_item _ _ _ paths _ ps) = passed m path item more cells groups paths lacks (walk m path more cells groups paths rest gs ps)
  walk m path _ _ _ _ (own _ _ item more cells lacks rest) (plain _ _ _ groups _ gs) (instance _ o inst _ ip paths is deep ps) = absurd (no_kind inst o lacks is)
  walk m path _ _ _ _ (own _ _ item more cells lacks rest) (inside _ o inst _ ig groups is deep gs) ps = absurd (no_kind inst o lacks is)
  walk m path _ _ _ _ (inside _ n _ inst more ic cells is deep rest) (plain _ _ _ groups lacks gs) ps = absurd (no_kind inst n lacks is)
  walk m path _ _ _ _ (inside _ n _ inst more ic cells is deep rest) (inside _ o _ _ ig groups its down gs) (other_item _ _ _ paths lacks ps) = absurd (no_kind inst n lacks is)
  walk m path _ _ _ _ (inside _ n _ inst more ic cells is deep rest) (inside _ o _ _ ig groups its down gs) (instance _ u _ _ ip paths kind ways ps) =
      subst (λ (x : Module). Wholes d m path (items.Inst inst ∷ more) (instance_links m path inst n ++ (ic ++ cells)) ((own_groups x (inst.name ∷ path) ++ ig) ++ groups) ((inst.name ∷ path) ∷ (ip ++ paths))) (one_kind inst n o is its)
      (entered m n path inst more ic ig ip cells groups paths is
      (walk n (inst.name ∷ path) n.items ic ig ip deep
      (subst (λ (x : Module). InnerGroups d (inst.name ∷ path) x.items ig) (one_kind inst o n its is) down)
      (subst (λ (x : Module). InnerPaths d (inst.name ∷ path) x.items ip) (one_kind inst u n kind is) ways))
      (walk m path more cells groups paths rest gs ps))

-- Nets

one_net : (path : Path) (name : List ℕ) (range : Option Range) → IsCounted path [] (record { path = path; name = name; range = range } ∷ []) [] (net_count (name, range))
one_net path name range = record {
  cell_count = refl;
  pin_count = refl;
  bit_count = bits;
  name_count = refl;
  byte_count = (let e = flat_length path name in omega (arith, e, sum_by-cons length (flat_name path name) []));
  deepest = omega arith;
}
  where
    bits : length (map (bit_of path name) (indices range) ++ []) ≡ range_width range
    bits = ap length (append-nil (map (bit_of path name) (indices range))) ∙ length-map (indices range) (bit_of path name) ∙ indices_length range

nets_counted : (m : Module) (path : Path) (names : List (List ℕ)) → IsCounted path [] (filter_map (net_group m path) names) [] (all_together (map net_count (nets_named m names)))
nets_counted m path [] = counted_none path
nets_counted m path (name ∷ names) = by (range_of m name) (nets_counted m path names)
  where
    by : (o : Option (Option Range)) → IsCounted path [] (filter_map (net_group m path) names) [] (all_together (map net_count (nets_named m names)))
        → IsCounted path [] (cons_option (option_map (λ range. record { path = path; name = name; range = range }) o) (filter_map (net_group m path) names)) []
        (all_together (map net_count (cons_option (option_map (λ range. (name, range)) o) (nets_named m names))))
    by None rest = rest
    by (Some range) rest =
        counted_both path [] [] (record { path = path; name = name; range = range } ∷ []) (filter_map (net_group m path) names) [] [] (net_count (name, range)) (all_together (map net_count (nets_named m names))) (one_net path name range) rest

module _ (d : Design) (checked : IsChecked d.tree d.top) (number : ℕ) (table : List (Option Count)) (counts : AreCounts d.tree number table) where
  sound : IsSoundDesign d
  sound = sound_design d checked

  -- Instances

  part_is : (inst : Inst) (n : Module) (e : ℕ) → kind_of d.tree inst ≡ Some (OfModule n) → module_number d.tree inst.module ≡ Some e → part_of d.tree inst ≡ Some (parts.Module e)
  part_is inst n e is at =
      let first = module_first (cell_of inst.module) (module_of d.tree inst.module) n is in
      ap (λ o. part_first o (module_number d.tree inst.module)) first.0 ∙ ap (part_first None) at

  cell_is : (inst : Inst) (cell : Primitive) → kind_of d.tree inst ≡ Some (OfCell cell) → part_of d.tree inst ≡ Some (parts.Cell cell)
  cell_is inst cell is = by (cell_of inst.module) (module_of d.tree inst.module) is
    where
      by : (o : Option Primitive) (x : Option Module) → cell_first o x ≡ Some (OfCell cell) → part_first o (module_number d.tree inst.module) ≡ Some (parts.Cell cell)
      by (Some c) x e = (let same : c ≡ cell = cc e in ap (λ y. Some (parts.Cell y)) same)
      by None None e = absurd (cc e)
      by None (Some x) e = absurd (cc e)

  module _ (m : Module) (c : ℕ) (at : slice_get d.tree.modules c ≡ Some m) where
    leaf_item : (path : Path) (inst : Inst) (o : Option Kind) → In m.items (items.Inst inst) → kind_of d.tree inst ≡ o → module_in o ≡ None → IsCounted path (leaf_of m path inst o) [] [] (part_count table m inst (part_of d.tree inst))
    leaf_item path inst None there is lacks =
        absurd (within_clean d.tree checked.clean m (items.Inst inst) (finding inst.place Alone (refusals.UnknownModule inst.module)) (c, at) there (inl (subst (λ (o : Option Kind). FindsUnknown inst o (finding inst.place Alone (refusals.UnknownModule inst.module))) (sym is) refl)))
    leaf_item path inst (Some (OfCell cell)) there is lacks =
        subst (IsCounted path (leaf_of m path inst (Some (OfCell cell))) [] []) (ap (part_count table m inst) (sym (cell_is inst cell is)))
        (leaf_counted d.tree checked.clean m path (c, at) inst cell there is (λ e among. sound.exprs m (items.Inst inst) e (c, at) there among))
    leaf_item path inst (Some (OfModule n)) there is lacks = absurd (cc lacks)

    plain_item : (path : Path) (item : Item) → In m.items item → inner_module d item ≡ None → IsCounted path (own_cells d m path item) [] [] (item_count d.tree table m item)
    plain_item path (items.Net decl) there lacks = counted_none path
    plain_item path (items.Assign to from) there lacks =
        assign_counted d.tree checked.clean m path (c, at) to from there (sound.exprs m (items.Assign to from) to (c, at) there (0, refl)) (sound.exprs m (items.Assign to from) from (c, at) there (1, refl))
    plain_item path (items.Gate g) there lacks = gate_counted d.tree checked.clean m path (c, at) g there (λ e among. sound.exprs m (items.Gate g) e (c, at) there among)
    plain_item path (items.Inst inst) there lacks = leaf_item path inst (kind_of d.tree inst) there refl lacks

  -- what was walked has a count, which is that of the items as far as it is carried
  pub record HasCount (m : Module) (path : Path) (its : List Item) (cells : List DesignCell) (groups : List DesignGroup) (paths : List Path) : Type 0 where
    pub count : Count
    pub counted : IsCounted path cells groups paths count
    pub same : Same count (all_together (map (item_count d.tree table m) its))

  part_more : (c e : ℕ) → IsPart d.tree number c → Contains d.tree c e → IsPart d.tree number e
  part_more c e (inl same) holds = inr (subst (λ (n : ℕ). IsBelow d.tree n e) same (child c e holds))
  part_more c e (inr below) holds = inr (below_more d.tree number c e below holds)

  at_table : (e : ℕ) (n : Module) → IsPart d.tree number e → slice_get d.tree.modules e ≡ Some n → count_at table e ≡ capped (module_count d.tree table n)
  at_table e n part there = ap (λ (o : Option (Option Count)). option_map_or (λ (entry : Option Count). option_map_or (λ (c : Count). c) entry nothing) o nothing) (counts.each e n part there)

  -- a module with its nets and items
  module_same : (n : Module) (path : Path) (cells : List DesignCell) (groups : List DesignGroup) (paths : List Path) (inner : HasCount n path n.items cells groups paths)
      → (count : Count) × IsCounted path cells (own_groups n path ++ groups) paths count × Same count (module_count d.tree table n)
  module_same n path cells groups paths inner = (
    together (all_together (map net_count (named_nets n))) inner.count,
    counted_both path [] cells (own_groups n path) groups [] paths (all_together (map net_count (named_nets n))) inner.count (nets_counted n path (net_names n)) inner.counted,
    same_together (all_together (map net_count (named_nets n))) inner.count (all_together (map net_count (named_nets n))) (all_together (map (item_count d.tree table n) n.items))
        (same_one (all_together (map net_count (named_nets n))) (all_together (map net_count (named_nets n))) refl) inner.same,
  )

  has_count : (m : Module) (c : ℕ) → slice_get d.tree.modules c ≡ Some m → IsPart d.tree number c → (path : Path) (its : List Item) (cells : List DesignCell) (groups : List DesignGroup) (paths : List Path)
      → Wholes d m path its cells groups paths → ((x : Item) → In its x → In m.items x) → HasCount m path its cells groups paths
  has_count m c at part path _ _ _ _ (ended _ _) each = record { count = nothing; counted = counted_none path; same = same_one nothing nothing refl }
  has_count m c at part path _ _ _ _ (passed _ _ item more cells groups paths lacks rest) each =
      let later = has_count m c at part path more cells groups paths rest (λ x there. each x (suc there.0, there.1)) in
      let own = item_count d.tree table m item in
      record {
        count = together own later.count;
        counted = counted_both path (own_cells d m path item) cells [] groups [] paths own later.count (plain_item m c at path item (each item (0, refl)) lacks) later.counted;
        same = same_together own later.count own (all_together (map (item_count d.tree table m) more)) (same_one own own refl) later.same;
      }
  has_count m c at part path _ _ _ _ (entered _ n _ inst more ic ig ip cells groups paths is deep rest) each =
      joined (has_count n e.0 e.1.1 (part_more c e.0 part e.1.0) (inst.name ∷ path) n.items ic ig ip deep (λ x there. there)) (has_count m c at part path more cells groups paths rest (λ x there. each x (suc there.0, there.1)))
    where
      there : In m.items (items.Inst inst)
      there = each (items.Inst inst) (0, refl)

      first : (cell_of inst.module ≡ None) × (module_of d.tree inst.module ≡ Some n)
      first = module_first (cell_of inst.module) (module_of d.tree inst.module) n is

      numbered : (x : ℕ) × (module_number d.tree inst.module ≡ Some x) × (slice_get d.tree.modules x ≡ Some n)
      numbered = and_then_some (slice_get d.tree.modules) (module_number d.tree inst.module) n first.1

      e : (x : ℕ) × (Contains d.tree c x × (slice_get d.tree.modules x ≡ Some n))
      e = (numbered.0, (record { holder = m; at = at; inst = inst; has = there; no_cell = first.0; is = numbered.1 }, numbered.2))

      joined : HasCount n (inst.name ∷ path) n.items ic ig ip → HasCount m path more cells groups paths
          → HasCount m path (items.Inst inst ∷ more) (instance_links m path inst n ++ (ic ++ cells)) ((own_groups n (inst.name ∷ path) ++ ig) ++ groups) ((inst.name ∷ path) ∷ (ip ++ paths))
      joined inner later =
          let own = own_groups n (inst.name ∷ path) in
          let links = instance_links m path inst n in
          let width = conns_width m inst.conns in
          let k = length inst.name in
          let whole = module_same n (inst.name ∷ path) ic ig ip inner in
          let below = counted_behind inst.name path ic (own ++ ig) ip whole.0 whole.1 in
          let beside =
          instance_counted d.tree checked.clean m n inst (c, at) there is (λ x among. sound.exprs m (items.Inst inst) x (c, at) there among) (sound.ports_differ n (e.0, e.1.1))
          (λ port among. sound.ports_declared n port (e.0, e.1.1) among) path in
          let both = counted_both path links ic [] (own ++ ig) [] ((inst.name ∷ path) ∷ ip) (links_count width) (behind k whole.0) beside below in
          let all = counted_both path (links ++ ic) cells (own ++ ig) groups ((inst.name ∷ path) ∷ ip) paths (together (links_count width) (behind k whole.0)) later.count both later.counted in
          let table_is = at_table e.0 n (part_more c e.0 part e.1.0) e.1.1 in
          let inner_same : Same whole.0 (count_at table e.0) =
          same_both whole.0 (module_count d.tree table n) (count_at table e.0) whole.2
          (same_both (module_count d.tree table n) (capped (module_count d.tree table n)) (count_at table e.0) (same_turned (capped (module_count d.tree table n)) (module_count d.tree table n) (same_capped (module_count d.tree table n)))
          (same_one (capped (module_count d.tree table n)) (count_at table e.0) (sym table_is))) in
          let item_is : together (links_count width) (behind k (count_at table e.0)) ≡ item_count d.tree table m (items.Inst inst) = ap (part_count table m inst) (sym (part_is inst n e.0 is numbered.1)) in
          let item_same : Same (together (links_count width) (behind k whole.0)) (item_count d.tree table m (items.Inst inst)) =
          same_both (together (links_count width) (behind k whole.0)) (together (links_count width) (behind k (count_at table e.0))) (item_count d.tree table m (items.Inst inst))
          (same_together (links_count width) (behind k whole.0) (links_count width) (behind k (count_at table e.0)) (same_one (links_count width) (links_count width) refl) (same_behind k whole.0 (count_at table e.0) inner_same))
          (same_one (together (links_count width) (behind k (count_at table e.0))) (item_count d.tree table m (items.Inst inst)) item_is) in
          record {
            count = together (together (links_count width) (behind k whole.0)) later.count;
            counted = subst (λ (cs : List DesignCell). IsCounted path cs ((own ++ ig) ++ groups) ((inst.name ∷ path) ∷ (ip ++ paths)) (together (together (links_count width) (behind k whole.0)) later.count)) (append_assoc links ic cells) all;
            same = same_together (together (links_count width) (behind k whole.0)) later.count (item_count d.tree table m (items.Inst inst)) (all_together (map (item_count d.tree table m) more)) item_same later.same;
          }

  -- The top

  module _ (there : module_number d.tree d.top ≡ Some number) where
    abbrev own_top : HasTop d
    own_top = has_top d checked

    abbrev rest : HasWhole d own_top.top [] own_top.top.items
    rest = own_top.whole_top

    top_at : slice_get d.tree.modules number ≡ Some own_top.top
    top_at = sym (ap (option_and_then (slice_get d.tree.modules)) there) ∙ own_top.is_top

    counted_top : (count : Count) × IsCounted [] rest.cells (own_groups own_top.top [] ++ rest.groups) rest.paths count × Same count (module_count d.tree table own_top.top)
    counted_top =
        module_same own_top.top [] rest.cells rest.groups rest.paths
        (has_count own_top.top number top_at (inl refl) [] own_top.top.items rest.cells rest.groups rest.paths
        (walk d own_top.top [] own_top.top.items rest.cells rest.groups rest.paths rest.unfolds rest.below rest.ways) (λ x among. among))

    table_top : count_at table number ≡ capped counted_top.0
    table_top = at_table number own_top.top (inl refl) top_at ∙ sym (same_is counted_top.0 (module_count d.tree table own_top.top) counted_top.2)

    -- The depth

    longest_in : (low : ℕ) (qs : List Path) (q : Path) → In qs q → length q ≤ longest low qs
    longest_in low [] q at = absurd (in_none q at)
    longest_in low (p ∷ qs) q (zero, at) = let same : p ≡ q = same_Some p q at in let size = ap length same in grind (arith)
    longest_in low (p ∷ qs) q (suc k, at) = let later = longest_in low qs q (k, at) in grind (arith)

    longest_least : (low n : ℕ) (qs : List Path) → low ≤ n → ((q : Path) → In qs q → length q ≤ n) → longest low qs ≤ n
    longest_least low n [] least each = least
    longest_least low n (p ∷ qs) least each = let first = each p (0, refl) in let later = longest_least low n qs least (λ q at. each q (suc at.0, at.1)) in grind (arith)

    path_in : (q : Path) → In ([] ∷ rest.paths) q → length q ≤ longest 0 rest.paths
    path_in q (zero, at) = let same : [] ≡ q = same_Some [] q at in let size = ap length same in omega (arith, size)
    path_in q (suc k, at) = longest_in 0 rest.paths q (k, at)

    depth_is : (n : ℕ) → IsDeepest d n → counted_top.0.depth ≡ n
    depth_is n deepest =
        let high : longest 0 rest.paths ≤ n = longest_least 0 n rest.paths (omega arith) (λ q at. (let m = path_leads d checked q (suc at.0, at.1) in deepest.longest q m.0 m.1)) in
        let low = path_in deepest.path (way_at d checked deepest.path deepest.there deepest.leads).here in
        omega (arith, high, low, deepest.is, counted_top.1.deepest)

    -- The counts of the flat order

    abbrev its_groups : List DesignGroup
    its_groups = own_groups own_top.top [] ++ rest.groups

    front_none : (n : ℕ) → n * front [] ≡ 0
    front_none n = omega arith

    amount_is : (kind : LimitKind) → In (Cells ∷ Pins ∷ Nets ∷ AllNames ∷ []) kind → count_of kind (capped counted_top.0) ≡ carried (amount kind its_groups rest.cells)
    amount_is kind (zero, at) = subst (λ (k : LimitKind). count_of k (capped counted_top.0) ≡ carried (amount k its_groups rest.cells)) (same_Some Cells kind at) (ap carried (sym counted_top.1.cell_count))
    amount_is kind (suc zero, at) = subst (λ (k : LimitKind). count_of k (capped counted_top.0) ≡ carried (amount k its_groups rest.cells)) (same_Some Pins kind at) (ap carried (sym counted_top.1.pin_count))
    amount_is kind (suc (suc zero), at) = subst (λ (k : LimitKind). count_of k (capped counted_top.0) ≡ carried (amount k its_groups rest.cells)) (same_Some Nets kind at) (ap carried (sym counted_top.1.bit_count))
    amount_is kind (suc (suc (suc zero)), at) =
        subst (λ (k : LimitKind). count_of k (capped counted_top.0) ≡ carried (amount k its_groups rest.cells)) (same_Some AllNames kind at)
        (ap carried (let bytes = counted_top.1.byte_count in let none = front_none counted_top.0.names in let same : counted_top.0.bytes ≡ amount AllNames its_groups rest.cells = omega (arith, bytes, none) in same))
    amount_is kind (suc (suc (suc (suc k))), at) = absurd (cc at)

    first_order : FlatOrder d its_groups rest.cells
    first_order = record { top = own_top.top; is_top = own_top.is_top; all_groups = record { inner = rest.groups; below = rest.below; all = refl }; all_cells = rest.unfolds }

    pub table_counts : (kind : LimitKind) (n : ℕ) → Counts d kind n → count_of kind (count_at table number) ≡ carried n
    table_counts _ n (depth _ deepest) = ap (λ (c : Count). c.depth) table_top ∙ ap carried (depth_is n deepest)
    table_counts kind _ (unfolded _ groups cells at order) =
        let same = one_order d its_groups groups rest.cells cells first_order order in
        ap (count_of kind) table_top ∙ amount_is kind at
        ∙ ap (λ (gs : List DesignGroup). carried (amount kind gs rest.cells)) same.0 ∙ ap (λ (cs : List DesignCell). carried (amount kind groups cs)) same.1
