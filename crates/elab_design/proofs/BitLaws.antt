-- All bits of a checked design in flat order differ, so that their places are numbers of theirs.
use Rattle.std.proofs.Common.{◌≡◌, ℕ, zero, suc, ◌+◌, ◌<◌, Bool, true, false, cond, ◌||◌, ◌&&◌, ◌==◌, if◌then◌else◌, List, [], ◌∷◌, ◌++◌, map, take, length, slice_get, Option, Some, None, is_some, inl, inr, refl, ap, sym, ◌∙◌, subst, arith, true≢false, length-append}
use Rattle.std.specs.List.{flat_map, filter_map, cons_option}
use Rattle.std.specs.Option.{option_map}
use Rattle.std.specs.Str.{bytes_eq}
use Rattle.std.proofs.lemmas.Bool.Decides.{Decides-eqb}
use Rattle.std.proofs.lemmas.Grind.{flat_map-append}
use Rattle.std.proofs.lemmas.Option.{same_Some}
use Rattle.ila_base.specs.declared.place.Place.{Place}
use Rattle.net_core.specs.WellFormed.{AllDiffer}
use Rattle.vlog_parse.specs.declared.tree.Tree.{Tree}
use Rattle.vlog_parse.specs.declared.tree.Module.{Module}
use Rattle.vlog_parse.specs.declared.tree.Range.{Range}
use Rattle.vlog_parse.specs.declared.tree.Item.{Item}
use Rattle.vlog_parse.specs.declared.tree.Item.TheVariants as items
use Rattle.vlog_parse.specs.declared.tree.Inst.{Inst}
use Rattle.vlog_parse.specs.ReadTree.{In}
use Rattle.vlog_check.specs.declared.found.Found.{Found}
use Rattle.vlog_check.specs.FindingNames.{is_placed_again}
use Rattle.vlog_check.specs.Scope.{value_of, placed, declared, range_of, is_port}
use Rattle.vlog_check.specs.Checked.{Finds}
use Rattle.elab_design.specs.Design.{Path, Bit, bit_of, indices, Design, Leads, at_top, into}
use Rattle.elab_design.specs.DesignCells.{DesignCell}
use Rattle.elab_design.specs.Order.{DesignGroup, group_bits, net_names, net_group, own_groups, InnerGroups, over, plain, inside, FlatOrder}
use Rattle.elab_design.specs.Raw.{same_path, same_bit, place_among, IsPlaced}
use Rattle.elab_design.proofs.Lists.{in_none, in_append, map_in}
use Rattle.elab_design.proofs.MentionLaws.{names_same, same_names}
use Rattle.elab_design.proofs.SoundLaws.{leads_in, take_get, order_of}
use Rattle.elab_design.proofs.KnownLaws.{and_both}
use Rattle.elab_design.proofs.DifferLaws.{differ_none, differ_more, differ_tail, differ_head, differ_both, differ_map, indices_differ, mentions_differ}

-- Instance names

-- the instances among these have different names
pub InstsDiffer : List Item → Type 0
InstsDiffer its = (i j : ℕ) (a b : Inst) → slice_get its i ≡ Some (items.Inst a) → slice_get its j ≡ Some (items.Inst b) → a.name ≡ b.name → i ≡ j

placed_some : (its : List Item) (k : ℕ) (i : Inst) (name : List ℕ) → slice_get its k ≡ Some (items.Inst i) → i.name ≡ name → is_some (value_of (placed its) name) ≡ true
placed_some [] k i name at is = absurd (cc at)
placed_some (items.Net decl ∷ its) zero i name at is = absurd (cc at)
placed_some (items.Net decl ∷ its) (suc k) i name at is = placed_some its k i name at is
placed_some (items.Assign to from ∷ its) zero i name at is = absurd (cc at)
placed_some (items.Assign to from ∷ its) (suc k) i name at is = placed_some its k i name at is
placed_some (items.Gate g ∷ its) zero i name at is = absurd (cc at)
placed_some (items.Gate g ∷ its) (suc k) i name at is = by g.name (placed_some its k i name at is)
  where
    passed : (b : Bool) (place : Place) → is_some (value_of (placed its) name) ≡ true → is_some (cond b (Some place) (value_of (placed its) name)) ≡ true
    passed true place rest = refl
    passed false place rest = rest

    by : (o : Option (List ℕ)) → is_some (value_of (placed its) name) ≡ true → is_some (value_of (cons_option (option_map (λ n. (n, g.place)) o) (placed its)) name) ≡ true
    by None rest = rest
    by (Some own) rest = passed (bytes_eq name own) g.place rest
placed_some (items.Inst own ∷ its) zero i name at is =
    let same : own ≡ i = inst_same (same_Some (items.Inst own) (items.Inst i) at) in
    ap (λ b. is_some (cond b (Some own.place) (value_of (placed its) name))) (same_names name own.name (sym (ap (λ (x : Inst). x.name) same ∙ is)))
  where
    inst_same : {a b : Inst} → items.Inst a ≡ items.Inst b → a ≡ b
    inst_same e = cc e
placed_some (items.Inst own ∷ its) (suc k) i name at is = passed (bytes_eq name own.name) (placed_some its k i name at is)
  where
    passed : (b : Bool) → is_some (value_of (placed its) name) ≡ true → is_some (cond b (Some own.place) (value_of (placed its) name)) ≡ true
    passed true rest = refl
    passed false rest = rest

module _ (tree : Tree) (clean : (f : Found) → Finds tree f → ⊥) where
  or_last : (a b : Bool) → b ≡ true → (a || b) ≡ true
  or_last true b is = refl
  or_last false b is = is

  twice : (m : Module) (i j : ℕ) (a b : Inst) → In tree.modules m → i < j → slice_get m.items i ≡ Some (items.Inst a) → slice_get m.items j ≡ Some (items.Inst b) → a.name ≡ b.name → ⊥
  twice m i j a b (k, has) low at there same = clean _ (k, m, has, inr (inr (j, items.Inst b, there, inl (again, refl))))
    where
      again : is_placed_again m (take j m.items) b.name ≡ true
      again =
          or_last (is_port m b.name || is_some (value_of (declared (take j m.items)) b.name)) (is_some (value_of (placed (take j m.items)) b.name))
          (placed_some (take j m.items) i a b.name (take_get m.items i j (items.Inst a) low at) same)

  insts_differ : (m : Module) → In tree.modules m → InstsDiffer m.items
  unfolding InstsDiffer
  insts_differ m has i j a b at there same = elim (order_of i j) [
    | inl low ↦ absurd (twice m i j a b has low at there same)
    | inr rest ↦ elim rest [ inl high ↦ absurd (twice m j i b a has high there at (sym same)) | inr equal ↦ equal ]
  ]

  -- an instance of a module is told by its name
  pub insts_one : (m : Module) → In tree.modules m → (a b : Inst) → In m.items (items.Inst a) → In m.items (items.Inst b) → a.name ≡ b.name → a ≡ b
  unfolding InstsDiffer
  insts_one m has a b (i, at) (j, there) same =
      let places : i ≡ j = insts_differ m has i j a b at there same in
      let both : items.Inst a ≡ items.Inst b = same_Some (items.Inst a) (items.Inst b) (sym at ∙ (ap (slice_get m.items) places ∙ there)) in
      cc both

insts_tail : (item : Item) (its : List Item) → InstsDiffer (item ∷ its) → InstsDiffer its
unfolding InstsDiffer
insts_tail item its differ i j a b at there same = let e : suc i ≡ suc j = differ (suc i) (suc j) a b at there same in omega (arith, e)

insts_head : (inst : Inst) (its : List Item) (other : Inst) → InstsDiffer (items.Inst inst ∷ its) → In its (items.Inst other) → inst.name ≡ other.name → ⊥
unfolding InstsDiffer
insts_head inst its other differ (k, at) same = let e : 0 ≡ suc k = differ 0 (suc k) inst other refl at same in omega (arith, e)

-- A module's own bits

bits_differ : (path : Path) (name : List ℕ) (range : Option Range) → AllDiffer (map (bit_of path name) (indices range))
bits_differ path name range = differ_map (bit_of path name) (indices range) (λ a b e. ap (λ (x : Bit). x.index) e) (by range)
  where
    by : (o : Option Range) → AllDiffer (indices o)
    by None = differ_more 0 [] (in_none 0) differ_none
    by (Some r) = indices_differ r.left r.right

-- each bit of a module's own nets has this path, and one of these names
own_bit : (m : Module) (path : Path) (names : List (List ℕ)) (b : Bit) → In (flat_map group_bits (filter_map (net_group m path) names)) b → (b.path ≡ path) × In names b.name
own_bit m path [] b at = absurd (in_none b at)
own_bit m path (x ∷ names) b at = by (range_of m x) (own_bit m path names b) at
  where
    Own : Type 0
    Own = (b.path ≡ path) × In (x ∷ names) b.name

    later : (b.path ≡ path) × In names b.name → (b.path ≡ path) × In (x ∷ names) b.name
    later own = (own.0, (suc own.1.0, own.1.1))

    by : (o : Option (Option Range)) → (In (flat_map group_bits (filter_map (net_group m path) names)) b → (b.path ≡ path) × In names b.name)
        → In (flat_map group_bits (cons_option (option_map (λ range. record { path = path; name = x; range = range }) o) (filter_map (net_group m path) names))) b → (b.path ≡ path) × In (x ∷ names) b.name
    by None rest at = later (rest at)
    by (Some range) rest at = elim (in_append (map (bit_of path x) (indices range)) (flat_map group_bits (filter_map (net_group m path) names)) b at) [
      | inl here ↦ (let i = map_in (bit_of path x) (indices range) b here in (sym (ap (λ (z : Bit). z.path) i.2), (0, ap (λ (z : Bit). Some z.name) i.2)))
      | inr other ↦ later (rest other)
    ]

own_differ : (m : Module) (path : Path) (names : List (List ℕ)) → AllDiffer names → AllDiffer (flat_map group_bits (filter_map (net_group m path) names))
own_differ m path [] differ = differ_none
own_differ m path (x ∷ names) differ = by (range_of m x) (own_differ m path names (differ_tail x names differ))
  where
    apart : (range : Option Range) (b : Bit) → In (map (bit_of path x) (indices range)) b → In (flat_map group_bits (filter_map (net_group m path) names)) b → ⊥
    apart range b here there =
        let i = map_in (bit_of path x) (indices range) b here in
        let own = own_bit m path names b there in
        differ_head x names differ (subst (In names) (sym (ap (λ (z : Bit). z.name) i.2)) own.1)

    by : (o : Option (Option Range)) → AllDiffer (flat_map group_bits (filter_map (net_group m path) names))
        → AllDiffer (flat_map group_bits (cons_option (option_map (λ range. record { path = path; name = x; range = range }) o) (filter_map (net_group m path) names)))
    by None rest = rest
    by (Some range) rest = differ_both (map (bit_of path x) (indices range)) (flat_map group_bits (filter_map (net_group m path) names)) (bits_differ path x range) rest (apart range)

-- Bits of instances

-- the bit is at or below an instance of these items
pub record IsBelowOne (its : List Item) (path : Path) (b : Bit) : Type 0 where
  pub inst : Inst
  pub has : In its (items.Inst inst)
  pub way : Path
  pub is : b.path ≡ way ++ inst.name ∷ path

below_more : (item : Item) (its : List Item) (path : Path) (b : Bit) → IsBelowOne its path b → IsBelowOne (item ∷ its) path b
below_more item its path b own = record { inst = own.inst; has = (suc own.has.0, own.has.1); way = own.way; is = own.is }

-- two ways to a place that are behind one path begin with the same name
same_first : (p q : Path) (x y : List ℕ) (path : Path) → p ++ x ∷ path ≡ q ++ y ∷ path → x ≡ y
same_first [] [] x y path e = cc e
same_first [] (z ∷ q) x y path e = let size : length (x ∷ path) ≡ length (z ∷ q) + length (y ∷ path) = ap length e ∙ length-append (z ∷ q) (y ∷ path) in absurd (omega (arith, size))
same_first (z ∷ p) [] x y path e = let size : length (z ∷ p) + length (x ∷ path) ≡ length (y ∷ path) = sym (length-append (z ∷ p) (x ∷ path)) ∙ ap length e in absurd (omega (arith, size))
same_first (z ∷ p) (w ∷ q) x y path e = same_first p q x y path (tails e)
  where
    tails : (z ∷ (p ++ x ∷ path)) ≡ (w ∷ (q ++ y ∷ path)) → p ++ x ∷ path ≡ q ++ y ∷ path
    tails e = cc e

longer : (p path : Path) (x : List ℕ) → path ≡ p ++ x ∷ path → ⊥
longer p path x e = let size : length path ≡ length p + length (x ∷ path) = ap length e ∙ length-append p (x ∷ path) in omega (arith, size)

join_way : (p q : Path) (x y : List ℕ) (path : Path) → p ++ x ∷ y ∷ path ≡ (p ++ x ∷ []) ++ y ∷ path
join_way [] q x y path = refl
join_way (z ∷ p) q x y path = ap (λ rest. z ∷ rest) (join_way p q x y path)

module _ (d : Design) (clean : (f : Found) → Finds d.tree f → ⊥) where
  pub record Apart (its : List Item) (path : Path) (groups : List DesignGroup) : Type 0 where
    pub differ : AllDiffer (flat_map group_bits groups)
    pub below : (b : Bit) → In (flat_map group_bits groups) b → IsBelowOne its path b

  abbrev own_bits : Module → Path → List Bit
  own_bits n path = flat_map group_bits (own_groups n path)

  inner_apart : (path : Path) (its : List Item) (groups : List DesignGroup) → InnerGroups d path its groups → (m : Module) → Leads d path m → ((x : Item) → In its x → In m.items x) → InstsDiffer its → Apart its path groups
  inner_apart path _ _ (over _) m leads each differ = record { differ = differ_none; below = λ b at. absurd (in_none b at) }
  inner_apart path _ _ (plain _ item more groups no_module rest) m leads each differ =
      let own = inner_apart path more groups rest m leads (λ x at. each x (suc at.0, at.1)) (insts_tail item more differ) in
      record { differ = own.differ; below = λ b at. below_more item more path b (own.below b at) }
  inner_apart path _ _ (inside _ n inst more inner groups is deep rest) m leads each differ =
      joined (inner_apart (inst.name ∷ path) n.items inner deep n deeper (λ x at. at) (insts_differ d.tree clean n (leads_in d (inst.name ∷ path) n deeper)))
      (inner_apart path more groups rest m leads (λ x at. each x (suc at.0, at.1)) (insts_tail (items.Inst inst) more differ))
    where
      deeper : Leads d (inst.name ∷ path) n
      deeper = into path m n inst leads (each (items.Inst inst) (0, refl)) is

      at_inst : (b : Bit) → In (own_bits n (inst.name ∷ path)) b → b.path ≡ inst.name ∷ path
      at_inst b at = (own_bit n (inst.name ∷ path) (net_names n) b at).0

      own_apart : Apart n.items (inst.name ∷ path) inner → AllDiffer (own_bits n (inst.name ∷ path) ++ flat_map group_bits inner)
      own_apart inners =
          differ_both (own_bits n (inst.name ∷ path)) (flat_map group_bits inner) (own_differ n (inst.name ∷ path) (net_names n) (mentions_differ _ [])) inners.differ
          (λ b here there. (let own = inners.below b there in longer own.way (inst.name ∷ path) own.inst.name (sym (at_inst b here) ∙ own.is)))

      first_below : Apart n.items (inst.name ∷ path) inner → (b : Bit) → In (own_bits n (inst.name ∷ path) ++ flat_map group_bits inner) b → (way : Path) × (b.path ≡ way ++ inst.name ∷ path)
      first_below inners b at = elim (in_append (own_bits n (inst.name ∷ path)) (flat_map group_bits inner) b at) [
        | inl here ↦ ([], at_inst b here)
        | inr below ↦ (let own = inners.below b below in (own.way ++ own.inst.name ∷ [], own.is ∙ join_way own.way [] own.inst.name inst.name path))
      ]

      all_bits : flat_map group_bits ((own_groups n (inst.name ∷ path) ++ inner) ++ groups) ≡ (own_bits n (inst.name ∷ path) ++ flat_map group_bits inner) ++ flat_map group_bits groups
      all_bits =
          flat_map-append group_bits (own_groups n (inst.name ∷ path) ++ inner) groups
          ∙ ap (λ bits. bits ++ flat_map group_bits groups) (flat_map-append group_bits (own_groups n (inst.name ∷ path)) inner)

      joined : Apart n.items (inst.name ∷ path) inner → Apart more path groups → Apart (items.Inst inst ∷ more) path ((own_groups n (inst.name ∷ path) ++ inner) ++ groups)
      joined inners others = record {
        differ = subst (λ (bits : List Bit). AllDiffer bits) (sym all_bits)
            (differ_both (own_bits n (inst.name ∷ path) ++ flat_map group_bits inner) (flat_map group_bits groups) (own_apart inners) others.differ
            (λ b here there. (let one = first_below inners b here in let other = others.below b there in
            insts_head inst more other.inst differ other.has (same_first one.0 other.way inst.name other.inst.name path (sym one.1 ∙ other.is)))));
        below = λ b at. elim (in_append (own_bits n (inst.name ∷ path) ++ flat_map group_bits inner) (flat_map group_bits groups) b (subst (λ (bits : List Bit). In bits b) all_bits at)) [
          | inl here ↦ (let one = first_below inners b here in record { inst = inst; has = (0, refl); way = one.0; is = one.1 })
          | inr later ↦ below_more (items.Inst inst) more path b (others.below b later)
        ];
      }

  pub order_differs : (groups : List DesignGroup) (cells : List DesignCell) → FlatOrder d groups cells → AllDiffer (flat_map group_bits groups)
  order_differs groups cells order =
      let leads = at_top order.top order.is_top in
      let inners = inner_apart [] order.top.items order.all_groups.inner order.all_groups.below order.top leads (λ x at. at) (insts_differ d.tree clean order.top (leads_in d [] order.top leads)) in
      subst (λ (gs : List DesignGroup). AllDiffer (flat_map group_bits gs)) (sym order.all_groups.all)
      (subst (λ (bits : List Bit). AllDiffer bits) (sym (flat_map-append group_bits (own_groups order.top []) order.all_groups.inner))
      (differ_both (own_bits order.top []) (flat_map group_bits order.all_groups.inner) (own_differ order.top [] (net_names order.top) (mentions_differ _ [])) inners.differ
      (λ b here there. (let own = inners.below b there in longer own.way [] own.inst.name (sym (own_bit order.top [] (net_names order.top) b here).0 ∙ own.is)))))

-- Places

path_same : (p q : Path) → same_path p q ≡ true → p ≡ q
path_same [] [] is = refl
path_same [] (y ∷ q) is = absurd (true≢false (sym is))
path_same (x ∷ p) [] is = absurd (true≢false (sym is))
path_same (x ∷ p) (y ∷ q) is = let both = and_both (bytes_eq x y) (same_path p q) is in λ i. names_same x y both.0 i ∷ path_same p q both.1 i

same_paths : (p : Path) → same_path p p ≡ true
same_paths [] = refl
same_paths (x ∷ p) = ap (λ b. b && same_path p p) (same_names x x refl) ∙ same_paths p

bit_same : (a b : Bit) → same_bit a b ≡ true → a ≡ b
bit_same a b is =
    let one = and_both (same_path a.path b.path && bytes_eq a.name b.name) (a.index == b.index) is in
    let two = and_both (same_path a.path b.path) (bytes_eq a.name b.name) one.0 in
    λ i. bit_of (path_same a.path b.path two.0 i) (names_same a.name b.name two.1 i) ((Decides-eqb a.index b.index).0 one.1 i)

same_bits : (b : Bit) → same_bit b b ≡ true
same_bits b =
    ap (λ t. t && bytes_eq b.name b.name && (b.index == b.index)) (same_paths b.path) ∙ ap (λ t. t && (b.index == b.index)) (same_names b.name b.name refl)
    ∙ (Decides-eqb b.index b.index).1 refl

-- where bits differ, the place of each is its number
pub placed_by : (bits : List Bit) → AllDiffer bits → IsPlaced (place_among bits) bits
placed_by [] differ n b at = absurd (cc at)
placed_by (a ∷ bits) differ zero b at = ap (λ t. if t then 0 else suc (place_among bits b)) (subst (λ x. same_bit x b ≡ true) (sym (same_Some a b at)) (same_bits b))
placed_by (a ∷ bits) differ (suc n) b at = by (same_bit a b) refl (placed_by bits (differ_tail a bits differ) n b at)
  where
    by : (t : Bool) → same_bit a b ≡ t → place_among bits b ≡ n → (if t then 0 else suc (place_among bits b)) ≡ suc n
    by true same rest = absurd (differ_head a bits differ (n, at ∙ ap (λ x. Some x) (sym (bit_same a b same))))
    by false other rest = ap suc rest
