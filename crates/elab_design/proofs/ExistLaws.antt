-- Every checked design has a flat order and a longest path.
use Rattle.std.proofs.Common.{◌≡◌, ℕ, zero, suc, ◌+◌, ◌<◌, ◌≤◌, Bool, true, false, cond, ◌||◌, ◌==◌, List, [], ◌∷◌, ◌++◌, length, slice_get, Option, Some, None, ◌⊎◌, inl, inr, refl, ap, sym, ◌∙◌, subst, arith, true≢false}
use Rattle.std.specs.List.{list_any, IsDistinct, AllByRecursion}
use Rattle.std.proofs.lemmas.Bool.{false_from_ne_true}
use Rattle.std.specs.Option.{option_and_then}
use Rattle.std.specs.Str.{bytes_eq}
use Rattle.std.proofs.lemmas.List.{length-map}
use Rattle.std.proofs.lemmas.Map.Steps.{length-le_from_distinct_below}
use Rattle.std.proofs.lemmas.Option.{same_Some, slice_get_within}
use Rattle.std.proofs.lemmas.Bool.Decides.{Decides-eqb}
use Rattle.net_core.specs.WellFormed.{AllDiffer}
use Rattle.vlog_parse.specs.declared.tree.Tree.{Tree}
use Rattle.vlog_parse.specs.declared.tree.Module.{Module}
use Rattle.vlog_parse.specs.declared.tree.Item.{Item}
use Rattle.vlog_parse.specs.declared.tree.Item.TheVariants as items
use Rattle.vlog_parse.specs.declared.tree.Inst.{Inst}
use Rattle.vlog_parse.specs.ReadTree.{In}
use Rattle.vlog_check.specs.Scope.{Kind, OfCell, OfModule, kind_of, cell_of, module_of, module_number, module_names, value_of, numbered_from}
use Rattle.vlog_check.specs.Checked.{Contains, IsBelow, child, deeper, IsRecursive, IsChecked}
use Rattle.elab_design.specs.Design.{Path, Design, IsTop, Leads, at_top, into}
use Rattle.elab_design.specs.DesignCells.{DesignCell}
use Rattle.elab_design.specs.Order.{DesignGroup, own_groups, own_cells, instance_links, module_in, inner_module, InnerGroups, Unfolds, FlatOrder, over, own, plain, inside}
use Rattle.elab_design.specs.Limits.{IsDeepest}
use Rattle.elab_design.proofs.Lists.{in_none, in_append, in_left, in_right}
use Rattle.elab_design.proofs.SoundLaws.{and_then_some, module_first}
use Rattle.elab_design.proofs.DifferLaws.{differ_none, differ_more, differ_tail, differ_head}
use Rattle.elab_design.proofs.UnfoldedLaws.{there_is}

-- the paths to the instances of modules among these items, and to those below them
pub data InnerPaths (d : Design) : Path → List Item → List Path → Type 0 where
  no_item : (path : Path) → InnerPaths d path [] []
  other_item : (path : Path) (item : Item) (more : List Item) (paths : List Path) → inner_module d item ≡ None → InnerPaths d path more paths → InnerPaths d path (item ∷ more) paths
  instance : (path : Path) (n : Module) (inst : Inst) (more : List Item) (inner paths : List Path) → kind_of d.tree inst ≡ Some (OfModule n) → InnerPaths d (inst.name ∷ path) n.items inner → InnerPaths d path more paths
      → InnerPaths d path (items.Inst inst ∷ more) ((inst.name ∷ path) ∷ (inner ++ paths))

-- what these items of a module at a path are unfolded to
pub record HasWhole (d : Design) (m : Module) (path : Path) (its : List Item) : Type 0 where
  pub cells : List DesignCell
  pub unfolds : Unfolds d m path its cells
  pub groups : List DesignGroup
  pub below : InnerGroups d path its groups
  pub paths : List Path
  pub ways : InnerPaths d path its paths

-- Numbers of modules

number_low : (a : ℕ) (names : List (List ℕ)) (name : List ℕ) (k : ℕ) → value_of (numbered_from a names) name ≡ Some k → (a ≤ k) × (k < a + length names)
number_low a [] name k is = absurd (cc is)
number_low a (x ∷ names) name k is = by (bytes_eq name x) (number_low (a + 1) names name k) is
  where
    by : (b : Bool) → (value_of (numbered_from (a + 1) names) name ≡ Some k → (a + 1 ≤ k) × (k < a + 1 + length names)) → cond b (Some a) (value_of (numbered_from (a + 1) names) name) ≡ Some k
        → (a ≤ k) × (k < a + length (x ∷ names))
    by true rest is = let e : a ≡ k = same_Some a k is in (omega (arith, e), omega (arith, e))
    by false rest is = let low = rest is in (omega (arith, low.0), omega (arith, low.1))

pub module_there : (tree : Tree) (name : List ℕ) (k : ℕ) → module_number tree name ≡ Some k → (m : Module) × (slice_get tree.modules k ≡ Some m)
module_there tree name k is =
    let low = number_low 0 (module_names tree.modules) name k is in
    there_is tree.modules k (omega (arith, low.1, length-map tree.modules (λ (m : Module). m.name)))

pub below_more : (tree : Tree) (a b c : ℕ) → IsBelow tree a b → Contains tree b c → IsBelow tree a c
below_more tree a b c (child _ _ holds) more = deeper a b c holds (child b c more)
below_more tree a b c (deeper _ e _ holds rest) more = deeper a e c holds (below_more tree e b c rest more)

-- different numbers below a bound are no more than it
others_differ : (x : ℕ) (xs : List ℕ) → (In xs x → ⊥) → AllByRecursion (λ y. (x == y) ≡ false) xs
others_differ x [] fresh = tt
others_differ x (y ∷ xs) fresh =
    (false_from_ne_true (x == y) (λ t. fresh (0, ap (λ z. Some z) (sym ((Decides-eqb x y).0 t)))), others_differ x xs (λ at. fresh (suc at.0, at.1)))

differ_distinct : (xs : List ℕ) → AllDiffer xs → IsDistinct (λ (a b : ℕ). a == b) xs
unfolding IsDistinct
differ_distinct [] differ = tt
differ_distinct (x ∷ xs) differ = (others_differ x xs (differ_head x xs differ), differ_distinct xs (differ_tail x xs differ))

in_numbers : (xs : List ℕ) (q : ℕ) → list_any (λ (x : ℕ). q == x) xs ≡ true → In xs q
in_numbers [] q is = absurd (true≢false (sym is))
in_numbers (x ∷ xs) q is = by (q == x) refl (in_numbers xs q) is
  where
    by : (b : Bool) → (q == x) ≡ b → (list_any (λ (x : ℕ). q == x) xs ≡ true → In xs q) → (b || list_any (λ (x : ℕ). q == x) xs) ≡ true → In (x ∷ xs) q
    by true same rest is = (0, ap (λ y. Some y) (sym ((Decides-eqb q x).0 same)))
    by false other rest is = let at = rest is in (suc at.0, at.1)

no_more : (xs : List ℕ) (n : ℕ) → AllDiffer xs → ((q : ℕ) → In xs q → q < n) → length xs ≤ n
no_more xs n differ low = length-le_from_distinct_below xs n (differ_distinct xs differ) (λ q t. low q (in_numbers xs q t))

-- Unfolding

module _ (d : Design) where
  plain_whole : (m : Module) (path : Path) (item : Item) (its : List Item) → inner_module d item ≡ None → HasWhole d m path its → HasWhole d m path (item ∷ its)
  plain_whole m path item its none rest = record {
    cells = own_cells d m path item ++ rest.cells;
    unfolds = own m path item its rest.cells none rest.unfolds;
    groups = rest.groups;
    below = plain path item its rest.groups none rest.below;
    paths = rest.paths;
    ways = other_item path item its rest.paths none rest.ways;
  }

  inst_whole : (m : Module) (path : Path) (inst : Inst) (its : List Item) (o : Option Kind) → kind_of d.tree inst ≡ o → ((n : Module) → kind_of d.tree inst ≡ Some (OfModule n) → HasWhole d n (inst.name ∷ path) n.items)
      → HasWhole d m path its → HasWhole d m path (items.Inst inst ∷ its)
  inst_whole m path inst its None is inner rest = plain_whole m path (items.Inst inst) its (ap module_in is) rest
  inst_whole m path inst its (Some (OfCell cell)) is inner rest = plain_whole m path (items.Inst inst) its (ap module_in is) rest
  inst_whole m path inst its (Some (OfModule n)) is inner rest =
      let deep = inner n is in
      record {
        cells = instance_links m path inst n ++ (deep.cells ++ rest.cells);
        unfolds = inside m n path inst its deep.cells rest.cells is deep.unfolds rest.unfolds;
        groups = (own_groups n (inst.name ∷ path) ++ deep.groups) ++ rest.groups;
        below = inside path n inst its deep.groups rest.groups is deep.below rest.below;
        paths = (inst.name ∷ path) ∷ (deep.paths ++ rest.paths);
        ways = instance path n inst its deep.paths rest.paths is deep.ways rest.ways;
      }

  -- the items of a module at a path, where the modules of its instances are unfolded
  items_whole : (m : Module) (path : Path) → ((n : Module) (inst : Inst) → In m.items (items.Inst inst) → kind_of d.tree inst ≡ Some (OfModule n) → HasWhole d n (inst.name ∷ path) n.items)
      → (its : List Item) → ((x : Item) → In its x → In m.items x) → HasWhole d m path its
  items_whole m path inner [] each = record { cells = []; unfolds = over m path; groups = []; below = over path; paths = []; ways = no_item path }
  items_whole m path inner (items.Net decl ∷ its) each = plain_whole m path (items.Net decl) its refl (items_whole m path inner its (λ x at. each x (suc at.0, at.1)))
  items_whole m path inner (items.Assign to from ∷ its) each = plain_whole m path (items.Assign to from) its refl (items_whole m path inner its (λ x at. each x (suc at.0, at.1)))
  items_whole m path inner (items.Gate g ∷ its) each = plain_whole m path (items.Gate g) its refl (items_whole m path inner its (λ x at. each x (suc at.0, at.1)))
  items_whole m path inner (items.Inst inst ∷ its) each = inst_whole m path inst its (kind_of d.tree inst) refl (λ n is. inner n inst (each (items.Inst inst) (0, refl)) is) (items_whole m path inner its (λ x at. each x (suc at.0, at.1)))

  module _ (number : ℕ) (ends : (n : ℕ) → IsRecursive d.tree number n → ⊥) where
    -- a module on the way from the top: it stands below those on the way, which all differ
    pub record OnWay (c : ℕ) (m : Module) (way : List ℕ) : Type 0 where
      pub at : slice_get d.tree.modules c ≡ Some m
      pub differ : AllDiffer (c ∷ way)
      pub low : (v : ℕ) → In (c ∷ way) v → v < length d.tree.modules
      pub below : (v : ℕ) → In way v → IsBelow d.tree v c
      pub part : (c ≡ number) ⊎ IsBelow d.tree number c

    part_below : (c e : ℕ) → (c ≡ number) ⊎ IsBelow d.tree number c → Contains d.tree c e → IsBelow d.tree number e
    part_below c e (inl same) holds = subst (λ (n : ℕ). IsBelow d.tree n e) same (child c e holds)
    part_below c e (inr below) holds = below_more d.tree number c e below holds

    step : (c e : ℕ) (m n : Module) (way : List ℕ) → OnWay c m way → Contains d.tree c e → slice_get d.tree.modules e ≡ Some n → OnWay e n (c ∷ way)
    step c e m n way on holds at = record {
      at = at;
      differ = differ_more e (c ∷ way) fresh on.differ;
      low = low;
      below = below;
      part = inr (part_below c e on.part holds);
    }
      where
        below : (v : ℕ) → In (c ∷ way) v → IsBelow d.tree v e
        below v (zero, there) = subst (λ (n : ℕ). IsBelow d.tree n e) (same_Some c v there) (child c e holds)
        below v (suc k, there) = below_more d.tree v c e (on.below v (k, there)) holds

        fresh : In (c ∷ way) e → ⊥
        fresh there = ends e (inr (part_below c e on.part holds), below e there)

        low : (v : ℕ) → In (e ∷ c ∷ way) v → v < length d.tree.modules
        low v (zero, there) = (let same : e ≡ v = same_Some e v there in omega (arith, same, slice_get_within d.tree.modules e n at))
        low v (suc k, there) = on.low v (k, there)

    its_number : (m n : Module) (c : ℕ) (inst : Inst) → slice_get d.tree.modules c ≡ Some m → In m.items (items.Inst inst) → kind_of d.tree inst ≡ Some (OfModule n)
        → (e : ℕ) × Contains d.tree c e × (slice_get d.tree.modules e ≡ Some n)
    its_number m n c inst at has is =
        let first = module_first (cell_of inst.module) (module_of d.tree inst.module) n is in
        let e = and_then_some (slice_get d.tree.modules) (module_number d.tree inst.module) n first.1 in
        (e.0, record { holder = m; at = at; inst = inst; has = has; no_cell = first.0; is = e.1 }, e.2)

    whole : (fuel c : ℕ) (m : Module) (way : List ℕ) → OnWay c m way → length d.tree.modules < length (c ∷ way) + fuel → (path : Path) → HasWhole d m path m.items
    whole zero c m way on few path = absurd (omega (arith, few, no_more (c ∷ way) (length d.tree.modules) on.differ on.low))
    whole (suc fuel) c m way on few path =
        items_whole m path
        (λ n inst has is. (
        let e = its_number m n c inst on.at has is in
        whole fuel e.0 n (c ∷ way) (step c e.0 m n way on e.1 e.2) (omega (arith, few)) (inst.name ∷ path)))
        m.items (λ x at. at)

    start : (m : Module) → slice_get d.tree.modules number ≡ Some m → OnWay number m []
    start m at = record {
      at = at;
      differ = differ_more number [] (in_none number) differ_none;
      low = only;
      below = λ v there. absurd (in_none v there);
      part = inl refl;
    }
      where
        only : (v : ℕ) → In (number ∷ []) v → v < length d.tree.modules
        only v (zero, there) = (let same : number ≡ v = same_Some number v there in omega (arith, same, slice_get_within d.tree.modules number m at))
        only v (suc k, there) = absurd (cc there)

    top_whole : (m : Module) → slice_get d.tree.modules number ≡ Some m → HasWhole d m [] m.items
    top_whole m at = whole (length d.tree.modules) number m [] (start m at) (omega arith) []

  -- the top with all below it
  pub record HasTop : Type 0 where
    pub top : Module
    pub is_top : IsTop d top
    pub whole_top : HasWhole d top [] top.items

  pub has_top : IsChecked d.tree d.top → HasTop
  has_top checked =
      let m = module_there d.tree d.top checked.number checked.there in
      record {
        top = m.0;
        is_top = ap (option_and_then (slice_get d.tree.modules)) checked.there ∙ m.1;
        whole_top = top_whole checked.number checked.ends m.0 m.1;
      }

  pub has_order : IsChecked d.tree d.top → (groups : List DesignGroup) × (cells : List DesignCell) × FlatOrder d groups cells
  has_order checked =
      let own = has_top checked in (
        own_groups own.top [] ++ own.whole_top.groups,
        own.whole_top.cells,
        record { top = own.top; is_top = own.is_top; all_groups = record { inner = own.whole_top.groups; below = own.whole_top.below; all = refl }; all_cells = own.whole_top.unfolds },
      )

  -- Paths

  ways_lead : (path : Path) (its : List Item) (paths : List Path) → InnerPaths d path its paths → (m : Module) → Leads d path m → ((x : Item) → In its x → In m.items x) → (q : Path) → In paths q → (x : Module) × Leads d q x
  ways_lead path _ _ (no_item _) m leads each q at = absurd (in_none q at)
  ways_lead path _ _ (other_item _ item more paths lacks rest) m leads each q at = ways_lead path more paths rest m leads (λ x there. each x (suc there.0, there.1)) q at
  ways_lead path _ _ (instance _ n inst more inner paths is deep rest) m leads each q (zero, at) =
      (n, subst (λ (p : Path). Leads d p n) (same_Some (inst.name ∷ path) q at) (into path m n inst leads (each (items.Inst inst) (0, refl)) is))
  ways_lead path _ _ (instance _ n inst more inner paths is deep rest) m leads each q (suc k, at) = elim (in_append inner paths q (k, at)) [
    | inl here ↦ ways_lead (inst.name ∷ path) n.items inner deep n (into path m n inst leads (each (items.Inst inst) (0, refl)) is) (λ x there. there) q here
    | inr later ↦ ways_lead path more paths rest m leads (λ x there. each x (suc there.0, there.1)) q later
  ]

  -- an instance of a module has its path and those below it among these
  pub record HasWay (n : Module) (path : Path) (paths : List Path) : Type 0 where
    pub inner : List Path
    pub ways_in : InnerPaths d path n.items inner
    pub here : In paths path
    pub inner_in : (q : Path) → In inner q → In paths q

  way_behind : (n : Module) (path : Path) (first paths : List Path) → HasWay n path paths → HasWay n path (first ++ paths)
  way_behind n path first paths own_way = record {
    inner = own_way.inner;
    ways_in = own_way.ways_in;
    here = in_right first paths path own_way.here;
    inner_in = λ q at. in_right first paths q (own_way.inner_in q at);
  }

  inst_way : (n : Module) (path : Path) (inst : Inst) (its : List Item) (paths : List Path) → InnerPaths d path its paths → In its (items.Inst inst) → kind_of d.tree inst ≡ Some (OfModule n) → HasWay n (inst.name ∷ path) paths
  inst_way n path inst _ _ (no_item _) at is = absurd (in_none (items.Inst inst) at)
  inst_way n path inst _ _ (other_item _ first more paths lacks rest) (zero, at) is =
      let some : module_in (Some (OfModule n)) ≡ None = sym (ap module_in is) ∙ ap (inner_module d) (sym (same_Some first (items.Inst inst) at)) ∙ lacks in
      absurd (cc some)
  inst_way n path inst _ _ (other_item _ first more paths lacks rest) (suc k, at) is = inst_way n path inst more paths rest (k, at) is
  inst_way n path inst _ _ (instance _ o other more inner paths its deep rest) (zero, at) is =
      subst (λ (i : Inst). HasWay n (i.name ∷ path) ((other.name ∷ path) ∷ (inner ++ paths))) same
      (subst (λ (x : Module). HasWay x (other.name ∷ path) ((other.name ∷ path) ∷ (inner ++ paths))) (kinds_same (sym its ∙ ap (kind_of d.tree) same ∙ is)) first_way)
    where
      insts_same : (a b : Inst) → items.Inst a ≡ items.Inst b → a ≡ b
      insts_same a b e = cc e

      kinds_same : Some (OfModule o) ≡ Some (OfModule n) → o ≡ n
      kinds_same e = cc e

      same : other ≡ inst
      same = insts_same other inst (same_Some (items.Inst other) (items.Inst inst) at)

      first_way : HasWay o (other.name ∷ path) ((other.name ∷ path) ∷ (inner ++ paths))
      first_way = record {
        inner = inner;
        ways_in = deep;
        here = (0, refl);
        inner_in = λ q there. (let k = in_left inner paths q there in (suc k.0, k.1));
      }
  inst_way n path inst _ _ (instance _ o other more inner paths its deep rest) (suc k, at) is =
      way_behind n (inst.name ∷ path) ((other.name ∷ path) ∷ inner) paths (inst_way n path inst more paths rest (k, at) is)

  module _ (checked : IsChecked d.tree d.top) where
    abbrev pub its_top : HasTop
    its_top = has_top checked

    abbrev pub all_paths : List Path
    all_paths = [] ∷ its_top.whole_top.paths

    pub way_at : (path : Path) (m : Module) → Leads d path m → HasWay m path all_paths
    way_at _ m (at_top _ is) = subst (λ (x : Module). HasWay x [] all_paths) (same_Some its_top.top m (sym its_top.is_top ∙ is)) (record {
      inner = its_top.whole_top.paths;
      ways_in = its_top.whole_top.ways;
      here = (0, refl);
      inner_in = λ q at. (suc at.0, at.1);
    })
    way_at _ n (into path m _ inst leads has is) =
        let above = way_at path m leads in
        let own_way = inst_way n path inst m.items above.inner above.ways_in has is in
        record { inner = own_way.inner; ways_in = own_way.ways_in; here = above.inner_in (inst.name ∷ path) own_way.here; inner_in = λ q at. above.inner_in q (own_way.inner_in q at) }

    pub path_leads : (q : Path) → In all_paths q → (x : Module) × Leads d q x
    path_leads q (zero, at) = (its_top.top, subst (λ (p : Path). Leads d p its_top.top) (same_Some [] q at) (at_top its_top.top its_top.is_top))
    path_leads q (suc k, at) = ways_lead [] its_top.top.items its_top.whole_top.paths its_top.whole_top.ways its_top.top (at_top its_top.top its_top.is_top) (λ x there. there) q (k, at)

    longest_of : (p : Path) (ps : List Path) → (q : Path) × In (p ∷ ps) q × ((r : Path) → In (p ∷ ps) r → length r ≤ length q)
    longest_of p [] = (p, (0, refl), λ r at. (let same : p ≡ r = only r at in omega (arith, ap length same)))
      where
        only : (r : Path) → In (p ∷ []) r → p ≡ r
        only r (zero, at) = same_Some p r at
        only r (suc k, at) = absurd (cc at)
    longest_of p (x ∷ ps) = by (longest_of x ps) (cases_le (length (longest_of x ps).0) (length p))
      where
        cases_le : (a b : ℕ) → (a ≤ b) ⊎ (b ≤ a)
        cases_le a b = grind arith

        first_case : (q r : Path) (bound : ℕ) → ((s : Path) → In (x ∷ ps) s → length s ≤ bound) → length p ≤ bound → In (p ∷ x ∷ ps) r → length r ≤ bound
        first_case q r bound each low (zero, at) = (let same : p ≡ r = same_Some p r at in omega (arith, low, ap length same))
        first_case q r bound each low (suc k, at) = each r (k, at)

        by : (own_rest : (q : Path) × In (x ∷ ps) q × ((r : Path) → In (x ∷ ps) r → length r ≤ length q)) → (length own_rest.0 ≤ length p) ⊎ (length p ≤ length own_rest.0)
            → (q : Path) × In (p ∷ x ∷ ps) q × ((r : Path) → In (p ∷ x ∷ ps) r → length r ≤ length q)
        by rest (inl low) = (p, (0, refl), λ r at. first_case p r (length p) (λ s there. (let e = rest.2 s there in omega (arith, e, low))) (omega arith) at)
        by rest (inr high) = (rest.0, (suc rest.1.0, rest.1.1), λ r at. first_case rest.0 r (length rest.0) rest.2 high at)

    pub has_depth : (n : ℕ) × IsDeepest d n
    has_depth =
        let q = longest_of [] its_top.whole_top.paths in
        let m = path_leads q.0 q.1 in
        (length q.0, record { path = q.0; there = m.0; leads = m.1; is = refl; longest = λ other x leads. q.2 other (way_at other x leads).here })
