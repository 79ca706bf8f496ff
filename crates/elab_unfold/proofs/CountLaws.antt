-- What a table of counts says of the top and of the modules below it.
use Rattle.std.proofs.Common.{◌≡◌, ℕ, zero, suc, ◌+◌, ◌^◌, ◌<◌, ◌≤◌, max, true, false, ◌||◌, nat_lt, List, [], ◌∷◌, map, length, slice_get, Option, Some, None, inl, inr, refl, ap, sym, subst, ◌∙◌, arith, true≢false}
use Rattle.std.specs.Option.{option_map_or}
use Rattle.std.proofs.lemmas.Option.{same_Some}
use Rattle.std.proofs.lemmas.Bool.Decides.{nat_tests}
use Rattle.ila_base.specs.declared.limits.TheConstants.{DEPTH, NETS}
use Rattle.vlog_parse.specs.declared.tree.Tree.{Tree}
use Rattle.vlog_parse.specs.declared.tree.Module.{Module}
use Rattle.vlog_parse.specs.declared.tree.Item.{Item}
use Rattle.vlog_parse.specs.declared.tree.Item.TheVariants as items
use Rattle.vlog_parse.specs.declared.tree.Inst.{Inst}
use Rattle.vlog_parse.specs.ReadTree.{In}
use Rattle.vlog_check.specs.declared.primitive.Primitive.{Primitive}
use Rattle.vlog_check.specs.Scope.{OfCell, OfModule, kind_of, cell_first, cell_of, module_of, module_number}
use Rattle.vlog_check.specs.Checked.{Contains, IsBelow, child, deeper}
use Rattle.elab_design.specs.Limits.{carried}
use Rattle.elab_design.proofs.Lists.{in_none}
use Rattle.elab_design.proofs.SoundLaws.{and_then_some, module_first}
use Rattle.elab_design.proofs.ExistLaws.{module_there, below_more}
use Rattle.elab_design.proofs.LeafLaws.{or_none}
use Rattle.elab_scope.specs.Modules.{part_first, part_of}
use Rattle.elab_count.specs.declared.amounts.Count.{Count}
use Rattle.elab_scope.specs.declared.numbers.Part.TheVariants as parts
use Rattle.elab_scope.specs.Nets.{named_nets}
use Rattle.elab_count.specs.Counting.{nothing, together, all_together, capped, behind, net_count, links_count, conns_width, count_at, part_count, item_count, module_count, IsPart, AreCounts}
use Rattle.elab_unfold.specs.Places.{NetRow, row_width, rows_width, own_width}
use Rattle.elab_unfold.specs.Parts.{IsWithin}
use Rattle.elab_unfold.specs.Steps.{has_some}

-- Sums of counts

pub own_nets : (nets : List NetRow) → (all_together (map net_count nets)).nets ≡ rows_width nets
own_nets [] = refl
own_nets (net ∷ nets) = ap (λ n. row_width net + n) (own_nets nets)

-- a count is at most that of all
pub record IsAtMost (c all : Count) : Type 0 where
  pub nets : c.nets ≤ all.nets
  pub cells : c.cells ≤ all.cells
  pub depth : c.depth ≤ all.depth

most_here : (c rest : Count) → IsAtMost c (together c rest)
most_here c rest = record { nets = omega arith; cells = omega arith; depth = grind arith }

most_later : (c other rest : Count) → IsAtMost c rest → IsAtMost c (together other rest)
most_later c other rest most = (
    let low = most.depth in
    record { nets = omega (arith, most.nets); cells = omega (arith, most.cells); depth = deeper_one c.depth other.depth rest.depth low })
  where
    deeper_one : (a b c : ℕ) → a ≤ c → a ≤ max b c
    deeper_one a b c low = grind arith

pub in_together : (f : Item → Count) (its : List Item) (x : Item) → In its x → IsAtMost (f x) (all_together (map f its))
in_together f [] x at = absurd (in_none x at)
in_together f (y ∷ its) x (zero, at) = subst (λ z. IsAtMost (f z) (together (f y) (all_together (map f its)))) (same_Some y x at) (most_here (f y) (all_together (map f its)))
in_together f (y ∷ its) x (suc k, at) = most_later (f x) (f y) (all_together (map f its)) (in_together f its x (k, at))

-- Nothing

zero_of : (n : ℕ) → nat_lt 0 n ≡ false → n ≡ 0
zero_of n is = grind (arith, nat_tests)

pub none_of : (c : Count) → has_some c ≡ false → (c.nets ≡ 0) × (c.cells ≡ 0)
none_of c is = let both = or_none (nat_lt 0 c.nets) (nat_lt 0 c.cells) is in (zero_of c.nets both.0, zero_of c.cells both.1)

pub some_none : (c : Count) → c.nets ≡ 0 → c.cells ≡ 0 → has_some c ≡ false
some_none c nets cells = ap (λ n. nat_lt 0 n || nat_lt 0 c.cells) nets ∙ ap (λ n. nat_lt 0 n) cells

-- Entries of the table

pub count_there : (table : List (Option Count)) (n : ℕ) (c : Count) → slice_get table n ≡ Some (Some c) → count_at table n ≡ c
count_there table n c at = ap (λ (o : Option (Option Count)). option_map_or (λ (entry : Option Count). option_map_or (λ (c : Count). c) entry nothing) o nothing) at

pub some_entry : (table : List (Option Count)) (n : ℕ) → has_some (count_at table n) ≡ true → (c : Count) × (slice_get table n ≡ Some (Some c))
some_entry table n is = by (slice_get table n) refl is
  where
    by : (o : Option (Option Count)) → slice_get table n ≡ o → has_some (option_map_or (λ (entry : Option Count). option_map_or (λ (c : Count). c) entry nothing) o nothing) ≡ true → (c : Count) × (slice_get table n ≡ Some (Some c))
    by None at is = absurd (true≢false (sym is))
    by (Some None) at is = absurd (true≢false (sym is))
    by (Some (Some c)) at is = (c, at)

-- Instances

module _ (tree : Tree) (inst : Inst) where
  pub part_is : (e : ℕ) → cell_of inst.module ≡ None → module_number tree inst.module ≡ Some e → part_of tree inst ≡ Some (parts.Module e)
  part_is e none at = ap (λ o. part_first o (module_number tree inst.module)) none ∙ ap (part_first None) at

  pub cell_is : (cell : Primitive) → kind_of tree inst ≡ Some (OfCell cell) → part_of tree inst ≡ Some (parts.Cell cell)
  cell_is cell is = by (cell_of inst.module) (module_of tree inst.module) is
    where
      by : (o : Option Primitive) (x : Option Module) → cell_first o x ≡ Some (OfCell cell) → part_first o (module_number tree inst.module) ≡ Some (parts.Cell cell)
      by (Some c) x e = (let same : c ≡ cell = cc e in ap (λ y. Some (parts.Cell y)) same)
      by None None e = absurd (cc e)
      by None (Some x) e = absurd (cc e)

  pub cell_kind : (cell : Primitive) → part_of tree inst ≡ Some (parts.Cell cell) → kind_of tree inst ≡ Some (OfCell cell)
  cell_kind cell is = by (cell_of inst.module) (module_number tree inst.module) is
    where
      by : (o : Option Primitive) (x : Option ℕ) → part_first o x ≡ Some (parts.Cell cell) → cell_first o (module_of tree inst.module) ≡ Some (OfCell cell)
      by (Some c) x e = (let same : c ≡ cell = cc e in ap (λ y. Some (OfCell y)) same)
      by None None e = absurd (cc e)
      by None (Some x) e = absurd (cc e)

  pub module_part : (number : ℕ) → part_of tree inst ≡ Some (parts.Module number) → (cell_of inst.module ≡ None) × (module_number tree inst.module ≡ Some number)
  module_part number is = by (cell_of inst.module) (module_number tree inst.module) is
    where
      by : (o : Option Primitive) (x : Option ℕ) → part_first o x ≡ Some (parts.Module number) → (o ≡ None) × (x ≡ Some number)
      by (Some c) x e = absurd (cc e)
      by None None e = absurd (cc e)
      by None (Some x) e = (refl, (let same : x ≡ number = cc e in ap (λ y. Some y) same))

  -- an instance of a module is in the module that holds it
  pub record IsHeld (c : ℕ) (n : Module) : Type 0 where
    pub number : ℕ
    pub holds : Contains tree c number
    pub at : slice_get tree.modules number ≡ Some n
    pub part : part_of tree inst ≡ Some (parts.Module number)

  pub held : (c : ℕ) (m n : Module) → slice_get tree.modules c ≡ Some m → In m.items (items.Inst inst) → kind_of tree inst ≡ Some (OfModule n) → IsHeld c n
  held c m n at has is =
      let first = module_first (cell_of inst.module) (module_of tree inst.module) n is in
      let numbered = and_then_some (slice_get tree.modules) (module_number tree inst.module) n first.1 in
      record {
        number = numbered.0;
        holds = record { holder = m; at = at; inst = inst; has = has; no_cell = first.0; is = numbered.1 };
        at = numbered.2;
        part = part_is numbered.0 first.0 numbered.1;
      }

-- Modules below the top

small_nets : (own items inner whole : ℕ) → inner ≤ items → whole ≡ carried (own + items) → whole ≤ NETS → inner ≤ NETS
small_nets own items inner whole low is few = grind arith

small_depth : (own items inner whole : ℕ) → inner + 1 ≤ items → whole ≡ carried (max own items) → whole ≤ DEPTH → inner < whole
small_depth own items inner whole low is few = grind arith

exact_nets : (own items whole : ℕ) → whole ≡ carried (own + items) → whole ≤ NETS → whole ≡ own + items
exact_nets own items whole is few = grind arith

none_below : (own items : ℕ) → 0 ≡ carried (own + items) → (own ≡ 0) × (items ≡ 0)
none_below own items is = (left own items is, right own items is)
  where
    left : (own items : ℕ) → 0 ≡ carried (own + items) → own ≡ 0
    left own items is = grind arith

    right : (own items : ℕ) → 0 ≡ carried (own + items) → items ≡ 0
    right own items is = grind arith

module _ (tree : Tree) (top : ℕ) (table : List (Option Count)) (counts : AreCounts tree top table) where
  -- the counts of the items of a module together
  abbrev pub its_items : Module → Count
  its_items m = all_together (map (item_count tree table m) m.items)

  pub entry_is : (n : ℕ) (m : Module) → IsPart tree top n → slice_get tree.modules n ≡ Some m → count_at table n ≡ capped (module_count tree table m)
  entry_is n m part at = count_there table n (capped (module_count tree table m)) (counts.each n m part at)

  pub part_more : (a b : ℕ) → IsPart tree top a → Contains tree a b → IsPart tree top b
  part_more a b (inl same) holds = inr (subst (λ (n : ℕ). IsBelow tree n b) same (child a b holds))
  part_more a b (inr below) holds = inr (below_more tree top a b below holds)

  -- the count of an instance of a module
  inst_count : (m : Module) (inst : Inst) (b : ℕ) → part_of tree inst ≡ Some (parts.Module b) → item_count tree table m (items.Inst inst) ≡ together (links_count (conns_width m inst.conns)) (behind (length inst.name) (count_at table b))
  inst_count m inst b is = ap (part_count table m inst) is

  pub inst_nets : (m : Module) (inst : Inst) (b : ℕ) → part_of tree inst ≡ Some (parts.Module b) → (item_count tree table m (items.Inst inst)).nets ≡ (count_at table b).nets
  inst_nets m inst b is = let e = ap (λ (c : Count). c.nets) (inst_count m inst b is) in omega (arith, e)

  inst_depth : (m : Module) (inst : Inst) (b : ℕ) → part_of tree inst ≡ Some (parts.Module b) → (count_at table b).depth + 1 ≤ (item_count tree table m (items.Inst inst)).depth
  inst_depth m inst b is = let e = ap (λ (c : Count). c.depth) (inst_count m inst b is) in over (count_at table b).depth (item_count tree table m (items.Inst inst)).depth e
    where
      over : (a d : ℕ) → d ≡ max 0 (a + 1) → a + 1 ≤ d
      over a d is = grind arith

  module _ (a : ℕ) (m : Module) (part : IsPart tree top a) (at : slice_get tree.modules a ≡ Some m) (few : IsWithin (count_at table a)) where
    nets_is : (count_at table a).nets ≡ carried (own_width m + (its_items m).nets)
    nets_is = ap (λ (c : Count). c.nets) (entry_is a m part at) ∙ ap (λ n. carried (n + (its_items m).nets)) (own_nets (named_nets m))

    pub nets_exact : (count_at table a).nets ≡ own_width m + (its_items m).nets
    nets_exact = exact_nets (own_width m) (its_items m).nets (count_at table a).nets nets_is few.nets

    -- an instance's module is within the limits too, and not as deep
    pub inner_within : (b : ℕ) → Contains tree a b → IsWithin (count_at table b) × ((count_at table b).depth < (count_at table a).depth)
    inner_within b holds =
        let same = same_Some holds.holder m (sym holds.at ∙ at) in
        let has = subst (λ (x : Module). In x.items (items.Inst holds.inst)) same holds.has in
        let is = part_is tree holds.inst b holds.no_cell holds.is in
        let most = in_together (item_count tree table m) m.items (items.Inst holds.inst) has in
        let nets = inst_nets m holds.inst b is in
        let depth = inst_depth m holds.inst b is in
        let less = small_depth (all_together (map net_count (named_nets m))).depth (its_items m).depth (count_at table b).depth (count_at table a).depth (omega (arith, depth, most.depth)) (ap (λ (c : Count). c.depth) (entry_is a m part at)) few.depth in (
          record {
            nets = small_nets (own_width m) (its_items m).nets (count_at table b).nets (count_at table a).nets (omega (arith, nets, most.nets)) nets_is few.nets;
            depth = omega (arith, less, few.depth);
          },
          less,
        )

    -- a module without nets and cells has none in its items
    pub none_in : has_some (count_at table a) ≡ false → (own_width m ≡ 0) × ((its_items m).nets ≡ 0) × ((its_items m).cells ≡ 0)
    none_in none =
        let both = none_of (count_at table a) none in
        let nets = none_below (own_width m) (its_items m).nets (sym both.0 ∙ nets_is) in
        let cells = none_below (all_together (map net_count (named_nets m))).cells (its_items m).cells (sym both.1 ∙ ap (λ (c : Count). c.cells) (entry_is a m part at)) in
        (nets.0, nets.1, cells.1)

  below_there : (a b : ℕ) → IsBelow tree a b → (m : Module) × (slice_get tree.modules b ≡ Some m)
  below_there a b (child _ _ holds) = module_there tree holds.inst.module b holds.is
  below_there a b (deeper _ c _ holds rest) = below_there c b rest

  pub part_there : (name : List ℕ) → module_number tree name ≡ Some top → (n : ℕ) → IsPart tree top n → (m : Module) × (slice_get tree.modules n ≡ Some m)
  part_there name there n (inl same) = module_there tree name n (there ∙ ap (λ k. Some k) (sym same))
  part_there name there n (inr below) = below_there top n below

  below_within : (a b : ℕ) → IsBelow tree a b → IsPart tree top a → IsWithin (count_at table a) → IsWithin (count_at table b)
  below_within a b (child _ _ holds) part few = (inner_within a holds.holder part holds.at few b holds).0
  below_within a b (deeper _ c _ holds rest) part few = below_within c b rest (part_more a c part holds) (inner_within a holds.holder part holds.at few c holds).0

  -- the top and all modules below it are within the limits
  pub part_within : IsWithin (count_at table top) → (n : ℕ) → IsPart tree top n → IsWithin (count_at table n)
  part_within few n (inl same) = subst (λ k. IsWithin (count_at table k)) (sym same) few
  part_within few n (inr below) = below_within top n below (inl refl) few

  pub own_room : IsWithin (count_at table top) → (n : ℕ) (m : Module) (c : Count) → slice_get tree.modules n ≡ Some m → slice_get table n ≡ Some (Some c) → rows_width (named_nets m) < 2 ^ 32
  own_room few n m c at there =
      let part = counts.only n c there in
      let own = part_within few n part in
      let exact = nets_exact n m part at own in
      let limit = own.nets in
      small (own_width m) (its_items m).nets (count_at table n).nets exact limit
    where
      small : (own items whole : ℕ) → whole ≡ own + items → whole ≤ NETS → own < 2 ^ 32
      small own items whole is few = omega (arith, is, few)
