-- What unfolds to nothing: items without cells, and instances of modules without nets and cells.
use Rattle.std.proofs.Common.{◌≡◌, ℕ, zero, suc, ◌<◌, false, List, [], ◌∷◌, ◌++◌, length, slice_get, Option, Some, None, inl, refl, ap, sym, subst, ◌∙◌, arith, true≢false}
use Rattle.std.specs.List.{flat_map, filter_map, cons_option}
use Rattle.std.specs.Option.{option_map, option_map_or}
use Rattle.ila_base.specs.declared.refusal.NetRefusal.TheVariants as refusals
use Rattle.vlog_parse.specs.declared.tree.Module.{Module}
use Rattle.vlog_parse.specs.declared.tree.Range.{Range}
use Rattle.vlog_parse.specs.declared.tree.Item.{Item}
use Rattle.vlog_parse.specs.declared.tree.Item.TheVariants as items
use Rattle.vlog_parse.specs.declared.tree.Gate.{Gate}
use Rattle.vlog_parse.specs.declared.tree.Inst.{Inst}
use Rattle.vlog_parse.specs.ReadTree.{In}
use Rattle.vlog_check.specs.declared.found.Detail.TheVariants.{Alone}
use Rattle.vlog_check.specs.FindingPins.{FindsUnknown}
use Rattle.vlog_check.specs.FindingWidths.{finding}
use Rattle.vlog_check.specs.Scope.{Kind, OfCell, OfModule, kind_of, range_of, numbered_from}
use Rattle.vlog_check.specs.Checked.{Contains, IsChecked}
use Rattle.elab_design.specs.Design.{Path, Source, Design, sources}
use Rattle.elab_design.specs.DesignCells.{DesignCell}
use Rattle.elab_design.specs.Order.{DesignGroup, net_group, net_names, own_groups, inner_module, own_cells, links, port_links, instance_links, InnerGroups, Unfolds, over, own, plain, inside}
use Rattle.elab_design.proofs.SoundLaws.{IsSoundDesign, sound_design}
use Rattle.elab_design.proofs.CheckLaws.{within_clean}
use Rattle.elab_design.proofs.WidthLaws.{sources_length}
use Rattle.elab_scope.specs.Modules.{part_of}
use Rattle.elab_count.specs.declared.amounts.Count.{Count}
use Rattle.elab_scope.specs.declared.numbers.Part.{Part}
use Rattle.elab_scope.specs.declared.numbers.Part.TheVariants as parts
use Rattle.elab_scope.specs.Nets.{net_named, named_nets}
use Rattle.elab_count.specs.Counting.{with_name, cells_count, gate_count, count_at, part_count, item_count, IsPart, AreCounts}
use Rattle.elab_unfold.specs.Places.{NetRow, rows_width, net_from}
use Rattle.elab_unfold.specs.Shapes.{IsDead}
use Rattle.elab_unfold.specs.Parts.{IsWithin}
use Rattle.elab_unfold.specs.Steps.{has_some, is_live, is_live_part}
use Rattle.elab_unfold.proofs.NetLaws.{net_there}
use Rattle.elab_unfold.proofs.CountLaws.{in_together, some_none, cell_is, held, part_more, inner_within, none_in, part_within}

-- Lists

none_long : {X : Type 0} (xs : List X) → length xs ≡ 0 → xs ≡ []
none_long [] size = refl
none_long (x ∷ xs) size = absurd (omega (arith, size))

links_none : (path : Path) (from : List Source) → links path from [] ≡ []
links_none path [] = refl
links_none path (s ∷ from) = refl

-- a module whose nets have no bits has no nets
no_rows : (nets : List NetRow) → rows_width nets ≡ 0 → nets ≡ []
no_rows [] size = refl
no_rows ((name, None) ∷ nets) size = absurd (omega (arith, size))
no_rows ((name, Some r) ∷ nets) size = absurd (omega (arith, size))

no_groups : (m : Module) (path : Path) (names : List (List ℕ)) → filter_map (net_named m) names ≡ [] → filter_map (net_group m path) names ≡ []
no_groups m path [] none = refl
no_groups m path (name ∷ names) none = by (range_of m name) (no_groups m path names) none
  where
    by : (o : Option (Option Range)) → (filter_map (net_named m) names ≡ [] → filter_map (net_group m path) names ≡ [])
        → cons_option (option_map (λ range. (name, range)) o) (filter_map (net_named m) names) ≡ []
        → cons_option (option_map (λ range. record { path = path; name = name; range = range }) o) (filter_map (net_group m path) names) ≡ []
    by None rest none = rest none
    by (Some range) rest none = absurd (cc none)

gate_cells : (g : Gate) → (gate_count g).cells ≡ 1
gate_cells g = by g.name
  where
    by : (o : Option (List ℕ)) → (option_map_or (λ (name : List ℕ). with_name (length name) (cells_count 1 (length g.args))) o (cells_count 1 (length g.args))).cells ≡ 1
    by None = refl
    by (Some name) = refl

-- an instance that counts nothing isn't unfolded
quiet_part : (table : List (Option Count)) (m : Module) (inst : Inst) (o : Option Part) → (part_count table m inst o).nets ≡ 0 → (part_count table m inst o).cells ≡ 0 → is_live_part table o ≡ false
quiet_part table m inst None nets cells = refl
quiet_part table m inst (Some (parts.Cell cell)) nets cells = absurd (omega (arith, cells))
quiet_part table m inst (Some (parts.Module n)) nets cells = some_none (count_at table n) (omega (arith, nets)) (omega (arith, cells))

module _ (d : Design) where
  -- nothing is below items at a path
  pub record IsEmpty (m : Module) (path : Path) (its : List Item) : Type 0 where
    pub groups : InnerGroups d path its []
    pub cells : Unfolds d m path its []

  all_dead : (m : Module) (path : Path) (its : List Item) → ((x : Item) → In its x → IsDead d m x) → IsEmpty m path its
  all_dead m path [] each = record { groups = over path; cells = over m path }
  all_dead m path (x ∷ its) each =
      let rest = all_dead m path its (λ y at. each y (suc at.0, at.1)) in
      let first = each x (0, refl) in
      record { groups = first.groups path its [] rest.groups; cells = first.cells path its [] rest.cells }

  plain_dead : (m : Module) (item : Item) → inner_module d item ≡ None → ((path : Path) → own_cells d m path item ≡ []) → IsDead d m item
  plain_dead m item lacks none = record {
    groups = λ path more found rest. plain path item more found lacks rest;
    cells = λ path more found rest. subst (λ (cs : List DesignCell). Unfolds d m path (item ∷ more) (cs ++ found)) (none path) (own m path item more found lacks rest);
  }

  module _ (m n : Module) (inst : Inst) (is : kind_of d.tree inst ≡ Some (OfModule n)) (bare : named_nets n ≡ []) (portless : n.ports ≡ []) (empty : (path : Path) → IsEmpty n path n.items) where
    bare_groups : (path : Path) → own_groups n path ≡ []
    bare_groups path = no_groups n path (net_names n) bare

    bare_links : (path : Path) → instance_links m path inst n ≡ []
    bare_links path = ap (λ ports. flat_map (port_links m path inst n) (numbered_from 0 ports)) portless

    inst_dead : IsDead d m (items.Inst inst)
    inst_dead = record {
      groups = λ path more found rest.
          subst (λ (gs : List DesignGroup). InnerGroups d path (items.Inst inst ∷ more) ((gs ++ []) ++ found)) (bare_groups (inst.name ∷ path)) (inside path n inst more [] found is (empty (inst.name ∷ path)).groups rest);
      cells = λ path more found rest.
          subst (λ (cs : List DesignCell). Unfolds d m path (items.Inst inst ∷ more) (cs ++ ([] ++ found))) (bare_links path) (inside m n path inst more [] found is (empty (inst.name ∷ path)).cells rest);
    }

  module _ (checked : IsChecked d.tree d.top) (top : ℕ) (table : List (Option Count)) (counts : AreCounts d.tree top table) (few : IsWithin (count_at table top)) where
    sound : IsSoundDesign d
    sound = sound_design d checked

    no_ports : (n : Module) → In d.tree.modules n → named_nets n ≡ [] → n.ports ≡ []
    no_ports n has bare = by n.ports refl
      where
        by : (ports : List (List ℕ)) → n.ports ≡ ports → n.ports ≡ []
        by [] same = same
        by (port ∷ ports) same =
            let range = sound.ports_declared n port has (0, ap (λ names. slice_get names 0) same) in
            let net = net_there n port range.0 range.1 in
            absurd (cc (sym (ap (λ nets. net_from 0 nets port) bare) ∙ net.1))

    -- an item that isn't unfolded, where modules without nets and cells are empty
    module _ (m : Module) (a : ℕ) (part : IsPart d.tree top a) (at : slice_get d.tree.modules a ≡ Some m)
        (deep : (b : ℕ) (n : Module) → Contains d.tree a b → slice_get d.tree.modules b ≡ Some n → has_some (count_at table b) ≡ false → (path : Path) → IsEmpty n path n.items) where
      quiet_inst : (inst : Inst) (o : Option Kind) → In m.items (items.Inst inst) → kind_of d.tree inst ≡ o → is_live_part table (part_of d.tree inst) ≡ false → IsDead d m (items.Inst inst)
      quiet_inst inst None has is none =
          absurd (within_clean d.tree checked.clean m (items.Inst inst) (finding inst.place Alone (refusals.UnknownModule inst.module)) (a, at) has (inl (subst (λ (o : Option Kind). FindsUnknown inst o (finding inst.place Alone (refusals.UnknownModule inst.module))) (sym is) refl)))
      quiet_inst inst (Some (OfCell cell)) has is none = absurd (true≢false (sym (ap (is_live_part table) (cell_is d.tree inst cell is)) ∙ none))
      quiet_inst inst (Some (OfModule n)) has is none =
          let its = held d.tree inst a m n at has is in
          let nothing_there : has_some (count_at table its.number) ≡ false = sym (ap (is_live_part table) its.part) ∙ none in
          let its_part = part_more d.tree top table counts a its.number part its.holds in
          let bits = none_in d.tree top table counts its.number n its_part its.at (part_within d.tree top table counts few its.number its_part) nothing_there in
          let bare = no_rows (named_nets n) bits.0 in
          inst_dead m n inst is bare (no_ports n (its.number, its.at) bare) (deep its.number n its.holds its.at nothing_there)

      quiet_dead : (item : Item) → In m.items item → is_live d.tree table item ≡ false → IsDead d m item
      quiet_dead (items.Net decl) has none = plain_dead m (items.Net decl) refl (λ path. refl)
      quiet_dead (items.Assign target value) has none = absurd (true≢false none)
      quiet_dead (items.Gate g) has none = absurd (true≢false none)
      quiet_dead (items.Inst inst) has none = quiet_inst inst (kind_of d.tree inst) has refl none

      -- an item that counts nothing
      zero_dead : (item : Item) → In m.items item → (item_count d.tree table m item).nets ≡ 0 → (item_count d.tree table m item).cells ≡ 0 → IsDead d m item
      zero_dead (items.Net decl) has nets cells = plain_dead m (items.Net decl) refl (λ path. refl)
      zero_dead (items.Assign target value) has nets cells =
          plain_dead m (items.Assign target value) refl
          (λ path. ap (links path (sources m path value)) (none_long (sources m path target) (sources_length m path target ∙ cells)) ∙ links_none path (sources m path value))
      zero_dead (items.Gate g) has nets cells = absurd (omega (arith, cells, gate_cells g))
      zero_dead (items.Inst inst) has nets cells = quiet_inst inst (kind_of d.tree inst) has refl (quiet_part table m inst (part_of d.tree inst) nets cells)

    -- a module without nets and cells, with so many below it at most
    empty_module : (limit a : ℕ) (m : Module) → IsPart d.tree top a → slice_get d.tree.modules a ≡ Some m → (count_at table a).depth < limit → has_some (count_at table a) ≡ false → (path : Path) → IsEmpty m path m.items
    empty_module zero a m part at low none path = absurd (omega (arith, low))
    empty_module (suc limit) a m part at low none path =
        let own_few = part_within d.tree top table counts few a part in
        let zeros = none_in d.tree top table counts a m part at own_few none in
        let below : (b : ℕ) (n : Module) → Contains d.tree a b → slice_get d.tree.modules b ≡ Some n → has_some (count_at table b) ≡ false → (path : Path) → IsEmpty n path n.items =
        λ b n holds there empty way. (let less = (inner_within d.tree top table counts a m part at own_few b holds).1 in
        empty_module limit b n (part_more d.tree top table counts a b part holds) there (omega (arith, less, low)) empty way) in
        all_dead m path m.items
        (λ x has. (let most = in_together (item_count d.tree table m) m.items x has in zero_dead m a part at below x has (omega (arith, most.nets, zeros.1)) (omega (arith, most.cells, zeros.2))))

    -- an item that isn't unfolded, of the top or of a module below it
    pub dead : (a : ℕ) (m : Module) → IsPart d.tree top a → slice_get d.tree.modules a ≡ Some m → (item : Item) → In m.items item → is_live d.tree table item ≡ false → IsDead d m item
    dead a m part at item has none =
        quiet_dead m a part at
        (λ b n holds there empty path. empty_module (suc (count_at table b).depth) b n (part_more d.tree top table counts a b part holds) there (omega arith) empty path) item has none
