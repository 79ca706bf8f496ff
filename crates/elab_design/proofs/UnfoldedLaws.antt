-- The raw netlist of a checked design within its limits is what settling asks for.
use Rattle.std.proofs.Common.{◌≡◌, ℕ, zero, suc, ◌+◌, ◌<◌, ◌≤◌, Bool, true, false, cond, List, [], ◌∷◌, ◌++◌, map, length, sum_by, slice_get, Option, Some, None, IfSome, ◌⊎◌, inl, inr, refl, ap, sym, ◌∙◌, subst, arith, length-append}
use Rattle.std.specs.List.{flat_map, filter, filter_map, cons_option, range_with_len}
use Rattle.std.specs.Option.{option_map, option_map_or}
use Rattle.std.specs.Str.{bytes_eq}
use Rattle.std.proofs.lemmas.List.{length-map}
use Rattle.std.proofs.lemmas.List.Sums.{sum_by-cons}
use Rattle.std.proofs.lemmas.Option.{same_Some, slice_get-map, slice_get_within}
use Rattle.ila_base.specs.declared.refusal.LimitKind.{LimitKind}
use Rattle.ila_base.specs.declared.refusal.LimitKind.TheVariants.{Cells, Pins, Nets, AllNames}
use Rattle.net_core.specs.declared.parts.NetId.{NetId}
use Rattle.net_core.specs.declared.parts.Group.{Group}
use Rattle.net_core.specs.declared.parts.Port.{Port}
use Rattle.net_core.specs.Netlist.{all_nets, net_count}
use Rattle.net_core.specs.WellFormed.{Each, HasRange, IsIdentifier, bit_names, range_indices}
use Rattle.net_core.proofs.ListLemmas.{option_map_some}
use Rattle.net_core.proofs.PartsLemmas.{filter_at}
use Rattle.vlog_parse.specs.declared.tree.Module.{Module}
use Rattle.vlog_parse.specs.declared.tree.Range.{Range}
use Rattle.vlog_parse.specs.declared.tree.Decl.{Decl}
use Rattle.vlog_parse.specs.declared.tree.Item.{Item}
use Rattle.vlog_parse.specs.declared.tree.Item.TheVariants as items
use Rattle.vlog_parse.specs.ReadTree.{In, IsReadTree, IsSpelled}
use Rattle.vlog_check.specs.Checked.{IsChecked}
use Rattle.vlog_check.specs.Scope.{value_of, declared, range_of, net_width, range_width, numbered_from, direction_of, is_output}
use Rattle.flat_settle.specs.declared.raw.Raw.{Raw}
use Rattle.flat_settle.specs.declared.raw.RawCell.{RawCell}
use Rattle.flat_settle.specs.Raw.{clock_net, raw_identifiers, raw_pin_count, HasRawRow, NamesNets, HasRawLimits, HasClockPort, IsUnfolded}
use Rattle.elab_design.specs.Design.{Path, Bit, Source, Wire, Fixed, bit_of, indices, net_bits, Design, Leads, at_top, into}
use Rattle.elab_design.specs.DesignCells.{DesignCell, HasCell, gate, leaf, assigned, goes_in, goes_out}
use Rattle.elab_design.specs.DesignRuns.{clock_bits}
use Rattle.elab_design.specs.Order.{DesignGroup, group_bits}
use Rattle.elab_design.specs.Names.{flat_name, cell_name, design_identifiers}
use Rattle.elab_design.specs.Raw.{net_id, pin, pair_of, flat_group, raw_cell, flat_port, IsRawOf}
use Rattle.elab_design.specs.Limits.{HasClock, cell_pins, amount, unfolded, greatest, HasLimits}
use Rattle.elab_design.proofs.Lists.{in_none, in_append, in_flat_map, map_in, filter_map_in, map_of_map, numbered_at}
use Rattle.elab_design.proofs.MentionLaws.{names_same, same_names}
use Rattle.elab_design.proofs.GroupLaws.{IsNetGroup, group_is}
use Rattle.elab_design.proofs.SoundLaws.{IsSoundDesign, sound_design, leads_in}
use Rattle.elab_design.proofs.KnownLaws.{clock_known}
use Rattle.elab_design.proofs.PortLaws.{joined_map, group_at, raw_nets_at}
use Rattle.elab_design.proofs.DrivenLaws.{known, is_cell, cell_reads, behind, driver, at_in, clock_to}
use Rattle.elab_design.proofs.WidthLaws.{net_length}
use Rattle.elab_design.proofs.GateLaws.{gate_row, link_row}
use Rattle.elab_design.proofs.LeafLaws.{leaf_row}

-- Lists

placed_range : {X : Type 0} (f : X → ℕ) (a : ℕ) (xs : List X) → ((n : ℕ) (x : X) → slice_get xs n ≡ Some x → f x ≡ a + n) → map f xs ≡ range_with_len a (length xs)
placed_range f a [] each = refl
placed_range f a (x ∷ xs) each =
    let first : f x ≡ a = omega (arith, each 0 x refl) in
    ap (λ n. n ∷ map f xs) first ∙ ap (λ ns. a ∷ ns) (placed_range f (a + 1) xs (λ n y at. (let e : f y ≡ a + suc n = each (suc n) y at in omega (arith, e))))

pub there_is : {X : Type 0} (xs : List X) (k : ℕ) → k < length xs → (x : X) × (slice_get xs k ≡ Some x)
there_is [] k low = absurd (omega (arith, low))
there_is (x ∷ xs) zero low = (x, refl)
there_is (x ∷ xs) (suc k) low = there_is xs k (omega (arith, low))

same_filter_map : {X Y Z : Type 0} (f : X → Y) (g : Y → Option Z) (h : X → Option Z) (xs : List X) → ((x : X) → g (f x) ≡ h x) → filter_map g (map f xs) ≡ filter_map h xs
same_filter_map f g h [] same = refl
same_filter_map f g h (x ∷ xs) same = ap (λ o. cons_option o (filter_map g (map f xs))) (same x) ∙ ap (cons_option (h x)) (same_filter_map f g h xs same)

same_sum : {X Y : Type 0} (f : X → Y) (g : Y → ℕ) (h : X → ℕ) (xs : List X) → ((x : X) → g (f x) ≡ h x) → sum_by g (map f xs) ≡ sum_by h xs
same_sum f g h [] same = refl
same_sum f g h (x ∷ xs) same = sum_by-cons g (f x) (map f xs) ∙ (let e = same x in let rest = same_sum f g h xs same in omega (arith, e, rest, sum_by-cons h x xs))

-- Names

-- a net that a module declares has a declaration with its range
decl_of : (its : List Item) (name : List ℕ) (range : Option Range) → value_of (declared its) name ≡ Some range → (decl : Decl) × In its (items.Net decl) × (decl.name ≡ name) × (decl.range ≡ range)
decl_of [] name range is = absurd (cc is)
decl_of (items.Net decl ∷ its) name range is = by (bytes_eq name decl.name) refl (decl_of its name range) is
  where
    by : (b : Bool) → bytes_eq name decl.name ≡ b → (value_of (declared its) name ≡ Some range → (o : Decl) × In its (items.Net o) × (o.name ≡ name) × (o.range ≡ range))
        → cond b (Some decl.range) (value_of (declared its) name) ≡ Some range → (o : Decl) × In (items.Net decl ∷ its) (items.Net o) × (o.name ≡ name) × (o.range ≡ range)
    by true same rest is = (decl, (0, refl), sym (names_same name decl.name same), same_Some decl.range range is)
    by false other rest is = let own = rest is in (own.0, (suc own.1.0, own.1.1), own.2, own.3)
decl_of (items.Assign to from ∷ its) name range is = let own = decl_of its name range is in (own.0, (suc own.1.0, own.1.1), own.2, own.3)
decl_of (items.Gate g ∷ its) name range is = let own = decl_of its name range is in (own.0, (suc own.1.0, own.1.1), own.2, own.3)
decl_of (items.Inst i ∷ its) name range is = let own = decl_of its name range is in (own.0, (suc own.1.0, own.1.1), own.2, own.3)

spelled_identifier : (name : List ℕ) → IsSpelled name → IsIdentifier name
spelled_identifier name is = (is.0, λ k byte at. is.2 k byte at)

join_names : (a b : List ℕ) → IsIdentifier a → IsIdentifier b → IsIdentifier (a ++ 47 ∷ b)
join_names a b one other = (omega (arith, length-append a (47 ∷ b)), λ k byte at. each byte (in_append a (47 ∷ b) byte (k, at)))
  where
    each : (byte : ℕ) → In a byte ⊎ In (47 ∷ b) byte → (33 ≤ byte) × (byte ≤ 126)
    each byte (inl (k, at)) = one.1 k byte at
    each byte (inr (zero, at)) = let e : 47 ≡ byte = same_Some 47 byte at in (omega (arith, e), omega (arith, e))
    each byte (inr (suc k, at)) = other.1 k byte at

flat_identifier : (path : Path) (name : List ℕ) → ((inst : List ℕ) → In path inst → IsIdentifier inst) → IsIdentifier name → IsIdentifier (flat_name path name)
flat_identifier [] name each own = own
flat_identifier (inst ∷ path) name each own = flat_identifier path (inst ++ 47 ∷ name) (λ x at. each x (suc at.0, at.1)) (join_names inst name (each inst (0, refl)) own)

-- Groups

group_numbers : (number : Bit → ℕ) (groups : List DesignGroup) → all_nets (map (flat_group number) groups) ≡ map number (flat_map group_bits groups)
group_numbers number [] = refl
group_numbers number (g ∷ groups) =
    ap (λ ns. ns ++ all_nets (map (flat_group number) groups)) (map_of_map (λ (id : NetId). id.0) (λ b. net_id (number b)) (group_bits g))
    ∙ ap (λ ns. map number (group_bits g) ++ ns) (group_numbers number groups) ∙ joined_map number (group_bits g) (flat_map group_bits groups)

count_bits : (number : Bit → ℕ) (groups : List DesignGroup) → net_count (map (flat_group number) groups) ≡ length (flat_map group_bits groups)
count_bits number [] = refl
count_bits number (g ∷ groups) =
    sum_by-cons (λ (group : Group). length group.bits) (flat_group number g) (map (flat_group number) groups)
    ∙ (let size = length-map (group_bits g) (λ b. net_id (number b)) in let rest = count_bits number groups in omega (arith, size, rest, length-append (group_bits g) (flat_map group_bits groups)))

port_numbers : (top : Module) (a : ℕ) (names : List (List ℕ))
    → map (λ (port : Port). port.group) (map (flat_port top) (numbered_from a names)) ≡ range_with_len a (length (map (flat_port top) (numbered_from a names)))
port_numbers top a [] = refl
port_numbers top a (name ∷ names) = ap (λ ns. a ∷ ns) (port_numbers top (a + 1) names)

port_count : (top : Module) (a : ℕ) (names : List (List ℕ)) → length (map (flat_port top) (numbered_from a names)) ≡ length names
port_count top a [] = refl
port_count top a (name ∷ names) = ap suc (port_count top (a + 1) names)

group_width : (number : Bit → ℕ) (path : Path) (name : List ℕ) (range : Option Range)
    → length (map (λ b. net_id (number b)) (map (bit_of path name) (indices range))) ≡ length (bit_names (flat_group number (record { path = path; name = name; range = range })))
group_width number path name None = refl
group_width number path name (Some r) =
    length-map (map (bit_of path name) (range_indices r.left r.right)) _ ∙ length-map (range_indices r.left r.right) (bit_of path name) ∙ sym (length-map (range_indices r.left r.right) _)

clock_wire : (number : Bit → ℕ) (o : Option Source) (net : NetId) → clock_net (option_map (pin number) o) ≡ Some net → (b : Bit) × (o ≡ Some (Wire b)) × (number b ≡ net.0)
clock_wire number None net is = absurd (cc is)
clock_wire number (Some (Wire b)) net is = (b, refl, ap (λ (id : NetId). id.0) (same_Some (net_id (number b)) net is))
clock_wire number (Some (Fixed true)) net is = absurd (cc is)
clock_wire number (Some (Fixed false)) net is = absurd (cc is)

clock_counts : (number : Bit → ℕ) (o : Option Source) → ◌≡◌ {A = ℕ} (option_map_or (λ _. 1) (option_map (pin number) o) 0) (option_map_or (λ _. 1) o 0)
clock_counts number None = refl
clock_counts number (Some s) = refl

module _ (d : Design) (raw : Raw) (is : IsRawOf d raw) (read : IsReadTree d.tree) (checked : IsChecked d.tree d.top) where
  abbrev bits : List Bit
  bits = flat_map group_bits is.design_groups

  sound : IsSoundDesign d
  sound = sound_design d checked

  -- Groups and ports

  count_is : net_count raw.groups ≡ length bits
  count_is = ap net_count is.groups ∙ count_bits is.number is.design_groups

  numbering : all_nets raw.groups ≡ range_with_len 0 (net_count raw.groups)
  numbering =
      ap all_nets is.groups ∙ group_numbers is.number is.design_groups ∙ placed_range is.number 0 bits (λ n b at. (let e : is.number b ≡ n = is.placed n b at in omega (arith, e)))
      ∙ ap (range_with_len 0) (sym count_is)

  port_order : map (λ (port : Port). port.group) raw.ports ≡ range_with_len 0 (length raw.ports)
  port_order =
      ap (map (λ (port : Port). port.group)) is.ports ∙ port_numbers is.order.top 0 is.order.top.ports ∙ ap (λ (ports : List Port). range_with_len 0 (length ports)) (sym is.ports)

  few_ports : (n : ℕ) → n ≡ length is.order.top.ports → n ≤ length is.design_groups
  few_ports zero size = omega arith
  few_ports (suc k) size =
      let name = there_is is.order.top.ports k (omega (arith, size)) in
      let range = sound.ports_declared is.order.top name.0 (leads_in d [] is.order.top (at_top is.order.top is.order.is_top)) (k, name.1) in
      let low = slice_get_within is.design_groups k (record { path = []; name = name.0; range = range.0 }) (group_at d raw is sound k name.0 range.0 name.1 range.1) in
      omega (arith, low)

  port_groups : length raw.ports ≤ length raw.groups
  port_groups =
      let ports = ap (λ (ports : List Port). length ports) is.ports ∙ port_count is.order.top 0 is.order.top.ports in
      let groups = ap (λ (groups : List Group). length groups) is.groups ∙ length-map is.design_groups (flat_group is.number) in
      omega (arith, ports, groups, few_ports (length is.order.top.ports) refl)

  group_net : (g : DesignGroup) → In is.design_groups g → IsNetGroup d g
  group_net g at = group_is d is.order.top is.order.is_top is.design_groups is.order.all_groups g at

  group_decl : (g : DesignGroup) (own : IsNetGroup d g) → (decl : Decl) × In own.holder.items (items.Net decl) × (decl.name ≡ g.name) × (decl.range ≡ g.range)
  group_decl g own = decl_of own.holder.items g.name g.range own.declares

  small_range : (g : DesignGroup) → In is.design_groups g → (o : Option Range) → g.range ≡ o → IfSome (option_map pair_of o) (λ range. (range.0 ≤ 1048575) × (range.1 ≤ 1048575))
  small_range g at None same = tt
  small_range g at (Some r) same =
      let own = group_net g at in
      let decl = group_decl g own in
      read.ranges own.holder decl.0 r (leads_in d g.path own.holder own.leads) decl.1 (decl.3 ∙ same)

  ranges : Each HasRange raw.groups
  ranges k group at =
      let g = option_map_some (flat_group is.number) (slice_get is.design_groups k) group (sym (slice_get-map (flat_group is.number) is.design_groups k) ∙ sym (ap (λ (groups : List Group). slice_get groups k) is.groups) ∙ at) in
      subst HasRange g.2 (record { width = group_width is.number g.0.path g.0.name g.0.range; indices = small_range g.0 (k, g.1) g.0.range refl })

  -- Cells

  row_of : (c : DesignCell) → HasCell d c → HasRawRow (raw_cell is.number c)
  row_of _ (gate path m g leads at) =
      let has = leads_in d path m leads in
      gate_row is.number d.tree checked.clean m path g has at (λ e there. sound.exprs m (items.Gate g) e has at there)
  row_of _ (leaf path m inst cell leads at kind) =
      let has = leads_in d path m leads in
      leaf_row d.tree checked.clean m inst cell has at kind (λ e there. sound.exprs m (items.Inst inst) e has at there) path is.number
  row_of _ (assigned path m to from k s b leads at reads drives) = link_row is.number path s b
  row_of _ (goes_in path m n inst at port e k s b leads has kind there way to reads drives) = link_row is.number path s b
  row_of _ (goes_out path m n inst at port e k a b leads has kind there way to reads drives) = link_row is.number path (Wire a) b

  rows : Each HasRawRow raw.cells
  rows k cell at = let c = behind d raw is sound k cell at in subst HasRawRow c.2 (row_of c.0 (is_cell d raw is sound c.0 (k, c.1)))

  bit_low : (b : Bit) (n : ℕ) → In bits b → is.number b ≡ n → n < net_count raw.groups
  bit_low b n (k, at) same = omega (arith, same, is.placed k b at, slice_get_within bits k b at, count_is)

  nets : NamesNets raw
  nets = record {
    outputs = λ c cell k n drives. (let own = driver d raw is sound c k n cell drives in bit_low own.to n own.knows own.numbered);
    inputs = λ c cell i n reads. (
        let own = behind d raw is sound c cell reads.at in
        let b = at_in d raw is sound own.0 i n (ap (λ (o : RawCell). slice_get o.ins i) own.2 ∙ reads.from) in
        bit_low b.0 n (cell_reads d raw is sound own.0 b.0 (is_cell d raw is sound own.0 (c, own.1)) (i, b.1)) b.2);
    clocks = λ c cell net at clock. (
        let own = behind d raw is sound c cell at in
        let b = clock_wire is.number own.0.clock net (ap (λ (o : RawCell). clock_net o.clock) own.2 ∙ clock) in
        bit_low b.0 net.0 (known d raw is sound b.0 (clock_known d sound own.0 b.0 (is_cell d raw is sound own.0 (c, own.1)) b.1)) b.2);
  }

  -- Names

  path_spelled : (path : Path) (m : Module) → Leads d path m → (inst : List ℕ) → In path inst → IsIdentifier inst
  path_spelled _ m (at_top _ _) inst at = absurd (in_none inst at)
  path_spelled _ n (into path m _ own leads has kind) inst (zero, at) =
      subst IsIdentifier (same_Some own.name inst at) (spelled_identifier own.name (read.inst_names m own (leads_in d path m leads) has))
  path_spelled _ n (into path m _ own leads has kind) inst (suc k, at) = path_spelled path m leads inst (k, at)

  group_spelled : (g : DesignGroup) → In is.design_groups g → IsIdentifier (flat_name g.path g.name)
  group_spelled g at =
      let own = group_net g at in
      let decl = group_decl g own in
      flat_identifier g.path g.name (path_spelled g.path own.holder own.leads)
      (subst IsIdentifier decl.2 (spelled_identifier decl.0.name (read.declared_names own.holder decl.0 (leads_in d g.path own.holder own.leads) decl.1)))

  cell_spelled : (c : DesignCell) (own : List ℕ) → HasCell d c → c.name ≡ Some own → IsIdentifier (flat_name c.path own)
  cell_spelled _ own (gate path m g leads at) named = flat_identifier path own (path_spelled path m leads) (spelled_identifier own (read.gate_names m g own (leads_in d path m leads) at named))
  cell_spelled _ own (leaf path m inst cell leads at kind) named =
      flat_identifier path own (path_spelled path m leads) (subst IsIdentifier (same_Some inst.name own named) (spelled_identifier inst.name (read.inst_names m inst (leads_in d path m leads) at)))
  cell_spelled _ own (assigned path m to from k s b leads at reads drives) named = absurd (cc named)
  cell_spelled _ own (goes_in path m n inst at port e k s b leads has kind there way to reads drives) named = absurd (cc named)
  cell_spelled _ own (goes_out path m n inst at port e k a b leads has kind there way to reads drives) named = absurd (cc named)

  identifiers_are : raw_identifiers raw ≡ design_identifiers is.design_groups is.design_cells
  identifiers_are =
      ap (λ (groups : List Group). map (λ (group : Group). group.name) groups ++ filter_map (λ (cell : RawCell). cell.name) raw.cells) is.groups
      ∙ ap (λ names. names ++ filter_map (λ (cell : RawCell). cell.name) raw.cells) (map_of_map (λ (group : Group). group.name) (flat_group is.number) is.design_groups)
      ∙ ap (λ (cells : List RawCell). map (λ (g : DesignGroup). flat_name g.path g.name) is.design_groups ++ filter_map (λ (cell : RawCell). cell.name) cells) is.cells
      ∙ ap (λ names. map (λ (g : DesignGroup). flat_name g.path g.name) is.design_groups ++ names) (same_filter_map (raw_cell is.number) (λ (cell : RawCell). cell.name) cell_name is.design_cells (λ c. refl))

  spelling : Each IsIdentifier (raw_identifiers raw)
  spelling = subst (Each IsIdentifier) (sym identifiers_are) each
    where
      each : Each IsIdentifier (design_identifiers is.design_groups is.design_cells)
      each k name at = elim (in_append (map (λ (g : DesignGroup). flat_name g.path g.name) is.design_groups) (filter_map cell_name is.design_cells) name (k, at)) [
        | inl group ↦ (let g = map_in (λ (g : DesignGroup). flat_name g.path g.name) is.design_groups name group in subst IsIdentifier g.2 (group_spelled g.0 g.1))
        | inr cell ↦ (
            let c = filter_map_in cell_name is.design_cells name cell in
            let own = option_map_some (flat_name c.0.path) c.0.name name c.2 in
            subst IsIdentifier own.2 (cell_spelled c.0 own.0 (is_cell d raw is sound c.0 c.1) own.1))
      ]

  -- Limits

  module _ (limits : HasLimits d) where
    within : (kind : LimitKind) → In (Cells ∷ Pins ∷ Nets ∷ AllNames ∷ []) kind → amount kind is.design_groups is.design_cells ≤ greatest kind
    within kind at = limits kind (amount kind is.design_groups is.design_cells) (suc at.0, at.1) (unfolded kind is.design_groups is.design_cells at is.order)

    pins_are : (c : DesignCell) → raw_pin_count (raw_cell is.number c) ≡ cell_pins c
    pins_are c = omega (arith, length-map c.ins (pin is.number), length-map c.outs (option_map (λ b. net_id (is.number b))), clock_counts is.number c.clock)

    has_limits : HasRawLimits raw
    has_limits = record {
      cells = omega (arith, within Cells (0, refl), ap (λ (cells : List RawCell). length cells) is.cells, length-map is.design_cells (raw_cell is.number));
      nets = omega (arith, within Nets (2, refl), count_is);
      pins = (
          let same = ap (sum_by raw_pin_count) is.cells ∙ same_sum (raw_cell is.number) raw_pin_count cell_pins is.design_cells pins_are in
          omega (arith, within Pins (1, refl), same));
      names = omega (arith, within AllNames (3, refl), ap (sum_by length) identifiers_are);
    }

  -- The clock

  module _ (clock : HasClock d) where
    same_top : clock.top ≡ is.order.top
    same_top = same_Some clock.top is.order.top (sym clock.is_top ∙ is.order.is_top)

    clock_at : In is.order.top.ports d.clock
    clock_at = subst (λ (m : Module). In m.ports d.clock) same_top clock.port

    one_bit : (o : Option (Option Range)) → option_map range_width o ≡ Some 1 → option_map_or range_width o 0 ≡ 1
    one_bit None same = absurd (cc same)
    one_bit (Some range) same = same_Some (range_width range) 1 same

    clock_length : length (net_bits is.order.top [] d.clock) ≡ 1
    clock_length = net_length is.order.top [] d.clock ∙ one_bit (range_of is.order.top d.clock) (ap (λ (m : Module). net_width m d.clock) (sym same_top) ∙ clock.width)

    in_clock : (b : Bit) → In (net_bits is.order.top [] d.clock) b → In (clock_bits d) b
    in_clock b at =
        subst (λ o. In (option_map_or (λ (m : Module). flat_map (net_bits m []) (filter (λ port. bytes_eq port d.clock) m.ports)) o []) b) (sym is.order.is_top)
        (in_flat_map (net_bits is.order.top []) (filter (λ port. bytes_eq port d.clock) is.order.top.ports) d.clock b
        (filter_at (λ port. bytes_eq port d.clock) is.order.top.ports clock_at.0 d.clock clock_at.1 (same_names d.clock d.clock refl)) at)

    clock_number : (bs : List Bit) → length bs ≡ 1 → ((b : Bit) → In bs b → In (clock_bits d) b) → map is.number bs ≡ raw.clock.0 ∷ []
    clock_number [] size each = absurd (omega (arith, size))
    clock_number (b ∷ []) size each = ap (λ (n : ℕ). n ∷ []) (sym (clock_to d raw is sound b (each b (0, refl))))
    clock_number (a ∷ b ∷ bs) size each = absurd (omega (arith, size))

    clock_port : HasClockPort raw
    clock_port = record {
      port = flat_port is.order.top (d.clock, clock_at.0);
      place = clock_at.0;
      at = ap (λ (ports : List Port). slice_get ports clock_at.0) is.ports ∙ slice_get-map (flat_port is.order.top) (numbered_from 0 is.order.top.ports) clock_at.0
          ∙ ap (option_map (flat_port is.order.top)) (numbered_at is.order.top.ports clock_at.0 d.clock clock_at.1);
      input = ap (λ (m : Module). is_output (direction_of m d.clock)) (sym same_top) ∙ ap is_output clock.input;
      bit = raw_nets_at d raw is sound clock_at.0 d.clock clock_at.1 ∙ clock_number (net_bits is.order.top [] d.clock) clock_length in_clock;
    }

    pub is_unfolded : HasLimits d → IsUnfolded raw
    is_unfolded limits = record {
      numbering = numbering;
      port_order = port_order;
      port_groups = port_groups;
      ranges = ranges;
      rows = rows;
      nets = nets;
      clock_port = clock_port;
      spelling = spelling;
      limits = has_limits limits;
    }
