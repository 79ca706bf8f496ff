-- The groups of the top's ports, and the bits of its inputs.
use Rattle.std.proofs.Common.{◌≡◌, ℕ, zero, suc, ◌+◌, Bool, true, false, not, cond, ◌||◌, if◌then◌else◌, List, [], ◌∷◌, ◌++◌, map, slice_get, Option, Some, refl, ap, sym, ◌∙◌, arith, inl, inr}
use Rattle.std.specs.List.{flat_map, filter, filter_map, cons_option}
use Rattle.std.specs.Option.{option_map, option_map_or}
use Rattle.std.specs.Str.{bytes_eq}
use Rattle.std.proofs.lemmas.Option.{same_Some, slice_get-map}
use Rattle.net_core.specs.declared.parts.NetId.{NetId}
use Rattle.net_core.specs.declared.parts.Group.{Group}
use Rattle.net_core.specs.declared.parts.Port.{Port}
use Rattle.net_core.specs.Netlist.{port_nets, group_nets, input_bits}
use Rattle.net_core.specs.WellFormed.{AllDiffer}
use Rattle.net_core.proofs.ListLemmas.{slice_get_left}
use Rattle.vlog_parse.specs.declared.tree.Module.{Module}
use Rattle.vlog_parse.specs.declared.tree.Range.{Range}
use Rattle.vlog_parse.specs.ReadTree.{In}
use Rattle.vlog_check.specs.Scope.{is_among, numbered_from, range_of, declared}
use Rattle.flat_settle.specs.declared.raw.Raw.{Raw}
use Rattle.flat_settle.specs.Raw.{with_cells}
use Rattle.elab_design.specs.DesignCells.{DesignCell}
use Rattle.elab_design.specs.Design.{Bit, bit_of, indices, net_bits, Design, at_top}
use Rattle.elab_design.specs.DesignRuns.{is_input_port, top_inputs}
use Rattle.elab_design.specs.Order.{DesignGroup, group_bits, first_mentions, net_names, net_group, own_groups, FlatOrder}
use Rattle.elab_design.specs.Raw.{net_id, flat_group, flat_port, IsRawOf}
use Rattle.elab_design.proofs.Lists.{map_of_map}
use Rattle.elab_design.proofs.MentionLaws.{names_same, either_way, among_more}
use Rattle.elab_design.proofs.SoundLaws.{IsSoundDesign, leads_in}

-- names that differ and weren't mentioned before are first mentions
first_ports : (before ports rest : List (List ℕ)) → ((name : List ℕ) → In ports name → is_among before name ≡ false) → AllDiffer ports
    → (more : List (List ℕ)) × (first_mentions before (ports ++ rest) ≡ ports ++ more)
first_ports before [] rest fresh differ = (first_mentions before rest, refl)
first_ports before (x ∷ ports) rest fresh differ =
    let later = first_ports (x ∷ before) ports rest unmentioned (λ i j name at there. (let e : suc i ≡ suc j = differ (suc i) (suc j) name at there in omega (arith, e))) in
    (later.0, ap (λ b. if b then first_mentions before (ports ++ rest) else x ∷ first_mentions (x ∷ before) (ports ++ rest)) (fresh x (0, refl)) ∙ ap (λ names. x ∷ names) later.1)
  where
    unmentioned : (name : List ℕ) → In ports name → is_among (x ∷ before) name ≡ false
    unmentioned name (k, at) = elim (either_way (bytes_eq name x)) [
      | inl same ↦ (let e : 0 ≡ suc k = differ 0 (suc k) name (ap (λ y. Some y) (sym (names_same name x same))) at in absurd (omega (arith, e)))
      | inr other ↦ among_more x name before ∙ ap (λ b. b || is_among before name) other ∙ fresh name (suc k, at)
    ]

-- where each of the first items gives something, it keeps its place
filtered_at : {X Y : Type 0} (f : X → Option Y) (xs more : List X) (k : ℕ) (x : X) (y : Y) → ((z : X) → In xs z → (w : Y) × (f z ≡ Some w)) → slice_get xs k ≡ Some x → f x ≡ Some y
    → slice_get (filter_map f (xs ++ more)) k ≡ Some y
filtered_at f [] more k x y gives at is = absurd (cc at)
filtered_at f (z ∷ xs) more zero x y gives at is = ap (λ o. slice_get (cons_option o (filter_map f (xs ++ more))) 0) (ap f (same_Some z x at) ∙ is)
filtered_at f (z ∷ xs) more (suc k) x y gives at is =
    let own = gives z (0, refl) in
    ap (λ o. slice_get (cons_option o (filter_map f (xs ++ more))) (suc k)) own.1 ∙ filtered_at f xs more k x y (λ w there. gives w (suc there.0, there.1)) at is

pub joined_map : {X Y : Type 0} (f : X → Y) (xs ys : List X) → map f xs ++ map f ys ≡ map f (xs ++ ys)
joined_map f [] ys = refl
joined_map f (x ∷ xs) ys = ap (λ zs. f x ∷ zs) (joined_map f xs ys)

module _ (d : Design) (design_groups : List DesignGroup) (design_cells : List DesignCell) (groups : List Group) (number : Bit → ℕ) (order : FlatOrder d design_groups design_cells)
    (same_groups : groups ≡ map (flat_group number) design_groups) (sound : IsSoundDesign d) where
  abbrev top : Module
  top = order.top

  top_in : In d.tree.modules top
  top_in = leads_in d [] top (at_top top order.is_top)

  names_begin : (more : List (List ℕ)) × (net_names top ≡ top.ports ++ more)
  names_begin = first_ports [] top.ports (map (λ (e : List ℕ × Option Range). e.0) (declared top.items)) (λ name at. refl) (sound.ports_differ top top_in)

  port_group : (name : List ℕ) → In top.ports name → (g : DesignGroup) × (net_group top [] name ≡ Some g)
  port_group name at =
      let own = sound.ports_declared top name top_in at in
      (record { path = []; name = name; range = own.0 }, ap (option_map (λ range. record { path = []; name = name; range = range })) own.1)

  -- the group of a port has the port's place
  group_placed : (k : ℕ) (name : List ℕ) (range : Option Range) → slice_get top.ports k ≡ Some name → range_of top name ≡ Some range
      → slice_get design_groups k ≡ Some (record { path = []; name = name; range = range })
  group_placed k name range at declares =
      ap (λ (gs : List DesignGroup). slice_get gs k) order.all_groups.all
      ∙ slice_get_left (own_groups top []) order.all_groups.inner k (record { path = []; name = name; range = range })
      (ap (λ names. slice_get (filter_map (net_group top []) names) k) names_begin.1
      ∙ filtered_at (net_group top []) top.ports names_begin.0 k name (record { path = []; name = name; range = range }) port_group at
      (ap (option_map (λ r. record { path = []; name = name; range = r })) declares))

  -- the group of a port, with its name and its bits
  pub port_is : (k : ℕ) (name : List ℕ) → slice_get top.ports k ≡ Some name → (g : DesignGroup) × (slice_get groups k ≡ Some (flat_group number g)) × (g.path ≡ []) × (g.name ≡ name)
  port_is k name at =
      let own = sound.ports_declared top name top_in (k, at) in
      let g : DesignGroup = record { path = []; name = name; range = own.0 } in
      (g, ap (λ (gs : List Group). slice_get gs k) same_groups ∙ slice_get-map (flat_group number) design_groups k ∙ ap (option_map (flat_group number)) (group_placed k name own.0 at own.1), refl, refl)

  pub nets_at : (k : ℕ) (name : List ℕ) → slice_get top.ports k ≡ Some name → port_nets groups (flat_port top (name, k)) ≡ map number (net_bits top [] name)
  nets_at k name at =
      let own = sound.ports_declared top name top_in (k, at) in
      let g : DesignGroup = record { path = []; name = name; range = own.0 } in
      let there : slice_get groups k ≡ Some (flat_group number g) =
      ap (λ (gs : List Group). slice_get gs k) same_groups ∙ slice_get-map (flat_group number) design_groups k ∙ ap (option_map (flat_group number)) (group_placed k name own.0 at own.1) in
      ap (λ o. option_map_or group_nets o []) there
      ∙ map_of_map (λ (id : NetId). id.0) (λ b. net_id (number b)) (group_bits g)
      ∙ ap (λ o. map number (option_map_or (λ range. map (bit_of [] name) (indices range)) o [])) (sym own.1)

  abbrev input_ports : ℕ → List (List ℕ) → List Port
  input_ports a names = filter (λ (port : Port). not port.output) (map (flat_port top) (numbered_from a names))

  pub inputs_from : (a : ℕ) (names : List (List ℕ)) → ((k : ℕ) (name : List ℕ) → slice_get names k ≡ Some name → port_nets groups (flat_port top (name, a + k)) ≡ map number (net_bits top [] name))
      → flat_map (port_nets groups) (input_ports a names) ≡ map number (flat_map (net_bits top []) (filter (is_input_port top) names))
  inputs_from a [] each = refl
  inputs_from a (name ∷ names) each = by (is_input_port top name) (inputs_from (a + 1) names (λ k other at. (let e : a + 1 + k ≡ a + suc k = omega arith in ap (λ n. port_nets groups (flat_port top (other, n))) e ∙ each (suc k) other at)))
    where
      first : port_nets groups (flat_port top (name, a)) ≡ map number (net_bits top [] name)
      first = (let e : a ≡ a + 0 = omega arith in ap (λ n. port_nets groups (flat_port top (name, n))) e) ∙ each 0 name refl

      by : (b : Bool) → flat_map (port_nets groups) (input_ports (a + 1) names) ≡ map number (flat_map (net_bits top []) (filter (is_input_port top) names))
          → flat_map (port_nets groups) (cond b (flat_port top (name, a) ∷ input_ports (a + 1) names) (input_ports (a + 1) names))
          ≡ map number (flat_map (net_bits top []) (cond b (name ∷ filter (is_input_port top) names) (filter (is_input_port top) names)))
      by true later =
          ap (λ nets. nets ++ flat_map (port_nets groups) (input_ports (a + 1) names)) first ∙ ap (λ nets. map number (net_bits top [] name) ++ nets) later
          ∙ joined_map number (net_bits top [] name) (flat_map (net_bits top []) (filter (is_input_port top) names))
      by false later = later

module _ (d : Design) (raw : Raw) (is : IsRawOf d raw) (sound : IsSoundDesign d) where
  pub group_at : (k : ℕ) (name : List ℕ) (range : Option Range) → slice_get is.order.top.ports k ≡ Some name → range_of is.order.top name ≡ Some range
      → slice_get is.design_groups k ≡ Some (record { path = []; name = name; range = range })
  group_at k name range at declares = group_placed d is.design_groups is.design_cells raw.groups is.number is.order is.groups sound k name range at declares

  pub raw_nets_at : (k : ℕ) (name : List ℕ) → slice_get is.order.top.ports k ≡ Some name → port_nets raw.groups (flat_port is.order.top (name, k)) ≡ map is.number (net_bits is.order.top [] name)
  raw_nets_at k name at = nets_at d is.design_groups is.design_cells raw.groups is.number is.order is.groups sound k name at

  -- the bits of the inputs are those of the design's top
  pub inputs_are : input_bits (with_cells raw []) ≡ map is.number (top_inputs d)
  inputs_are =
      ap (λ (ports : List Port). flat_map (port_nets raw.groups) (filter (λ (port : Port). not port.output) ports)) is.ports
      ∙ inputs_from d is.design_groups is.design_cells raw.groups is.number is.order is.groups sound 0 is.order.top.ports (λ k name at. (let e : 0 + k ≡ k = omega arith in ap (λ n. port_nets raw.groups (flat_port is.order.top (name, n))) e ∙ nets_at d is.design_groups is.design_cells raw.groups is.number is.order is.groups sound k name at))
      ∙ ap (λ o. map is.number (option_map_or (λ (m : Module). flat_map (net_bits m []) (filter (is_input_port m) m.ports)) o [])) (sym is.order.is_top)
