-- The raw netlist of a plan: its ports, its clock, and its groups and cells in order.
use Rattle.std.proofs.Common.{◌≡◌, ℕ, zero, suc, ◌+◌, ◌<◌, ◌≤◌, Bool, true, false, if◌then◌else◌, List, [], ◌∷◌, ◌++◌, length, map, take, get_or, slice_get, Option, Some, None, refl, ap, sym, subst, ◌∙◌, arith, add-zero, append-nil, length-append, true≢false}
use Rattle.std.specs.List.{flat_map, filter}
use Rattle.std.specs.Option.{option_map, option_map_or, option_and_then}
use Rattle.std.specs.Str.{bytes_eq}
use Rattle.std.proofs.lemmas.List.{take_more, length-map, length-take-le}
use Rattle.std.proofs.lemmas.Option.{same_Some, slice_get-get_or, slice_get_within}
use Rattle.net_core.specs.declared.parts.NetId.{NetId}
use Rattle.net_core.specs.declared.parts.Port.{Port}
use Rattle.net_core.specs.declared.parts.Group.{Group}
use Rattle.net_core.specs.WellFormed.{AllDiffer}
use Rattle.flat_settle.specs.declared.raw.Raw.{Raw}
use Rattle.flat_settle.specs.declared.raw.RawCell.{RawCell}
use Rattle.vlog_parse.specs.declared.tree.Module.{Module}
use Rattle.vlog_parse.specs.declared.tree.Range.{Range}
use Rattle.vlog_parse.specs.ReadTree.{In}
use Rattle.vlog_check.specs.Checked.{IsChecked}
use Rattle.vlog_check.specs.Scope.{module_number, numbered_from, range_width, net_width}
use Rattle.elab_design.specs.Design.{Bit, bit_of, indices, net_bits, Design, IsTop, at_top}
use Rattle.elab_design.specs.DesignRuns.{clock_bits}
use Rattle.elab_design.specs.Limits.{HasClock}
use Rattle.elab_design.specs.Order.{DesignGroup, group_bits, FlatOrder}
use Rattle.elab_design.specs.Raw.{flat_group, raw_cell, flat_port, flat_ports, IsPlaced, place_among, IsRawOf}
use Rattle.elab_design.proofs.Lists.{in_none}
use Rattle.elab_design.proofs.MentionLaws.{names_same, same_names}
use Rattle.elab_design.proofs.DifferLaws.{differ_tail, differ_head}
use Rattle.elab_design.proofs.SoundLaws.{IsSoundDesign, sound_design, leads_in}
use Rattle.elab_design.proofs.PortLaws.{group_at}
use Rattle.elab_design.proofs.BitLaws.{order_differs, placed_by}
use Rattle.elab_unfold.specs.declared.places.Net.{Net}
use Rattle.elab_unfold.specs.declared.shape.PortNet.{PortNet}
use Rattle.elab_unfold.specs.declared.shape.Shape.{Shape}
use Rattle.elab_unfold.specs.declared.shape.Plan.{Plan}
use Rattle.elab_unfold.specs.declared.state.State.{State}
use Rattle.elab_unfold.specs.Places.{net_of, Fits}
use Rattle.elab_unfold.specs.Shapes.{port_seen, port_entry, IsRight, shape_size, design_of}
use Rattle.elab_unfold.specs.Adding.{Numbers, Adds}
use Rattle.elab_unfold.specs.Whole.{IsWhole}
use Rattle.elab_unfold.specs.Parts.{ports_of, first_bit, clock_of}
use Rattle.elab_unfold.proofs.NetLaws.{length-indices, net_there, net_known}
use Rattle.elab_unfold.proofs.DeepLaws.{fits_first}

-- Ports

ports_push : (ports : List PortNet) (port : PortNet) (k : ℕ) → ports_of k (ports ++ port ∷ []) ≡ ports_of k ports ++ record { group = k + length ports; output = port.output } ∷ []
ports_push [] port k = ap (λ n. record { group = n; output = port.output } ∷ []) (sym (add-zero k))
ports_push (x ∷ ports) port k =
    let same : (k + 1) + length ports ≡ k + suc (length ports) = omega arith in
    ap (λ rest. record { group = k; output = x.output } ∷ rest) (ports_push ports port (k + 1) ∙ ap (λ n. ports_of (k + 1) ports ++ record { group = n; output = port.output } ∷ []) same)

pub ports_step : (ports : List PortNet) (k : ℕ) (d : PortNet) (old new : List Port) → k < length ports → old ≡ ports_of 0 (take k ports)
    → new ≡ old ++ record { group = k; output = (get_or ports k d).output } ∷ [] → new ≡ ports_of 0 (take (k + 1) ports)
ports_step ports k d old new low was is =
    let long : k ≡ 0 + length (take k ports) = omega (arith, length-take-le k ports (omega (arith, low))) in
    is ∙ ap (λ ps. ps ++ record { group = k; output = (get_or ports k d).output } ∷ []) was
    ∙ ap (λ n. ports_of 0 (take k ports) ++ record { group = n; output = (get_or ports k d).output } ∷ []) long
    ∙ sym (ports_push (take k ports) (get_or ports k d) 0)
    ∙ ap (ports_of 0) (sym (take_more ports k d low))

same_heads : {X : Type 0} (x y : X) (xs ys : List X) → (x ∷ xs) ≡ (y ∷ ys) → x ≡ y
same_heads x y xs ys e = cc e

same_tails : {X : Type 0} (x y : X) (xs ys : List X) → (x ∷ xs) ≡ (y ∷ ys) → xs ≡ ys
same_tails x y xs ys e = cc e

ports_are : (m : Module) (ports : List PortNet) (names : List (List ℕ)) (k : ℕ) → map port_seen ports ≡ map (port_entry m) names → ports_of k ports ≡ map (flat_port m) (numbered_from k names)
ports_are m [] [] k same = refl
ports_are m [] (name ∷ names) k same = absurd (cc same)
ports_are m (port ∷ ports) [] k same = absurd (cc same)
ports_are m (port ∷ ports) (name ∷ names) k same =
    ap (λ (e : List ℕ × Bool × Option Net). record { group = k; output = e.1 } ∷ ports_of (k + 1) ports) (same_heads (port_seen port) (port_entry m name) (map port_seen ports) (map (port_entry m) names) same)
    ∙ ap (λ rest. flat_port m (name, k) ∷ rest) (ports_are m ports names (k + 1) (same_tails (port_seen port) (port_entry m name) (map port_seen ports) (map (port_entry m) names) same))

-- The clock

-- a name that isn't that of the first is among the rest
behind : (x name : List ℕ) (names : List (List ℕ)) → bytes_eq x name ≡ false → In (x ∷ names) name → In names name
behind x name names other (zero, at) = absurd (true≢false (sym (same_names x name (same_Some x name at)) ∙ other))
behind x name names other (suc k, at) = (k, at)

clock_found : (m : Module) (ports : List PortNet) (names : List (List ℕ)) (name : List ℕ) → map port_seen ports ≡ map (port_entry m) names → In names name → clock_of ports name ≡ first_bit (net_of m name)
clock_found m [] [] name same at = absurd (in_none name at)
clock_found m [] (x ∷ names) name same at = absurd (cc same)
clock_found m (port ∷ ports) [] name same at = absurd (cc same)
clock_found m (port ∷ ports) (x ∷ names) name same at =
    by (bytes_eq port.name.now name) refl (clock_found m ports names name (same_tails (port_seen port) (port_entry m x) (map port_seen ports) (map (port_entry m) names) same))
  where
    entry : port_seen port ≡ port_entry m x
    entry = same_heads (port_seen port) (port_entry m x) (map port_seen ports) (map (port_entry m) names) same

    called : port.name.now ≡ x
    called = ap (λ (e : List ℕ × Bool × Option Net). e.0) entry

    by : (b : Bool) → bytes_eq port.name.now name ≡ b → (In names name → clock_of ports name ≡ first_bit (net_of m name)) → (if b then first_bit port.net else clock_of ports name) ≡ first_bit (net_of m name)
    by true is rest = ap (λ (e : List ℕ × Bool × Option Net). first_bit e.2) entry ∙ ap (λ n. first_bit (net_of m n)) (sym called ∙ names_same port.name.now name is)
    by false other rest = rest (behind x name names (ap (λ n. bytes_eq n name) (sym called) ∙ other) at)

-- of names that differ one is picked

none_picked : (names : List (List ℕ)) (name : List ℕ) → (In names name → ⊥) → filter (λ x. bytes_eq x name) names ≡ []
none_picked [] name none = refl
none_picked (x ∷ names) name none = by (bytes_eq x name) refl (none_picked names name (λ at. none (suc at.0, at.1)))
  where
    by : (b : Bool) → bytes_eq x name ≡ b → filter (λ y. bytes_eq y name) names ≡ [] → (if b then x ∷ filter (λ y. bytes_eq y name) names else filter (λ y. bytes_eq y name) names) ≡ []
    by true is rest = absurd (none (0, ap (λ y. Some y) (names_same x name is)))
    by false other rest = rest

one_picked : (names : List (List ℕ)) (name : List ℕ) → AllDiffer names → In names name → filter (λ x. bytes_eq x name) names ≡ name ∷ []
one_picked [] name differ at = absurd (in_none name at)
one_picked (x ∷ names) name differ at = by (bytes_eq x name) refl (one_picked names name (differ_tail x names differ))
  where
    by : (b : Bool) → bytes_eq x name ≡ b → (In names name → filter (λ y. bytes_eq y name) names ≡ name ∷ [])
        → (if b then x ∷ filter (λ y. bytes_eq y name) names else filter (λ y. bytes_eq y name) names) ≡ name ∷ []
    by true is rest =
        let same = names_same x name is in
        ap (λ ys. x ∷ ys) (none_picked names name (λ there. differ_head x names differ (subst (In names) (sym same) there))) ∙ ap (λ y. y ∷ []) same
    by false other rest = rest (behind x name names other at)

one_of : {X : Type 0} (xs : List X) → length xs ≡ 1 → (x : X) × (xs ≡ x ∷ [])
one_of [] size = absurd (omega (arith, size))
one_of (x ∷ []) size = (x, refl)
one_of (x ∷ y ∷ xs) size = absurd (omega (arith, size))

-- How many there are

wide : (range : Option Range) → 1 ≤ range_width range
wide None = omega arith
wide (Some r) = omega arith

bits_of_groups : (groups : List DesignGroup) → length groups ≤ length (flat_map group_bits groups)
bits_of_groups [] = omega arith
bits_of_groups (g ∷ groups) =
    omega (arith, length-append (group_bits g) (flat_map group_bits groups), length-map (indices g.range) (bit_of g.path g.name), length-indices g.range, wide g.range, bits_of_groups groups)

few_ports : (d : Design) (raw : Raw) (is : IsRawOf d raw) → IsSoundDesign d → (n : ℕ) → n ≡ length is.order.top.ports → n ≤ length is.design_groups
few_ports d raw is sound zero size = omega arith
few_ports d raw is sound (suc k) size =
    let name : List ℕ = get_or is.order.top.ports k [] in
    let there : slice_get is.order.top.ports k ≡ Some name = slice_get-get_or is.order.top.ports k [] (omega (arith, size)) in
    let range = sound.ports_declared is.order.top name (leads_in d [] is.order.top (at_top is.order.top is.order.is_top)) (k, there) in
    let low = slice_get_within is.design_groups k (record { path = []; name = name; range = range.0 }) (group_at d raw is sound k name range.0 there range.1) in
    omega (arith, low)

-- The design of a plan

module _ (plan : Plan) (state : State) (whole : IsWhole plan state) (shape : Shape) (right : IsRight plan plan.top shape) (checked : IsChecked plan.tree.now plan.name.now) (clock : HasClock (design_of plan)) (is : module_number plan.tree.now plan.name.now ≡ Some plan.top) where
  abbrev d : Design
  d = design_of plan

  abbrev m : Module
  m = shape.places.holder.now

  abbrev adds : Adds (design_of plan) m [] whole.old state
  adds = whole.adds m right.at

  is_top : IsTop d m
  is_top = ap (option_and_then (slice_get plan.tree.now.modules)) is ∙ right.at

  abbrev order : FlatOrder d adds.groups adds.cells
  order = record { top = m; is_top = is_top; all_groups = adds.all_groups; all_cells = adds.all_cells }

  abbrev bits : List Bit
  bits = flat_map group_bits adds.groups

  abbrev number : Bit → ℕ
  number = place_among bits

  placed : IsPlaced number bits
  placed = placed_by bits (order_differs d checked.clean adds.groups adds.cells order)

  rise : Numbers number whole.old.nets bits
  rise k b at = placed k b at ∙ omega (arith, whole.no_nets)

  groups_are : state.groups ≡ map (flat_group number) adds.groups
  groups_are = adds.added.new_groups number rise ∙ ap (λ (gs : List Group). gs ++ map (flat_group number) adds.groups) whole.empty_groups

  cells_are : state.cells ≡ map (raw_cell number) adds.cells
  cells_are = adds.added.new_cells number rise ∙ ap (λ (cs : List RawCell). cs ++ map (raw_cell number) adds.cells) whole.empty_cells

  sound : IsSoundDesign d
  sound = sound_design d checked

  among : In d.tree.modules m
  among = leads_in d [] m (at_top m is_top)

  same_top : clock.top ≡ m
  same_top = same_Some clock.top m (sym clock.is_top ∙ is_top)

  clock_at : In m.ports d.clock
  clock_at = subst (λ (x : Module). In x.ports d.clock) same_top clock.port

  abbrev clock_net : (net : Net) × (net_of m d.clock ≡ Some net)
  clock_net =
      let declares = sound.ports_declared m d.clock among clock_at in
      let net = net_there m d.clock declares.0 declares.1 in
      (net.0, net.1)

  narrow : range_width clock_net.0.range ≡ 1
  narrow =
      same_Some (range_width clock_net.0.range) 1
      (ap (option_map range_width) (sym (net_known m d.clock clock_net.0 clock_net.1)) ∙ ap (λ (x : Module). net_width x d.clock) (sym same_top) ∙ clock.width)

  abbrev index : (i : ℕ) × (indices clock_net.0.range ≡ i ∷ [])
  index = one_of (indices clock_net.0.range) (length-indices clock_net.0.range ∙ narrow)

  fits : Fits m [] whole.old.nets number
  fits = fits_first m [] whole.old.nets number adds.groups adds.all_groups.inner adds.all_groups.all rise

  clock_bit : number (bit_of [] d.clock index.0) ≡ clock_net.0.first
  clock_bit = fits.at d.clock clock_net.0 0 index.0 clock_net.1 (ap (λ xs. slice_get xs 0) index.1) ∙ omega (arith, whole.no_nets)

  clock_bits_are : clock_bits d ≡ bit_of [] d.clock index.0 ∷ []
  clock_bits_are =
      ap (λ o. option_map_or (λ (x : Module). flat_map (net_bits x []) (filter (λ port. bytes_eq port d.clock) x.ports)) o []) is_top
      ∙ ap (flat_map (net_bits m [])) (one_picked m.ports d.clock (sound.ports_differ m among) clock_at)
      ∙ append-nil (net_bits m [] d.clock)
      ∙ ap (λ o. option_map_or (λ range. map (bit_of [] d.clock) (indices range)) o []) (net_known m d.clock clock_net.0 clock_net.1)
      ∙ ap (map (bit_of [] d.clock)) index.1

  raw_with : (ports : List Port) (first : NetId) → ports ≡ flat_ports m → first ≡ first_bit (net_of m d.clock) → IsRawOf d (record { groups = state.groups; cells = state.cells; ports = ports; clock = first })
  raw_with ports first same_ports same_first = record {
    design_groups = adds.groups;
    design_cells = adds.cells;
    order = order;
    number = number;
    placed = placed;
    groups = groups_are;
    cells = cells_are;
    ports = same_ports;
    clock = ap (map number) clock_bits_are ∙ ap (λ n. n ∷ []) (clock_bit ∙ ap (λ o. (first_bit o).0) (sym clock_net.1) ∙ ap (λ (id : NetId). id.0) (sym same_first));
  }

  pub port_count : length shape.ports.items ≤ shape_size plan plan.top
  unfolding raw_with
  port_count =
      let raw = raw_with (flat_ports m) (first_bit (net_of m d.clock)) refl refl in
      let few = few_ports d (record { groups = state.groups; cells = state.cells; ports = flat_ports m; clock = first_bit (net_of m d.clock) }) raw sound (length m.ports) refl in
      let long : length shape.ports.items ≡ length m.ports = sym (length-map shape.ports.items port_seen) ∙ ap length right.right.ports ∙ length-map m.ports (port_entry m) in
      omega (arith, few, long, bits_of_groups adds.groups, adds.added.nets, whole.no_nets, whole.nets)

  pub raw_is : (given : List PortNet) (ports : List Port) (first : NetId) → given ≡ shape.ports.items → ports ≡ ports_of 0 given → first ≡ clock_of given d.clock → IsRawOf d (record { groups = state.groups; cells = state.cells; ports = ports; clock = first })
  raw_is given ports first same own_ports own_first =
      raw_with ports first
      (own_ports ∙ ap (ports_of 0) same ∙ ports_are m shape.ports.items m.ports 0 right.right.ports)
      (own_first ∙ ap (λ kept. clock_of kept d.clock) same ∙ clock_found m shape.ports.items m.ports d.clock right.right.ports clock_at)
