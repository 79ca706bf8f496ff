-- The ports of a flat netlist: their bits, and which of them carry the clock.
use Rattle.std.proofs.Common.{◌≡◌, ℕ, Bool, true, false, not, List, [], ◌∷◌, map, slice_get, Option, Some, None, refl, ap, sym, ◌∙◌, subst, true≢false, inl, inr}
use Rattle.std.specs.List.{flat_map, filter}
use Rattle.net_core.proofs.PartsLemmas.{filter_some, filter_at}
use Rattle.std.specs.Option.{option_map, option_map_or}
use Rattle.std.specs.Str.{bytes_eq}
use Rattle.std.proofs.lemmas.Bool.{false_from_ne_true}
use Rattle.std.proofs.lemmas.Option.{same_Some, slice_get-map}
use Rattle.net_core.specs.declared.parts.Cell.{Cell}
use Rattle.net_core.specs.declared.parts.Port.{Port}
use Rattle.net_core.specs.Netlist.{Netlist, parts_of, IsIn, IsBuffered, itself, through, IsClockPort, IsDriven, input_bits, port_nets, group_nets, is_driven, is_clock}
use Rattle.net_core.specs.WellFormed.{IsFlat}
use Rattle.vlog_parse.specs.declared.tree.Module.{Module}
use Rattle.vlog_parse.specs.ReadTree.{In}
use Rattle.vlog_parse.specs.declared.tree.Range.{Range}
use Rattle.vlog_check.specs.Scope.{range_of, direction_of, is_output, numbered_from}
use Rattle.vlog_check.specs.Checked.{IsChecked}
use Rattle.elab_design.specs.Design.{Path, Bit, Wire, bit_of, indices, net_bits, Design, at_top, IsNetBit}
use Rattle.elab_design.specs.DesignCells.{DesignCell, HasCell, link}
use Rattle.elab_design.specs.DesignRuns.{is_input_port, clock_bits, InClock, clock_port, handed_on, Driven, from_cell, from_driven, IsKept}
use Rattle.elab_design.specs.Order.{group_bits}
use Rattle.elab_design.specs.Raw.{net_id, flat_group, flat_port}
use Rattle.elab_design.specs.Names.{flat_name}
use Rattle.elab_design.specs.Elaborates.{flat_cell, Elaborates, HasFlatPort}
use Rattle.elab_design.proofs.Lists.{in_none, in_one, in_map, map_in, in_flat_map, flat_map_in, numbered_at}
use Rattle.elab_design.proofs.SoundLaws.{IsSoundDesign, sound_design}
use Rattle.elab_design.proofs.GroupLaws.{bit_listed}
use Rattle.elab_design.proofs.OrderLaws.{unfolds_all}
use Rattle.elab_design.proofs.DrivenLaws.{one_link}
use Rattle.elab_design.proofs.SettledLaws.{in_kept}
use Rattle.elab_design.proofs.PortLaws.{port_is, nets_at}

-- an input bit of a flat netlist is driven
input_bit : (net : Netlist) (place : ℕ) (port : Port) (i n : ℕ) → slice_get net.ports place ≡ Some port → port.output ≡ false → slice_get (port_nets net.groups port) i ≡ Some n → IsIn (input_bits (parts_of net)) n
input_bit net place port i n at way bit =
    let picked = filter_at (λ (p : Port). not p.output) net.ports place port at (ap not way) in
    in_flat_map (port_nets net.groups) (filter (λ (p : Port). not p.output) net.ports) port n picked (i, bit)

clock_driven : (net : Netlist) → IsFlat net → (n : ℕ) → is_clock net n ≡ true → is_driven net n ≡ true
clock_driven net flat n is =
    let clock = (flat.tables.clocked n).0 is in
    (flat.tables.driven n).1 (from clock.0 n clock.1 clock.2)
  where
    from : (bit n : ℕ) → IsClockPort (parts_of net) bit → IsBuffered net.cells bit n → IsDriven (parts_of net) n
    from bit _ port itself = inl (input_bit net port.place port.port 0 bit port.at port.input (ap (λ ns. slice_get ns 0) port.bit))
    from bit n port (through c cell k buffer reads drives rest) = inr (c, cell, k, drives)

module _ (d : Design) (net : Netlist) (checked : IsChecked d.tree d.top) (flat : IsFlat net) (el : Elaborates d net) where
  abbrev top : Module
  top = el.order.top

  sound : IsSoundDesign d
  sound = sound_design d checked

  -- the bits of the top's nets are net bits
  top_bit : (name : List ℕ) (b : Bit) → In (net_bits top [] name) b → In (flat_map group_bits el.design_groups) b
  top_bit name b at = bit_listed d top el.order.is_top el.design_groups el.order.all_groups b (by (range_of top name) refl at)
    where
      by : (o : Option (Option Range)) → range_of top name ≡ o → In (option_map_or (λ range. map (bit_of [] name) (indices range)) o []) b → IsNetBit d b
      by None is at = absurd (in_none b at)
      by (Some range) is at =
          let i = map_in (bit_of [] name) (indices range) b at in
          subst (IsNetBit d) i.2 (record {
            holder = top;
            leads = at_top top el.order.is_top;
            among = subst (λ (o : Option (Option Range)). In (option_map_or (λ range. map (bit_of [] name) (indices range)) o []) (bit_of [] name i.0)) (sym is) (in_map (bit_of [] name) (indices range) i.0 i.1);
          })

  bit_called : (name : List ℕ) (b : Bit) → In (net_bits top [] name) b → b.name ≡ name
  bit_called name b at = by (range_of top name) at
    where
      by : (o : Option (Option Range)) → In (option_map_or (λ range. map (bit_of [] name) (indices range)) o []) b → b.name ≡ name
      by None at = absurd (in_none b at)
      by (Some range) at = let i = map_in (bit_of [] name) (indices range) b at in sym (ap (λ (o : Bit). o.name) i.2)

  -- a bit of the clock port is one of a net of the top's
  clock_bit : (b : Bit) → In (clock_bits d) b → (name : List ℕ) × (bytes_eq name d.clock ≡ true) × In (net_bits top [] name) b
  clock_bit b at =
      let here : In (flat_map (net_bits top []) (filter (λ port. bytes_eq port d.clock) top.ports)) b =
      subst (λ o. In (option_map_or (λ (m : Module). flat_map (net_bits m []) (filter (λ port. bytes_eq port d.clock) m.ports)) o []) b) el.order.is_top at in
      let own = flat_map_in (net_bits top []) (filter (λ port. bytes_eq port d.clock) top.ports) b here in
      let picked = filter_some (λ port. bytes_eq port d.clock) top.ports own.1.0 own.0 own.1.1 in
      (own.0, picked.2, own.2)

  -- what carries the clock is driven
  clock_drives : (b : Bit) → InClock d b → Driven d b
  clock_drives b (clock_port _ at) =
      let own = clock_bit b at in
      let place = top_bit own.0 b own.2 in
      (el.driven place.0 b place.1).0 (clock_driven net flat place.0 ((el.clocked place.0 b place.1).1 (clock_port b at)))
  clock_drives b (handed_on c a _ has buffer reads drives before) = by c.link refl (clock_drives a before)
    where
      by : (t : Bool) → c.link ≡ t → Driven d a → Driven d b
      by false no_link driven = from_cell c b has no_link drives
      by true is_link driven =
          let one = one_link d c has is_link in
          let from_a : one.source ≡ Wire a = same_Some one.source (Wire a) (ap (λ (o : DesignCell). slice_get o.ins 0) (sym one.is) ∙ reads) in
          let to_b : one.to ≡ b = (let there : In (Some one.to ∷ []) (Some b) = subst (λ (o : DesignCell). In o.outs (Some b)) one.is drives in same_Some one.to b (in_one (Some one.to) (Some b) there)) in
          let cell : HasCell d (link one.path (Wire a) b) = subst (λ (o : DesignCell). HasCell d o) (one.is ∙ (ap (λ s. link one.path s one.to) from_a ∙ ap (link one.path (Wire a)) to_b)) has in
          from_driven one.path a b cell driven

  -- an input bit is on no output pin
  no_pin : (n : ℕ) (b : Bit) → slice_get (flat_map group_bits el.design_groups) n ≡ Some b → IsIn (input_bits (parts_of net)) n → (c : DesignCell) → HasCell d c → IsKept d c → In c.outs (Some b) → ⊥
  no_pin n b at input c has keep drives =
      let place = in_kept d el.design_cells el.left el.leaves c (unfolds_all d top el.order.is_top el.design_cells el.order.all_cells c has) keep in
      let cell : slice_get net.cells place.0 ≡ Some (flat_cell el.number c) =
      ap (λ (cells : List Cell). slice_get cells place.0) el.cells ∙ (slice_get-map (flat_cell el.number) el.left place.0 ∙ ap (option_map (flat_cell el.number)) place.1) in
      let pin : slice_get (flat_cell el.number c).outs drives.0 ≡ Some (Some (net_id n)) =
      slice_get-map (option_map (λ (x : Bit). net_id (el.number x))) c.outs drives.0
      ∙ (ap (option_map (option_map (λ (x : Bit). net_id (el.number x)))) drives.1 ∙ ap (λ k. Some (Some (net_id k))) (el.placed n b at)) in
      flat.formed.sources.no_driven_input n input (place.0, flat_cell el.number c, drives.0, record { at = cell; on = pin })

  -- of the bits of an input port those carry the clock whose port has the clock's name
  clock_named : (name : List ℕ) (b : Bit) (n : ℕ) → slice_get (flat_map group_bits el.design_groups) n ≡ Some b → In (net_bits top [] name) b → IsIn (input_bits (parts_of net)) n → InClock d b → bytes_eq name d.clock ≡ true
  clock_named name b n at own input (clock_port _ there) =
      let clock = clock_bit b there in
      subst (λ w. bytes_eq w d.clock ≡ true) (sym (bit_called clock.0 b clock.2) ∙ bit_called name b own) clock.1
  clock_named name b n at own input (handed_on c a _ has buffer reads drives before) = absurd (no_pin n b at input c has (λ x is_link among. (
      let one = one_link d c has is_link in
      let from_a : one.source ≡ Wire a = same_Some one.source (Wire a) (ap (λ (o : DesignCell). slice_get o.ins 0) (sym one.is) ∙ reads) in
      let there : In (one.source ∷ []) (Wire x) = subst (λ (o : DesignCell). In o.ins (Wire x)) one.is among in
      let from_x : one.source ≡ Wire x = in_one one.source (Wire x) there in
      let same : a ≡ x = wires a x (sym from_a ∙ from_x) in
      subst (Driven d) same (clock_drives a before))) drives)
    where
      wires : (a x : Bit) → Wire a ≡ Wire x → a ≡ x
      wires a x is = cc is

  pub port_here : (k : ℕ) (name : List ℕ) → slice_get top.ports k ≡ Some name → HasFlatPort net el.number top k name
  port_here k name at =
      let g = port_is d el.design_groups el.design_cells net.groups el.number el.order el.groups sound k name at in
      record {
        group = flat_group el.number g.0;
        at = g.1;
        named = ap (λ (path : Path). flat_name path g.0.name) g.2 ∙ g.3;
        bits = sym (ap (λ o. option_map_or group_nets o []) g.1) ∙ nets_at d el.design_groups el.design_cells net.groups el.number el.order el.groups sound k name at;
      }

  pub clock_port_is : (k : ℕ) (name : List ℕ) (b : Bit) → slice_get top.ports k ≡ Some name → is_input_port top name ≡ true → In (net_bits top [] name) b → is_clock net (el.number b) ≡ bytes_eq name d.clock
  clock_port_is k name b at way own = by (bytes_eq name d.clock) refl
    where
      place : In (flat_map group_bits el.design_groups) b
      place = top_bit name b own

      numbered : el.number b ≡ place.0
      numbered = el.placed place.0 b place.1

      port_at : slice_get net.ports k ≡ Some (flat_port top (name, k))
      port_at = ap (λ (ports : List Port). slice_get ports k) el.ports ∙ (slice_get-map (flat_port top) (numbered_from 0 top.ports) k ∙ ap (option_map (flat_port top)) (numbered_at top.ports k name at))

      is_in : (b : Bool) → not b ≡ true → b ≡ false
      is_in true no_way = absurd (true≢false (sym no_way))
      is_in false no_way = refl

      bit_at : IsIn (port_nets net.groups (flat_port top (name, k))) place.0
      bit_at =
          let there = in_map el.number (net_bits top [] name) b own in
          (there.0, ap (λ ns. slice_get ns there.0) (nets_at d el.design_groups el.design_cells net.groups el.number el.order el.groups sound k name at) ∙ (there.1 ∙ ap (λ n. Some n) numbered))

      input : IsIn (input_bits (parts_of net)) place.0
      input = input_bit net k (flat_port top (name, k)) bit_at.0 place.0 port_at (is_in (is_output (direction_of top name)) way) bit_at.1

      by : (t : Bool) → bytes_eq name d.clock ≡ t → is_clock net (el.number b) ≡ t
      by true is =
          let listed : In (clock_bits d) b =
          subst (λ o. In (option_map_or (λ (m : Module). flat_map (net_bits m []) (filter (λ port. bytes_eq port d.clock) m.ports)) o []) b) (sym el.order.is_top)
          (in_flat_map (net_bits top []) (filter (λ port. bytes_eq port d.clock) top.ports) name b (filter_at (λ port. bytes_eq port d.clock) top.ports k name at is) own) in
          ap (is_clock net) numbered ∙ (el.clocked place.0 b place.1).1 (clock_port b listed)
      by false is =
          false_from_ne_true (is_clock net (el.number b)) (λ t. true≢false (sym (clock_named name b place.0 place.1 own input ((el.clocked place.0 b place.1).0 (ap (is_clock net) (sym numbered) ∙ t))) ∙ is))
