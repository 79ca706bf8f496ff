-- The data inputs of a design and of its flat netlist.
use Rattle.std.proofs.Common.{◌≡◌, ℕ, suc, ◌+◌, ◌-◌, ◌<◌, Bool, true, false, not, ◌&&◌, cond, List, [], ◌∷◌, map, length, slice_get, Option, Some, None, refl, ap, sym, ◌∙◌, subst, arith, lt-ltb}
use Rattle.std.specs.Prelude.{filter, nat_lt, nat_le, reverse}
use Rattle.std.specs.List.{range_with_len}
use Rattle.std.specs.Option.{option_map_or}
use Rattle.std.specs.Str.{bytes_eq}
use Rattle.std.proofs.lemmas.List.{length-map, length-reverse}
use Rattle.std.proofs.lemmas.List.FromFn.{length-range_with_len}
use Rattle.net_core.specs.declared.parts.NetId.{NetId}
use Rattle.net_core.specs.declared.parts.Group.{Group}
use Rattle.net_core.specs.declared.parts.Port.{Port}
use Rattle.net_core.specs.Netlist.{Netlist, numbers, group_nets, port_nets, is_clock}
use Rattle.net_core.specs.WellFormed.{IsFlat, bit_names, indexed_name, range_indices}
use Rattle.vlog_parse.specs.declared.tree.Module.{Module}
use Rattle.vlog_parse.specs.ReadTree.{In}
use Rattle.stim_read.specs.Ports.{port_name, is_data_bit, data_bits, is_data_port, data_input, data_inputs}
use Rattle.elab_design.specs.Design.{Bit, net_bits, Design}
use Rattle.elab_design.specs.DesignRuns.{is_input_port}
use Rattle.elab_design.specs.Raw.{flat_port}
use Rattle.elab_design.specs.Elaborates.{Elaborates, HasFlatPort}
use Rattle.design_text.specs.DesignText.{design_input, design_inputs}
use Rattle.design_text.proofs.PickLaws.{picked}

-- A group has a bit

indices_some : (left right : ℕ) → 0 < length (range_indices left right)
indices_some left right = by (nat_le right left)
  where
    by : (b : Bool) → 0 < length (cond b (reverse (range_with_len right (left - right + 1))) (range_with_len left (right - left + 1)))
    by true = omega (arith, length-reverse (range_with_len right (left - right + 1)), length-range_with_len right (left - right + 1))
    by false = omega (arith, length-range_with_len left (right - left + 1))

names_some : (name : List ℕ) (range : Option (ℕ × ℕ)) → 0 < length (option_map_or (λ (r : ℕ × ℕ). map (indexed_name name) (range_indices r.0 r.1)) range (name ∷ []))
names_some name None = omega arith
names_some name (Some r) = omega (arith, length-map (range_indices r.0 r.1) (indexed_name name), indices_some r.0 r.1)

-- The bits of a port whose bits all carry the clock, or all do not
filtered : (net : Netlist) (number : Bit → ℕ) (bits : List Bit) (t : Bool) → ((b : Bit) → In bits b → is_clock net (number b) ≡ t)
    → filter (is_data_bit net) (map number bits) ≡ cond t [] (map number bits)
filtered net number [] true each = refl
filtered net number [] false each = refl
filtered net number (b ∷ bits) true each =
    ap (λ (c : Bool). cond (not c) (number b ∷ filter (is_data_bit net) (map number bits)) (filter (is_data_bit net) (map number bits))) (each b (0, refl))
    ∙ filtered net number bits true (λ x at. each x (suc at.0, at.1))
filtered net number (b ∷ bits) false each =
    ap (λ (c : Bool). cond (not c) (number b ∷ filter (is_data_bit net) (map number bits)) (filter (is_data_bit net) (map number bits))) (each b (0, refl))
    ∙ ap (λ ns. number b ∷ ns) (filtered net number bits false (λ x at. each x (suc at.0, at.1)))

and_first : (a b : Bool) → (a && b) ≡ true → (a ≡ true) × (b ≡ true)
and_first true b is = (refl, is)
and_first false b is = absurd (cc is)

not_true : (b : Bool) → not b ≡ true → b ≡ false
not_true true is = absurd (cc is)
not_true false is = refl

module _ (d : Design) (net : Netlist) (own : Elaborates d net) (flat : IsFlat net)
    (ports : (k : ℕ) (name : List ℕ) → slice_get own.order.top.ports k ≡ Some name → HasFlatPort net own.number own.order.top k name) where
  abbrev top : Module
  top = own.order.top

  pub name_is : (k : ℕ) (name : List ℕ) → slice_get top.ports k ≡ Some name → port_name net (flat_port top (name, k)) ≡ name
  name_is k name at = let here = ports k name at in ap (λ o. option_map_or (λ (g : Group). g.name) o []) here.at ∙ here.named

  pub nets_are : (k : ℕ) (name : List ℕ) → slice_get top.ports k ≡ Some name → port_nets net.groups (flat_port top (name, k)) ≡ map own.number (net_bits top [] name)
  nets_are k name at = let here = ports k name at in ap (λ o. option_map_or group_nets o []) here.at ∙ here.bits

  some_bit : (k : ℕ) (name : List ℕ) → slice_get top.ports k ≡ Some name → 0 < length (net_bits top [] name)
  some_bit k name at =
      let here = ports k name at in
      let wide : length here.group.bits ≡ length (bit_names here.group) = (flat.formed.ranges k here.group here.at).width in
      let some : 0 < length (bit_names here.group) = names_some here.group.name here.group.range in
      let same : length (numbers here.group.bits) ≡ length (map own.number (net_bits top [] name)) = ap (λ ns. length ns) here.bits in
      omega (arith, wide, some, same, length-map here.group.bits (λ (n : NetId). n.0), length-map (net_bits top [] name) own.number)

  module _ (clock : (k : ℕ) (name : List ℕ) (b : Bit) → slice_get top.ports k ≡ Some name → is_input_port top name ≡ true → In (net_bits top [] name) b
      → is_clock net (own.number b) ≡ bytes_eq name d.clock) where
    bits_of : (k : ℕ) (name : List ℕ) → slice_get top.ports k ≡ Some name → is_input_port top name ≡ true
        → data_bits net (flat_port top (name, k)) ≡ cond (bytes_eq name d.clock) [] (map own.number (net_bits top [] name))
    bits_of k name at way =
        ap (filter (is_data_bit net)) (nets_are k name at) ∙ filtered net own.number (net_bits top [] name) (bytes_eq name d.clock) (λ b there. clock k name b at way there)

    test_is : (k : ℕ) (name : List ℕ) → slice_get top.ports k ≡ Some name → is_data_port net (flat_port top (name, k)) ≡ (is_input_port top name && not (bytes_eq name d.clock))
    test_is k name at = by (is_input_port top name) refl
      where
        some_wide : (t : Bool) → nat_lt 0 (length (cond t [] (map own.number (net_bits top [] name)))) ≡ not t
        some_wide true = refl
        some_wide false = lt-ltb 0 (length (map own.number (net_bits top [] name))) (omega (arith, some_bit k name at, length-map (net_bits top [] name) own.number))

        by : (i : Bool) → is_input_port top name ≡ i → (i && nat_lt 0 (length (data_bits net (flat_port top (name, k))))) ≡ (i && not (bytes_eq name d.clock))
        by true way = ap (λ ns. nat_lt 0 (length ns)) (bits_of k name at way) ∙ some_wide (bytes_eq name d.clock)
        by false way = refl

    input_is : (k : ℕ) (name : List ℕ) → slice_get top.ports k ≡ Some name → (is_input_port top name && not (bytes_eq name d.clock)) ≡ true
        → data_input net (flat_port top (name, k)) ≡ design_input top name
    input_is k name at picks =
        let both = and_first (is_input_port top name) (not (bytes_eq name d.clock)) picks in
        let wide : length (data_bits net (flat_port top (name, k))) ≡ length (net_bits top [] name) =
        ap (λ ns. length ns) (bits_of k name at both.0 ∙ ap (λ t. cond t [] (map own.number (net_bits top [] name))) (not_true (bytes_eq name d.clock) both.1)) ∙ length-map (net_bits top [] name) own.number in
        ap (λ n. record { name = n; width = length (data_bits net (flat_port top (name, k))) }) (name_is k name at) ∙ ap (λ w. record { name = name; width = w }) wide

    pub inputs_are : data_inputs net ≡ design_inputs top d.clock
    inputs_are =
        ap (λ (ps : List Port). map (data_input net) (filter (is_data_port net) ps)) own.ports
        ∙ picked top (data_input net) (design_input top) (is_data_port net) (λ name. is_input_port top name && not (bytes_eq name d.clock)) 0 top.ports
        (λ k name at. (let e : 0 + k ≡ k = omega arith in
        subst (λ j. (is_data_port net (flat_port top (name, j)) ≡ (is_input_port top name && not (bytes_eq name d.clock)))
        × ((is_input_port top name && not (bytes_eq name d.clock)) ≡ true → data_input net (flat_port top (name, j)) ≡ design_input top name)) (sym e)
        (test_is k name at, input_is k name at)))
