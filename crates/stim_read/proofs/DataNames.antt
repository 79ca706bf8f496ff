-- The names and widths of a netlist's data inputs.
use Rattle.std.proofs.Common.{◌≡◌, ◌≢◌, ℕ, zero, suc, ◌+◌, ◌<◌, ◌≤◌, Bool, true, false, not, ◌&&◌, List, [], ◌∷◌, ◌++◌, map, length, get_or, Some, None, cond, refl, sym, ◌∙◌, ap, subst, arith, length-append, ltb-false}
use Rattle.std.specs.Prelude.{slice_get, filter, nat_lt, sum, All}
use Rattle.std.specs.List.{AllPairs, flat_map}
use Rattle.std.specs.Option.{option_map, option_map_or}
use Rattle.std.proofs.lemmas.Option.{slice_get-map, slice_get-get_or}
use Rattle.std.proofs.lemmas.List.Elements.{filter-append, All-filter, All-map}
use Rattle.std.proofs.lemmas.List.Sums.{sum-map, sum_by-cons}
use Rattle.std.proofs.lemmas.List.{length-map, get_or-map}
use Rattle.std.proofs.lemmas.List.Kept.{AllPairs-filter}
use Rattle.net_core.specs.declared.parts.Group.{Group}
use Rattle.net_core.specs.declared.parts.Port.{Port}
use Rattle.net_core.specs.Netlist.{Netlist, parts_of, port_nets, input_nets}
use Rattle.net_core.specs.WellFormed.{IsFlat, IsIdentifier, identifiers}
use Rattle.stim_read.specs.declared.inputs.DataInput.{DataInput}
use Rattle.stim_read.specs.Ports.{data_input, data_inputs, data_bits, is_data_bit, is_data_port, port_name}
use Rattle.stim_read.specs.Stimulus.{AreNames, names_of, widths_of}
use Rattle.stim_read.proofs.DataPorts.{port_number, port_within}

-- Widths

-- the sum of the widths with one more input in front
widths_cons : (input : DataInput) (inputs : List DataInput) → sum (widths_of (input ∷ inputs)) ≡ input.width + sum (widths_of inputs)
widths_cons input inputs =
    let f : DataInput → ℕ = λ one. one.width in
    sum-map f (input ∷ inputs) ∙ (sum_by-cons f input inputs ∙ ap (λ k. input.width + k) (sym (sum-map f inputs)))

-- one input port in front, by whether it has data bits
with_input : (net : Netlist) (port : Port) (ports : List Port) (rest : ℕ) (some : Bool) → nat_lt 0 (length (data_bits net port)) ≡ some
    → sum (widths_of (map (data_input net) (filter (is_data_port net) ports))) ≡ rest
    → sum (widths_of (map (data_input net) (cond some (port ∷ filter (is_data_port net) ports) (filter (is_data_port net) ports)))) ≡ length (data_bits net port) + rest
with_input net port ports rest true wide is =
    widths_cons (data_input net port) (map (data_input net) (filter (is_data_port net) ports)) ∙ ap (λ k. length (data_bits net port) + k) is
with_input net port ports rest false wide is = is ∙ omega (arith, ltb-false 0 (length (data_bits net port)) wide)

-- one port in front, by whether it is an output
sizes_with : (net : Netlist) (port : Port) (ports : List Port) (out : Bool) → port.output ≡ out
    → sum (widths_of (map (data_input net) (filter (is_data_port net) ports)))
    ≡ length (filter (is_data_bit net) (flat_map (port_nets net.groups) (filter (λ (p : Port). not p.output) ports)))
    → sum (widths_of (map (data_input net) (cond (not out && nat_lt 0 (length (data_bits net port))) (port ∷ filter (is_data_port net) ports) (filter (is_data_port net) ports))))
    ≡ length (filter (is_data_bit net) (flat_map (port_nets net.groups) (cond (not out) (port ∷ filter (λ (p : Port). not p.output) ports) (filter (λ (p : Port). not p.output) ports))))
sizes_with net port ports true is rest = rest
sizes_with net port ports false is rest =
    let inputs : List ℕ = flat_map (port_nets net.groups) (filter (λ (p : Port). not p.output) ports) in
    with_input net port ports (length (filter (is_data_bit net) inputs)) (nat_lt 0 (length (data_bits net port))) refl rest
    ∙ (sym (length-append (data_bits net port) (filter (is_data_bit net) inputs)) ∙ ap (λ xs. length xs) (sym (filter-append (is_data_bit net) (port_nets net.groups port) inputs)))

sizes : (net : Netlist) (ports : List Port) → sum (widths_of (map (data_input net) (filter (is_data_port net) ports)))
    ≡ length (filter (is_data_bit net) (flat_map (port_nets net.groups) (filter (λ (port : Port). not port.output) ports)))
sizes net [] = refl
sizes net (port ∷ ports) = sizes_with net port ports port.output refl (sizes net ports)

pub size : (net : Netlist) → sum (widths_of (data_inputs net)) ≡ length (input_nets net)
size net = sizes net net.ports

-- Names

-- the first of two lists joined
front_at : {X : Type 0} (xs ys : List X) (k : ℕ) (x : X) → slice_get xs k ≡ Some x → slice_get (xs ++ ys) k ≡ Some x
front_at [] ys k x at = absurd (cc at)
front_at (first ∷ xs) ys zero x at = at
front_at (first ∷ xs) ys (suc k) x at = front_at xs ys k x at

-- a port's name is the identifier with the port's number
named_at : (net : Netlist) → IsFlat net → (k : ℕ) (port : Port) → slice_get net.ports k ≡ Some port → slice_get (identifiers (parts_of net)) k ≡ Some (port_name net port)
named_at net flat k port at =
    let is : port.group ≡ k = port_number net flat k port at in
    let d : Group = record { name = []; range = None; bits = [] } in
    let group : Group = get_or net.groups port.group d in
    let there : slice_get net.groups port.group ≡ Some group = slice_get-get_or net.groups port.group d (port_within net flat k port at) in
    let named : slice_get (map (λ (g : Group). g.name) net.groups) port.group ≡ Some group.name =
    slice_get-map (λ (g : Group). g.name) net.groups port.group ∙ ap (option_map (λ (g : Group). g.name)) there in
    let own : Some group.name ≡ Some (port_name net port) = sym (ap (λ found. Some (option_map_or (λ (g : Group). g.name) found [])) there) in
    let all : slice_get (identifiers (parts_of net)) port.group ≡ Some group.name = front_at (map (λ (g : Group). g.name) net.groups) _ port.group group.name named in
    subst (λ n. slice_get (identifiers (parts_of net)) n ≡ Some (port_name net port)) is (all ∙ own)

-- the ports' names are all different
names_apart : (net : Netlist) → IsFlat net → AllPairs (λ a b. port_name net a ≢ port_name net b) net.ports
names_apart net flat i j d less within equal =
    let first : Port = get_or net.ports i d in
    let second : Port = get_or net.ports j d in
    let at : slice_get (identifiers (parts_of net)) i ≡ Some (port_name net first) = named_at net flat i first (slice_get-get_or net.ports i d (omega arith)) in
    let there : slice_get (identifiers (parts_of net)) j ≡ Some (port_name net second) = named_at net flat j second (slice_get-get_or net.ports j d within) in
    let same : i ≡ j = flat.formed.identifiers_differ i j (port_name net first) at (there ∙ ap Some (sym equal)) in
    omega arith

spelled : (net : Netlist) → IsFlat net → All (λ port. IsIdentifier (port_name net port)) net.ports
spelled net flat i d within = flat.formed.spelling i (port_name net (get_or net.ports i d)) (named_at net flat i (get_or net.ports i d) (slice_get-get_or net.ports i d within))

visible_in : (name : List ℕ) → IsIdentifier name → All (λ byte. (33 ≤ byte) × (byte ≤ 126)) name
visible_in name is i d within = is.1 i (get_or name i d) (slice_get-get_or name i d within)

-- the names of some of the ports
of_ports : (net : Netlist) (ports : List Port) → AllPairs (λ a b. port_name net a ≢ port_name net b) ports → All (λ port. IsIdentifier (port_name net port)) ports
    → AreNames (map (port_name net) ports)
of_ports net ports apart all = record {
  filled = All-map (λ name. 0 < length name) (port_name net) ports (λ i d within. (all i d within).0);
  visible = All-map (λ name. All (λ byte. (33 ≤ byte) × (byte ≤ 126)) name) (port_name net) ports (λ i d within. visible_in (port_name net (get_or ports i d)) (all i d within));
  apart = λ j k less within equal.
      let d : Port = record { group = 0; output = false } in
      let few : k < length ports = omega (arith, within, length-map ports (port_name net)) in
      let first : get_or (map (port_name net) ports) j [] ≡ port_name net (get_or ports j d) = get_or-map (port_name net) ports j d [] (omega arith) in
      let second : get_or (map (port_name net) ports) k [] ≡ port_name net (get_or ports k d) = get_or-map (port_name net) ports k d [] few in
      apart j k d less few (sym first ∙ (equal ∙ second));
}

names_map : (net : Netlist) (ports : List Port) → names_of (map (data_input net) ports) ≡ map (port_name net) ports
names_map net [] = refl
names_map net (port ∷ ports) = ap (λ rest. port_name net port ∷ rest) (names_map net ports)

pub names : (net : Netlist) → IsFlat net → AreNames (names_of (data_inputs net))
names net flat =
    let ports : List Port = filter (is_data_port net) net.ports in
    subst AreNames (sym (names_map net ports))
    (of_ports net ports (AllPairs-filter (λ a b. port_name net a ≢ port_name net b) (is_data_port net) net.ports (names_apart net flat))
    (All-filter (is_data_port net) (λ port. IsIdentifier (port_name net port)) net.ports (spelled net flat)))
