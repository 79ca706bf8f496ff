-- The data inputs of a netlist: what one port adds to them.
use Rattle.std.proofs.Common.{◌≡◌, ℕ, suc, ◌+◌, ◌<◌, ◌≤◌, Bool, true, false, not, ◌&&◌, List, [], ◌∷◌, ◌++◌, map, length, get_or, take, Option, Some, None, cond, refl, sym, ◌∙◌, ap, subst, arith}
use Rattle.std.specs.Prelude.{slice_get, filter, nat_lt}
use Rattle.std.specs.List.{range_with_len}
use Rattle.std.specs.Option.{option_map, option_map_or, option_to_list}
use Rattle.std.proofs.lemmas.Option.{slice_get-map, slice_get_within, get_or_from_slice_get, slice_get-get_or}
use Rattle.std.proofs.lemmas.List.Elements.{filter_more}
use Rattle.std.proofs.lemmas.List.FromFn.{get_or-range_with_len}
use Rattle.std.proofs.lemmas.List.{map-append}
use Rattle.std.proofs.lemmas.List.Sums.{get_or-le-sum_by}
use Rattle.net_core.specs.declared.parts.NetId.{NetId}
use Rattle.net_core.specs.declared.parts.Group.{Group}
use Rattle.net_core.specs.declared.parts.Port.{Port}
use Rattle.net_core.specs.Netlist.{Netlist, numbers, group_nets, net_count, is_clock}
use Rattle.net_core.specs.WellFormed.{IsFlat}
use Rattle.stim_read.specs.declared.inputs.DataInput.{DataInput}
use Rattle.stim_read.specs.Ports.{data_input, data_bits, is_data_bit, is_data_port}

-- each port has the group of its own number
pub port_number : (net : Netlist) → IsFlat net → (k : ℕ) (port : Port) → slice_get net.ports k ≡ Some port → port.group ≡ k
port_number net flat k port at =
    let numbers_of : List ℕ = range_with_len 0 (length net.ports) in
    let there : slice_get (map (λ (p : Port). p.group) net.ports) k ≡ Some port.group =
    slice_get-map (λ (p : Port). p.group) net.ports k ∙ ap (option_map (λ (p : Port). p.group)) at in
    let here : slice_get numbers_of k ≡ Some port.group = subst (λ xs. slice_get xs k ≡ Some port.group) flat.formed.port_order there in
    let few : k < length net.ports = slice_get_within net.ports k port at in
    sym (get_or_from_slice_get numbers_of k port.group 0 here) ∙ (get_or-range_with_len 0 (length net.ports) k 0 few ∙ omega arith)

pub port_within : (net : Netlist) → IsFlat net → (k : ℕ) (port : Port) → slice_get net.ports k ≡ Some port → port.group < length net.groups
port_within net flat k port at =
    let is : port.group ≡ k = port_number net flat k port at in
    let few : k < length net.ports = slice_get_within net.ports k port at in
    let all : length net.ports ≤ length net.groups = flat.formed.port_groups in
    omega arith

pub port_within_at : (net : Netlist) → IsFlat net → (ports : List Port) (groups : List Group) (i : ℕ) (d : Port) → ports ≡ net.ports → groups ≡ net.groups
    → i < length ports → (get_or ports i d).group < length groups
port_within_at net flat ports groups i d same these within =
    let at : slice_get ports i ≡ Some (get_or ports i d) = slice_get-get_or ports i d within in
    let there : slice_get net.ports i ≡ Some (get_or ports i d) = subst (λ xs. slice_get xs i ≡ Some (get_or ports i d)) same at in
    subst (λ (gs : List Group). (get_or ports i d).group < length gs) (sym these) (port_within net flat i (get_or ports i d) there)

-- one group has at most as many bits as all have
pub bits_few : (net : Netlist) → IsFlat net → (groups : List Group) (k : ℕ) (d group : Group) → groups ≡ net.groups → k < length groups
    → group ≡ get_or groups k d → length group.bits < 4294967296
bits_few net flat groups k d group same within is =
    let f : Group → ℕ = λ g. length g.bits in
    let one : length (get_or groups k d).bits ≤ net_count groups = get_or-le-sum_by f groups k d within in
    let wide : length group.bits ≡ length (get_or groups k d).bits = ap (λ (g : Group). length g.bits) is in
    let sum : net_count groups ≡ net_count net.groups = ap net_count same in
    let all : net_count net.groups ≤ 1048576 = flat.formed.limits.nets in
    omega arith

-- a test of numbers is one of nets
counted : (b : Bool) (n : ℕ) (net : NetId) (ns : List ℕ) (nets : List NetId) → length ns ≡ length nets → length (cond b (n ∷ ns) ns) ≡ length (cond b (net ∷ nets) nets)
counted true n net ns nets is = ap (λ k. suc k) is
counted false n net ns nets is = is

filter_numbers : (test : ℕ → Bool) (nets : List NetId) → length (filter test (numbers nets)) ≡ length (filter (λ (net : NetId). test net.0) nets)
filter_numbers test [] = refl
filter_numbers test (net ∷ nets) =
    counted (test net.0) net.0 net (filter test (numbers nets)) (filter (λ (n : NetId). test n.0) nets) (filter_numbers test nets)

-- what one more port adds
added : (b : Bool) (x : Port) (f : Port → DataInput) → map f (cond b (x ∷ []) []) ≡ option_to_list (cond b (Some (f x)) None)
added true x f = refl
added false x f = refl

taken_more : (net : Netlist) (ports : List Port) (i : ℕ) (d : Port) → i < length ports
    → map (data_input net) (filter (is_data_port net) (take (i + 1) ports))
    ≡ map (data_input net) (filter (is_data_port net) (take i ports)) ++ option_to_list (cond (is_data_port net (get_or ports i d)) (Some (data_input net (get_or ports i d))) None)
taken_more net ports i d within =
    let x : Port = get_or ports i d in
    let p : Port → Bool = is_data_port net in
    let f : Port → DataInput = data_input net in
    ap (map f) (filter_more p ports i d within) ∙ (map-append f (filter p (take i ports)) (cond (p x) (x ∷ []) []) ∙ ap (λ rest. map f (filter p (take i ports)) ++ rest) (added (p x) x f))

-- how many data bits a port has whose group is known
wide_at : (net : Netlist) (port : Port) (group : Group) → slice_get net.groups port.group ≡ Some group
    → length (filter (λ (one : NetId). not (is_clock net one.0)) group.bits) ≡ length (data_bits net port)
wide_at net port group at =
    sym (ap (λ found. length (filter (is_data_bit net) (option_map_or group_nets found []))) at ∙ filter_numbers (is_data_bit net) group.bits)

-- what is found of such a port
found_with : (net : Netlist) (port : Port) (group : Group) (width : ℕ) → slice_get net.groups port.group ≡ Some group → width ≡ length (data_bits net port)
    → cond (not port.output && nat_lt 0 width) (Some (record { name = group.name; width = width })) None
    ≡ cond (is_data_port net port) (Some (data_input net port)) None
found_with net port group width at is =
    ap (λ w. cond (not port.output && nat_lt 0 w) (Some (record { name = group.name; width = w })) None) is
    ∙ ap (λ found. cond (is_data_port net port) (Some (record { name = option_map_or (λ (g : Group). g.name) found []; width = length (data_bits net port) })) None) (sym at)

-- what is put behind the inputs of the ports before
pub inputs_more : (net : Netlist) (ports : List Port) (groups : List Group) (i : ℕ) (d : Port) (e : Group) → groups ≡ net.groups → i < length ports
    → (get_or ports i d).group < length groups → (group : Group) → group ≡ get_or groups (get_or ports i d).group e → (found : Option DataInput)
    → found ≡ cond (not (get_or ports i d).output && nat_lt 0 (length (filter (λ (one : NetId). not (is_clock net one.0)) group.bits)))
    (Some (record { name = group.name; width = length (filter (λ (one : NetId). not (is_clock net one.0)) group.bits) })) None
    → (old new : List DataInput) → old ≡ map (data_input net) (filter (is_data_port net) (take i ports)) → new ≡ old ++ option_to_list found
    → new ≡ map (data_input net) (filter (is_data_port net) (take (i + 1) ports))
inputs_more net ports groups i d e same within there group is found told old new before after =
    let port : Port = get_or ports i d in
    let at : slice_get groups port.group ≡ Some group = slice_get-get_or groups port.group e there ∙ ap Some (sym is) in
    let here : slice_get net.groups port.group ≡ Some group = subst (λ (gs : List Group). slice_get gs port.group ≡ Some group) same at in
    let width : ℕ = length (filter (λ (one : NetId). not (is_clock net one.0)) group.bits) in
    let all : found ≡ cond (is_data_port net port) (Some (data_input net port)) None = told ∙ found_with net port group width here (wide_at net port group here) in
    after ∙ (ap (λ xs. xs ++ option_to_list found) before
    ∙ (ap (λ f. map (data_input net) (filter (is_data_port net) (take i ports)) ++ option_to_list f) all ∙ sym (taken_more net ports i d within)))
