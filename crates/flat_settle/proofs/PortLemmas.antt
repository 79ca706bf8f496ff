-- The bits of ports.
use Rattle.std.proofs.Common.{◌≡◌, ℕ, ◌<◌, Bool, true, false, not, List, [], slice_get, Option, Some, None, refl, ap, sym, ◌∙◌, arith}
use mathlib.Core.Bool.{beq}
use Rattle.std.specs.Option.{option_map, option_map_or}
use Rattle.std.specs.List.{filter}
use Rattle.std.proofs.lemmas.Option.{slice_get-map}
use Rattle.net_core.specs.declared.parts.NetId.{NetId}
use Rattle.net_core.specs.declared.parts.Group.{Group}
use Rattle.net_core.specs.declared.parts.Port.{Port}
use Rattle.net_core.specs.Netlist.{Parts, input_bits, output_bits, port_nets, group_nets, net_count}
use Rattle.net_graph.specs.Lists.{IsIn}
use Rattle.net_core.specs.Tables.{IsAmongNets}
use Rattle.net_core.proofs.ListLemmas.{option_map_some, flat_map_some, flat_map_at}
use Rattle.net_core.proofs.PartsLemmas.{filter_some, filter_at, not_true}
use Rattle.net_core.proofs.NetNameLemmas.{range_number}
use Rattle.flat_settle.specs.declared.raw.Raw.{Raw}
use Rattle.flat_settle.specs.Raw.{IsUnfolded}
use Rattle.flat_settle.specs.Tables.{Appends, IsSomewhere, PortHas}
use Rattle.flat_settle.proofs.AppendLemmas.{appends_as}

-- the numbers of a group's bits
module _ (groups : List Group) (port : Port) (group : Group) (at : slice_get groups port.group ≡ Some group) where
  to_port : (n k : ℕ) → slice_get group.bits k ≡ Some (record { 0 = n }) → slice_get (port_nets groups port) k ≡ Some n
  to_port n k own = ap (λ (o : Option Group). slice_get (option_map_or group_nets o []) k) at ∙ slice_get-map (λ (b : NetId). b.0) group.bits k ∙ ap (option_map (λ (b : NetId). b.0)) own

  from_port : (n k : ℕ) → slice_get (port_nets groups port) k ≡ Some n → slice_get group.bits k ≡ Some (record { 0 = n })
  from_port n k own =
      let bit = option_map_some (λ (b : NetId). b.0) (slice_get group.bits k) n (sym (slice_get-map (λ (b : NetId). b.0) group.bits k) ∙ sym (ap (λ (o : Option Group). slice_get (option_map_or group_nets o []) k) at) ∙ own) in
      bit.1 ∙ ap (λ (m : ℕ). Some (record { 0 = m })) bit.2

pub port_group : (groups : List Group) (port : Port) (output : Bool) (group : Group) (old new : List ℕ) → port.output ≡ output → slice_get groups port.group ≡ Some group
    → Appends old new (IsAmongNets group.bits) → Appends old new (PortHas groups output 0 port)
port_group groups port output group old new side at adds =
    appends_as old new (IsAmongNets group.bits) (PortHas groups output 0 port) (λ n (k, own). (side, (k, to_port groups port group at n k own))) (λ n own. (own.1.0, from_port groups port group at n own.1.0 own.1.1)) adds

module _ (parts : Parts) where
  pub inputs_from : (n : ℕ) → IsIn (input_bits parts) n → IsSomewhere (PortHas parts.groups false) parts.ports n
  inputs_from n (k, at) =
      let own = flat_map_some (port_nets parts.groups) (filter (λ (port : Port). not port.output) parts.ports) k n at in
      let port = filter_some (λ (port : Port). not port.output) parts.ports own.0 own.1 own.3 in
      (port.0, own.1, port.1, (not_true own.1.output port.2, (own.2, own.4)))

  pub inputs_to : (n : ℕ) → IsSomewhere (PortHas parts.groups false) parts.ports n → IsIn (input_bits parts) n
  inputs_to n (p, port, at, own) =
      let kept = filter_at (λ (port : Port). not port.output) parts.ports p port at (ap not own.0) in
      flat_map_at (port_nets parts.groups) (filter (λ (port : Port). not port.output) parts.ports) kept.0 port own.1.0 n kept.1 own.1.1

  pub outputs_from : (n : ℕ) → IsIn (output_bits parts) n → IsSomewhere (PortHas parts.groups true) parts.ports n
  outputs_from n (k, at) =
      let own = flat_map_some (port_nets parts.groups) (filter (λ (port : Port). port.output) parts.ports) k n at in
      let port = filter_some (λ (port : Port). port.output) parts.ports own.0 own.1 own.3 in
      (port.0, own.1, port.1, (port.2, (own.2, own.4)))

  pub outputs_to : (n : ℕ) → IsSomewhere (PortHas parts.groups true) parts.ports n → IsIn (output_bits parts) n
  outputs_to n (p, port, at, own) =
      let kept = filter_at (λ (port : Port). port.output) parts.ports p port at own.0 in
      flat_map_at (port_nets parts.groups) (filter (λ (port : Port). port.output) parts.ports) kept.0 port own.1.0 n kept.1 own.1.1

-- every net bit of a group is one of the netlist
module _ (raw : Raw) (unfolded : IsUnfolded raw) where
  pub in_groups : (j i n : ℕ) (group : Group) → slice_get raw.groups j ≡ Some group → slice_get (group_nets group) i ≡ Some n → n < net_count raw.groups
  in_groups j i n group at own =
      let flat = flat_map_at group_nets raw.groups j group i n at own in
      let number = range_number 0 (net_count raw.groups) flat.0 n (sym (ap (λ nets. slice_get nets flat.0) unfolded.numbering) ∙ flat.1) in
      omega (arith, number.0, number.1)

  port_within : (port : Port) (i n : ℕ) → slice_get (port_nets raw.groups port) i ≡ Some n → n < net_count raw.groups
  port_within port i n at = by (slice_get raw.groups port.group) refl at
    where
      by : (o : Option Group) → slice_get raw.groups port.group ≡ o → slice_get (option_map_or group_nets o []) i ≡ Some n → n < net_count raw.groups
      by None there at = absurd (cc at)
      by (Some group) there at = in_groups port.group i n group there at

  pub ports_within : (output : Bool) (n : ℕ) → IsSomewhere (PortHas raw.groups output) raw.ports n → n < net_count raw.groups
  ports_within output n (p, port, at, own) = port_within port own.1.0 n own.1.1

  -- the clock port's bit is an input
  pub clock_input : IsSomewhere (PortHas raw.groups false) raw.ports raw.clock.0
  clock_input = let own = unfolded.clock_port in (own.place, own.port, own.at, (own.input, (0, ap (λ nets. slice_get nets 0) own.bit)))

pub same_sides : (a b : Bool) → not (beq a b) ≡ false → a ≡ b
same_sides true true e = refl
same_sides true false e = absurd (cc e)
same_sides false true e = absurd (cc e)
same_sides false false e = refl
