-- The data inputs of a netlist, whose bits a stimulus gives.
use Rattle.std.specs.Prelude.{ℕ, Bool, not, ◌&&◌, nat_lt, List, [], map, filter, length, slice_get}
use Rattle.std.specs.Option.{option_map_or}
use Rattle.net_core.specs.declared.parts.Group.{Group}
use Rattle.net_core.specs.declared.parts.Port.{Port}
use Rattle.net_core.specs.Netlist.{Netlist, port_nets, is_clock}
use Rattle.stim_read.specs.declared.inputs.DataInput.{DataInput}

-- the name of a port: the identifier of its group
abbrev pub port_name : Netlist → Port → List ℕ
port_name net port = option_map_or (λ (group : Group). group.name) (slice_get net.groups port.group) []

-- the data bits of a port, the leftmost first: those that do not carry the clock
abbrev pub is_data_bit : Netlist → ℕ → Bool
is_data_bit net n = not (is_clock net n)

abbrev pub data_bits : Netlist → Port → List ℕ
data_bits net port = filter (is_data_bit net) (port_nets net.groups port)

-- an input port with data bits: each one but the clock's
abbrev pub is_data_port : Netlist → Port → Bool
is_data_port net port = not port.output && nat_lt 0 (length (data_bits net port))

abbrev pub data_input : Netlist → Port → DataInput
data_input net port = record { name = port_name net port; width = length (data_bits net port) }

-- the data inputs, in port order
abbrev pub data_inputs : Netlist → List DataInput
data_inputs net = map (data_input net) (filter (is_data_port net) net.ports)
