use Rattle.std.proofs.Common.{◌≡◌, ◌++◌, not, filter, flat_map, drop}
use Rattle.net_core.specs.declared.parts.Port.{Port}
use Rattle.net_core.specs.Netlist.{port_nets, input_nets, is_clock}
use Rattle.clock_sim.proofs.build.data_inputs.Given as goal

-- what is pushed, and what is still to push, is all
abbrev pub invariant-loop-port : goal.invariant-loop-port
invariant-loop-port l =
    l.nets.items ++ filter (λ n. not (is_clock l.flat n)) (flat_map (port_nets l.flat.groups) (filter (λ (port : Port). not port.output) (drop l.port-index l.flat.ports))) ≡ input_nets l.flat
