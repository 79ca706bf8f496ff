use Rattle.std.proofs.Common.{◌≡◌, ◌++◌, not, filter, drop}
use Rattle.net_core.specs.Netlist.{numbers, is_clock}
use Rattle.clock_sim.proofs.build.push_data.Given as goal

-- what is pushed, and what is still to push, is all
abbrev pub invariant-loop-net : goal.invariant-loop-net
invariant-loop-net l =
    l.nets.items ++ filter (λ n. not (is_clock l.flat n)) (numbers (drop l.net-index l.bits)) ≡ l.initial.nets.items ++ filter (λ n. not (is_clock l.flat n)) (numbers l.bits)
