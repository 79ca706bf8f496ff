use Rattle.std.proofs.Common.{◌<◌, List, sym, subst}
use Rattle.net_core.specs.declared.parts.Group.{Group}
use Rattle.net_core.specs.Netlist.{net_count, numbers}
use Rattle.net_core.specs.WellFormed.{Each, HasRange}
use Rattle.ila_top.proofs.Cycles.{cycle_within}
use Rattle.ila_top.proofs.netlist.loop_fault.Goals as goal

pub net_names-requires-clause-ranges : goal.net_names-requires-clause-ranges
net_names-requires-clause-ranges c =
    let P : List Group → Type 0 = λ groups. Each HasRange groups in subst P (sym c.groups.ensures.value) c.requires.flat.formed.ranges

pub net_names-requires-clause-within : goal.net_names-requires-clause-within
net_names-requires-clause-within c =
    let P : List Group → Type 0 = λ groups. Each (λ n. n < net_count groups) (numbers c.args.nets.now) in
    subst P (sym c.groups.ensures.value) (cycle_within c.args.flat.now (numbers c.args.nets.now) c.requires.flat c.requires.cycle)
