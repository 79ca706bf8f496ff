use Rattle.elab_design.proofs.FlatPorts.{port_here, clock_port_is}
use Rattle.elab_design.proofs.laws.ports_of_flat.Goals as goal

pub returns-clause-ports : goal.returns-clause-ports
returns-clause-ports c = λ d net own checked flat k name at. port_here d net checked flat own k name at

pub returns-clause-clock : goal.returns-clause-clock
returns-clause-clock c = λ d net own checked flat k name b at way there. clock_port_is d net checked flat own k name b at way there
