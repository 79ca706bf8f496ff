use Rattle.std.proofs.Common.{◌≡◌, take, map}
use Rattle.std.specs.Prelude.{filter}
use Rattle.stim_read.specs.Ports.{data_input, is_data_port}
use Rattle.stim_read.proofs.ports.data_inputs.Given as goal

abbrev pub invariant-loop-port : goal.invariant-loop-port
invariant-loop-port l = l.inputs.items ≡ map (data_input l.flat) (filter (is_data_port l.flat) (take l.port-index l.port-items))
