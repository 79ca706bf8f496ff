use Rattle.stim_read.proofs.DataPorts.{port_within_at, bits_few, inputs_more}
use Rattle.stim_read.proofs.DataNames.{names, size}
use Rattle.stim_read.proofs.ports.data_inputs.Goals as goal

pub bounds-groups-port : goal.bounds-groups-port
bounds-groups-port c =
    port_within_at c.args.flat.now c.groups-groups.ensures.kept c.ports-port-items.result.now c.groups-groups.result.now c.loop-port.port-index _
    c.ports-port-items.ensures.value c.groups-groups.ensures.value c.loop-port-test.true

pub input_of-requires : goal.input_of-requires
input_of-requires c =
    bits_few c.args.flat.now c.groups-groups.ensures.kept c.groups-groups.result.now _ _ c.index-groups-port.result c.groups-groups.ensures.value
    (port_within_at c.args.flat.now c.groups-groups.ensures.kept c.ports-port-items.result.now c.groups-groups.result.now c.loop-port.port-index _
    c.ports-port-items.ensures.value c.groups-groups.ensures.value c.loop-port-test.true)
    c.index-groups-port.is

pub loop-port-preserved : goal.loop-port-preserved
loop-port-preserved c =
    inputs_more c.args.flat.now c.ports-port-items.result.now c.groups-groups.result.now c.loop-port.port-index _ _ c.groups-groups.ensures.value c.loop-port-test.true
    (port_within_at c.args.flat.now c.groups-groups.ensures.kept c.ports-port-items.result.now c.groups-groups.result.now c.loop-port.port-index _
    c.ports-port-items.ensures.value c.groups-groups.ensures.value c.loop-port-test.true)
    c.index-groups-port.result c.index-groups-port.is c.in_ok-found.found c.in_ok-found.ensures c.loop-port.inputs.items c.push_found.new.inputs.items
    c.loop-port.invariant (c.in_ok-push_found.ensures {u = tt})

pub returns-clause-names : goal.returns-clause-names
returns-clause-names c = names c.args.flat.now c.ports-port-items.ensures.kept

pub returns-clause-size : goal.returns-clause-size
returns-clause-size c = size c.args.flat.now
