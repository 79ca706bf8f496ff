use Rattle.std.proofs.Common.{arith, false, get_or}
use Rattle.std.proofs.lemmas.Option.{slice_get-get_or}
use Rattle.net_core.proofs.MarkLemmas.{ports_more, ports_all}
use Rattle.net_core.proofs.tables.mark_inputs.Goals as goal

pub mark_port-requires : goal.mark_port-requires
mark_port-requires c = λ n is.
    let at = slice_get-get_or c.args.ports.now c.loop-port.port-index (record { group = 0; output = false }) c.loop-port-test.true in
    omega (arith, c.requires n c.loop-port.port-index (get_or c.args.ports.now c.loop-port.port-index (record { group = 0; output = false })) at is, c.loop-port.invariant.size)

pub loop-port-preserved : goal.loop-port-preserved
loop-port-preserved c =
    let at = slice_get-get_or c.args.ports.now c.loop-port.port-index (record { group = 0; output = false }) c.loop-port-test.true in
    ports_more c.args.groups.now c.args.ports.now c.loop-port.port-index (get_or c.args.ports.now c.loop-port.port-index (record { group = 0; output = false }))
    c.args.marks.now.items c.loop-port.marks.items c.mark_port.new.marks.items at c.loop-port.invariant c.mark_port.ensures

pub returns : goal.returns
returns c = ports_all c.args.groups.now c.args.ports.now c.args.marks.now.items c.loop-port.marks.items c.loop-port.port-index c.loop-port-test.false c.loop-port.invariant
