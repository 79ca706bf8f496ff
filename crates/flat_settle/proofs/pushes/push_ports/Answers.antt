use Rattle.std.proofs.Common.{get_or}
use Rattle.std.proofs.lemmas.Option.{slice_get-get_or}
use Rattle.std.proofs.Common.{false}
use Rattle.flat_settle.specs.Tables.{PortHas}
use Rattle.flat_settle.proofs.AppendLemmas.{items_more, items_all}
use Rattle.flat_settle.proofs.pushes.push_ports.Goals as goal

pub loop-port-preserved : goal.loop-port-preserved
loop-port-preserved c =
    let at = slice_get-get_or c.args.ports.now c.loop-port.port-index (record { group = 0; output = false }) c.loop-port-test.true in
    items_more (PortHas c.args.groups.now c.args.output) c.args.ports.now c.loop-port.port-index (get_or c.args.ports.now c.loop-port.port-index (record { group = 0; output = false })) ((PortHas c.args.groups.now c.args.output) 0 (get_or c.args.ports.now c.loop-port.port-index (record { group = 0; output = false }))) c.args.list.now c.loop-port.list c.push_port.new.list at (λ n p. p) (λ n p. p)
    c.loop-port.invariant c.in_ok-push_port.ensures

pub returns : goal.returns
returns c = items_all (PortHas c.args.groups.now c.args.output) c.args.ports.now c.loop-port.port-index c.args.list.now c.loop-port.list c.loop-port-test.false c.loop-port.invariant
