use Rattle.std.proofs.Common.{List, subst, sym}
use Rattle.net_core.specs.declared.parts.NetId.{NetId}
use Rattle.net_core.specs.Tables.{IsAmongNets}
use Rattle.flat_settle.specs.Tables.{Appends}
use Rattle.flat_settle.proofs.AppendLemmas.{on_ok_as}
use Rattle.flat_settle.proofs.PortLemmas.{port_group, same_sides}
use Rattle.flat_settle.proofs.pushes.push_port.Goals as goal

pub returns-in-Some : goal.returns-in-Some
returns-in-Some c = on_ok_as c.push_bits.result _ _ (λ adds.
    port_group c.args.groups.now c.args.port c.args.output c.in-Some.group.now c.args.list.now c.push_bits.new.list (same_sides c.args.port.output c.args.output c.if-port-output.false) (sym c.in-Some.ensures.value)
    (subst (λ (bits : List NetId). Appends c.args.list.now c.push_bits.new.list (IsAmongNets bits)) c.as_slice.ensures adds)) c.push_bits.ensures
