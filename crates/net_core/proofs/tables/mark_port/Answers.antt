use Rattle.std.proofs.Common.{slice_get, sym, List, subst, ap, ◌∙◌}
use Rattle.net_core.specs.declared.parts.NetId.{NetId}
use Rattle.net_core.specs.Tables.{AddsMarks, IsAmongNets}
use Rattle.net_core.proofs.MarkLemmas.{port_missing, port_group, in_group}
use Rattle.net_core.proofs.tables.mark_port.Goals as goal

pub mark_nets-requires : goal.mark_nets-requires
mark_nets-requires c = λ n (k, own).
    c.requires n (in_group c.args.groups.now c.args.port.now c.in-Some.group.now n k c.if-port.false (sym c.in-Some.ensures) (sym (ap (λ nets. slice_get nets k) c.as_slice.ensures) ∙ own))

pub returns-in-Some : goal.returns-in-Some
returns-in-Some c =
    port_group c.args.groups.now c.args.port.now c.in-Some.group.now c.args.marks.now.items c.mark_nets.new.marks.items c.if-port.false (sym c.in-Some.ensures)
    (subst (λ (nets : List NetId). AddsMarks c.args.marks.now.items c.mark_nets.new.marks.items (IsAmongNets nets)) c.as_slice.ensures c.mark_nets.ensures)

pub returns-in-None : goal.returns-in-None
returns-in-None c = port_missing c.args.groups.now c.args.port.now c.args.marks.now.items (sym c.in-None.ensures)
