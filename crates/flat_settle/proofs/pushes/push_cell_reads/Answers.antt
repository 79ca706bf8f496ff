use Rattle.std.proofs.Common.{List, subst, sym, ◌∙◌}
use Rattle.net_core.specs.declared.parts.Pin.{Pin}
use Rattle.flat_settle.specs.Tables.{Appends, IsSomewhere, PinHas, ReadHas}
use Rattle.flat_settle.proofs.AppendLemmas.{on_ok_as, appends_as}
use Rattle.flat_settle.proofs.pushes.push_cell_reads.Goals as goal

pub returns-then-is_counted : goal.returns-then-is_counted
returns-then-is_counted c = on_ok_as c.push_pins.result _ _ (λ adds.
    appends_as c.args.list.now c.push_pins.new.list (IsSomewhere PinHas c.args.cell.now.ins) (ReadHas c.args.all 0 c.args.cell.now) (λ n p. (sym c.is_counted.ensures ∙ c.if-is_counted.true, p)) (λ n p. p.1)
    (subst (λ (ins : List Pin). Appends c.args.list.now c.push_pins.new.list (IsSomewhere PinHas ins)) c.as_slice.ensures adds)) c.push_pins.ensures
