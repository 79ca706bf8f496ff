use Rattle.std.proofs.Common.{sym, subst, take, ◌++◌}
use Rattle.std.specs.List.{flat_map}
use Rattle.vlog_parse.specs.Leaves.{leaves}
use Rattle.vlog_check.specs.Names.{IsReading}
use Rattle.vlog_check.proofs.ReadingLaws.{parts_more, parts_all, reading_joined}
use Rattle.vlog_check.proofs.expr.+gather.Goals as goal

pub loop-part-preserved : goal.loop-part-preserved
loop-part-preserved t c =
    let m = c.args.names.now.module.now in
    let xs = c.as_slice-part-items.result.now in
    let more = parts_more xs c.loop-part.part-index c.part-item.result c.loop-part-test.true c.part-item.is in
    subst (λ ls. IsReading m ls c.join-all.result) (sym more)
    (subst (IsReading m (flat_map leaves (take c.loop-part.part-index xs) ++ leaves c.part-item.result)) (sym c.join-all.ensures)
    (reading_joined m (flat_map leaves (take c.loop-part.part-index xs)) (leaves c.part-item.result) c.loop-part.all c.in_ok-next-in-Concat.next c.loop-part.invariant c.in_ok-next-in-Concat.ensures))

pub returns-after-loop-part : goal.returns-after-loop-part
returns-after-loop-part t c =
    let all = parts_all c.args.e.now c.in-Concat.parts c.as_slice-part-items.result.now c.loop-part.part-index c.in-Concat.is c.as_slice-part-items.ensures c.loop-part-test.false in
    subst (λ ls. IsReading c.args.names.now.module.now ls c.loop-part.all) all c.loop-part.invariant
