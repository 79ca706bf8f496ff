use Rattle.std.proofs.Common.{◌≡◌, slice_get, Some, sym, refl, ap, ◌∙◌}
use Rattle.vlog_check.proofs.LeastLaws.{at_index}
use Rattle.vlog_check.proofs.ContainedLaws.{pushed_none, pushed_some}
use Rattle.vlog_check.proofs.contained.add_inner.Goals as goal
use Rattle.vlog_check.proofs.contained.add_inner.Goals.{in-Some+in_ok-push, in_default}

pub loop-item-preserved : goal.loop-item-preserved
loop-item-preserved c =
    let tree = c.args.scope.now.tree.now in
    let items = c.as_slice-item-items.result.now in
    let i = c.loop-item.item-index in
    let item = c.item-item.result in
    let at : slice_get items i ≡ Some item = at_index items items i item refl c.loop-item-test.true c.item-item.is in
    elim c.match-inner_number.branch [
      | in-Some+in_ok-push w ↦
          pushed_some tree items i w.in-Some.number item c.args.inner.now.items c.loop-item.inner.items c.match-inner_number.inner.items at (sym w.in-Some.is ∙ c.inner_number.ensures) c.loop-item.invariant
          (ap (λ v. v.items) w.inner-is ∙ w.in_ok-push.ensures.items)
      | in_default w ↦
          pushed_none tree items i item c.args.inner.now.items c.match-inner_number.inner.items at (sym w.in_default.is ∙ c.inner_number.ensures) (ap (λ v. v.items) w.inner-is ∙ c.loop-item.invariant)
    ]
