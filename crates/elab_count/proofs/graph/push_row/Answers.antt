use Rattle.std.proofs.Common.{ℕ, Some, None, sym, ap, ◌∙◌, append-nil}
use Rattle.std.specs.Global.{Vec}
use Rattle.elab_count.proofs.InstanceLaws.{row_step}
use Rattle.elab_count.proofs.graph.push_row.Goals as goal
use Rattle.elab_count.proofs.graph.push_row.Goals.{in-Some+in_ok-push, in_default}

pub loop-item-preserved : goal.loop-item-preserved
loop-item-preserved c =
    let tree = c.args.modules.now.tree.now in
    let step = row_step tree c.args.sources.now.items c.loop-item.sources.items c.match-contained_by.sources.items c.as_slice-item-items.result.now c.args.m.now.items c.loop-item.item-index c.item-item.result in
    elim c.match-contained_by.branch [
      | in-Some+in_ok-push w ↦ step (Some w.in-Some.number) c.as_slice-item-items.ensures c.loop-item-test.true c.item-item.is c.loop-item.invariant (sym c.contained_by.ensures ∙ w.in-Some.is)
          (ap (λ (v : Vec ℕ). v.items) w.sources-is ∙ w.in_ok-push.ensures.items)
      | in_default w ↦ step None c.as_slice-item-items.ensures c.loop-item-test.true c.item-item.is c.loop-item.invariant (sym c.contained_by.ensures ∙ w.in_default.is)
          (ap (λ (v : Vec ℕ). v.items) w.sources-is ∙ sym (append-nil c.loop-item.sources.items))
    ]
