use Rattle.std.proofs.Common.{[], None, ◌∙◌, arith}
use Rattle.elab_unfold.proofs.TableLaws.{group_step, width_step, width_room}
use Rattle.elab_unfold.proofs.groups.push_groups.Goals as goal

pub push_group-requires : goal.push_group-requires
push_group-requires c =
    let room = width_room c.args.order.now c.loop-row.row-index (record { ref_ptr = (0, 0); now = [] }, None) c.args.state.now.nets c.loop-row.state.nets c.loop-row-test.true c.loop-row.invariant.nets in
    omega (arith, room, c.requires)

pub loop-row-preserved : goal.loop-row-preserved
loop-row-preserved c = record {
  prefix = c.in_ok-push_group.ensures.prefix ∙ c.loop-row.invariant.prefix;
  cells = c.in_ok-push_group.ensures.cells ∙ c.loop-row.invariant.cells;
  nets = width_step c.args.order.now c.loop-row.row-index _ c.args.state.now.nets c.loop-row.state.nets c.push_group.new.state.nets c.loop-row-test.true c.loop-row.invariant.nets c.in_ok-push_group.ensures.nets;
  groups = group_step c.args.order.now c.loop-row.row-index _ c.args.state.now.prefix.items c.loop-row.state.prefix.items c.args.state.now.nets c.loop-row.state.nets c.args.state.now.groups c.loop-row.state.groups c.push_group.new.state.groups c.loop-row-test.true
      c.loop-row.invariant.prefix c.loop-row.invariant.nets c.loop-row.invariant.groups c.in_ok-push_group.ensures.groups;
}
