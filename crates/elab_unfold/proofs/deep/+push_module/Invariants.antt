use Rattle.std.proofs.Common.{◌≡◌, ◌+◌, map, drop}
use Rattle.elab_design.specs.Design.{Path}
use Rattle.elab_unfold.specs.Places.{prefix_of}
use Rattle.elab_unfold.specs.Shapes.{shape_depth, shape_size, steps_size, item_of, design_of}
use Rattle.elab_unfold.specs.Adding.{Taken}
use Rattle.elab_unfold.proofs.deep.+push_module.Given as goal

abbrev pub decreases-push_module : goal.decreases-push_module
decreases-push_module l = shape_depth l.plan.now l.number

abbrev pub invariant-loop-step : goal.invariant-loop-step
invariant-loop-step l = record {
  prefix : l.state.prefix.items ≡ l.fn.state.prefix.items;
  room : l.state.nets + steps_size l.plan (drop l.step-index l.shape.steps.items) ≡ l.fn.state.nets + shape_size l.plan l.number;
  taken : (path : Path) → l.fn.state.prefix.items ≡ prefix_of path → Taken (design_of l.plan) (l.shape.places.holder.now) path (map item_of (drop l.step-index l.shape.steps.items)) l.fn.state l.state;
}
