-- The whole design unfolded.
use Rattle.std.specs.Prelude.{◌≡◌, [], slice_get, Some}
use Rattle.vlog_parse.specs.declared.tree.Module.{Module}
use Rattle.elab_unfold.specs.declared.shape.Plan.{Plan}
use Rattle.elab_unfold.specs.declared.state.State.{State}
use Rattle.elab_unfold.specs.Shapes.{shape_size, design_of}
use Rattle.elab_unfold.specs.Adding.{Adds}

-- all of the top was added to nothing
pub record IsWhole (plan : Plan) (state : State) : Type 0 where
  pub old : State
  pub empty_groups : old.groups ≡ []
  pub empty_cells : old.cells ≡ []
  pub no_nets : old.nets ≡ 0
  pub nets : state.nets ≡ shape_size plan plan.top
  pub adds : (m : Module) → slice_get plan.tree.now.modules plan.top ≡ Some m → Adds (design_of plan) m [] old state
