use Rattle.std.proofs.Common.{[], refl, ◌∙◌, zero-add}
use Rattle.elab_unfold.proofs.whole.unfold_plan.Goals as goal

pub returns : goal.returns
returns c = record {
  old = record { groups = c.new.result; cells = c.new-2.result; nets = 0; prefix = c.new-3.result };
  empty_groups = c.new.ensures;
  empty_cells = c.new-2.ensures;
  no_nets = refl;
  nets = c.in_ok-push_module.ensures.nets ∙ zero-add _;
  adds = λ m there. c.in_ok-push_module.ensures.adds m [] there c.new-3.ensures.items;
}
