use Rattle.std.proofs.Common.{◌∙◌, List, Option, length, slice_get, ap, sym, subst}
use Rattle.vlog_parse.specs.declared.tree.Tree.{Tree}
use Rattle.elab_count.specs.declared.amounts.Count.{Count}
use Rattle.elab_unfold.specs.Steps.{AreShapes}
use Rattle.elab_unfold.proofs.CountLaws.{own_room}
use Rattle.elab_unfold.proofs.PlanLaws.{plan_is, top_size}
use Rattle.elab_unfold.proofs.read_plan.read_plan.Goals as goal

pub read_shapes-requires-clause-room : goal.read_shapes-requires-clause-room
read_shapes-requires-clause-room c n m count at there =
    own_room c.args.tree.now c.args.top c.args.counts.now.table.items c.requires.counts c.requires.few n m count (ap (λ (tree : Tree). slice_get tree.modules n) (sym c.in_ok-modules.ensures.own) ∙ at) (ap (λ (xs : List (Option Count)). slice_get xs n) (sym c.as_slice.ensures.value) ∙ there)

pub returns-clause-plan : goal.returns-clause-plan
returns-clause-plan c =
    plan_is (record { tree = c.args.tree; name = c.args.name; clock = c.args.clock; top = c.args.top; shapes = c.in_ok-shapes.shapes }) c.args.counts.now.table.items c.requires.checked c.requires.top c.requires.counts c.requires.few
    (subst (λ (tree : Tree). AreShapes tree c.args.counts.now.table.items (length tree.modules) c.in_ok-shapes.shapes.items) c.in_ok-modules.ensures.own
    (subst (λ (xs : List (Option Count)). AreShapes c.in_ok-modules.modules.tree.now xs (length (c.in_ok-modules.modules.tree.now).modules) c.in_ok-shapes.shapes.items) c.as_slice.ensures.value c.in_ok-shapes.ensures))

pub returns-clause-size : goal.returns-clause-size
returns-clause-size c =
    top_size (record { tree = c.args.tree; name = c.args.name; clock = c.args.clock; top = c.args.top; shapes = c.in_ok-shapes.shapes }) c.args.counts.now.table.items c.requires.checked c.requires.top c.requires.counts c.requires.few
    (subst (λ (tree : Tree). AreShapes tree c.args.counts.now.table.items (length tree.modules) c.in_ok-shapes.shapes.items) c.in_ok-modules.ensures.own
    (subst (λ (xs : List (Option Count)). AreShapes c.in_ok-modules.modules.tree.now xs (length (c.in_ok-modules.modules.tree.now).modules) c.in_ok-shapes.shapes.items) c.as_slice.ensures.value c.in_ok-shapes.ensures))
