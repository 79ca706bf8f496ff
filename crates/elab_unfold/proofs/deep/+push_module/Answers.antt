use Rattle.std.proofs.Common.{◌+◌, ◌++◌, ◌∷◌, [], map, drop, ap, sym, subst, ◌∙◌, arith}
use Rattle.std.proofs.lemmas.Option.{same_Some}
use Rattle.elab_unfold.specs.Places.{rows_width, groups_from}
use Rattle.elab_unfold.specs.Shapes.{item_of, own_item, step_size, design_of}
use Rattle.elab_unfold.specs.Adding.{Taken, Adds}
use Rattle.elab_unfold.specs.declared.state.State.{State}
use Rattle.vlog_parse.specs.declared.tree.Item.TheVariants as items
use Rattle.elab_unfold.proofs.NetLaws.{prefix_into}
use Rattle.elab_unfold.proofs.ShapeLaws.{size_at, depth_at, own_known, inside_known, sizes_at, items_at, own_none, kind_known, truncated, items_end}
use Rattle.elab_unfold.proofs.DeepLaws.{taken_none, own_step, inside_step, taken_all, added_as}
use Rattle.elab_unfold.proofs.deep.+push_module.Goals as goal
use Rattle.elab_unfold.proofs.deep.+push_module.Goals.{in-Own+in_ok-push_own-in-Own, in-Inside+in_ok-push_border-in-Inside+in_ok-push_module-in-Inside}

pub loop-step-init : goal.loop-step-init
loop-step-init t c =
    let plan = c.args.plan.now in
    let shape = c.shape_at-shape.result.now in
    let kept = c.shape_at-shape.ensures.right in
    let rows = kept.right.order in
    let nets = c.in_ok-push_groups.ensures.nets ∙ ap (λ r. c.args.state.now.nets + rows_width r) rows in
    record {
      prefix = c.in_ok-push_groups.ensures.prefix;
      room = omega (arith, nets, kept.right.sum, size_at plan c.args.number shape c.shape_at-shape.ensures.at);
      taken = λ path at. taken_none (design_of plan) (shape.places.holder.now) path kept.right.live (map item_of shape.steps.items) c.args.state.now c.push_groups.new.state kept.right.listed kept.right.dead at
          c.in_ok-push_groups.ensures.cells nets (c.in_ok-push_groups.ensures.groups ∙ ap (λ r. c.args.state.now.groups ++ groups_from c.args.state.now.prefix.items c.args.state.now.nets r) rows);
    }

pub push_own-requires-clause-own : goal.push_own-requires-clause-own
push_own-requires-clause-own t c =
    own_known c.args.plan.now c.args.number c.shape_at-shape.result.now c.shape_at-shape.ensures.right c.as_slice-step-items.result.now c.loop-step.step-index c.step-item.result c.as_slice-step-items.ensures.value c.loop-step-test.true c.step-item.is c.in-Own.own c.in-Own.is

pub shape_at-inner-requires-clause-part : goal.shape_at-inner-requires-clause-part
shape_at-inner-requires-clause-part t c =
    (inside_known c.args.plan.now c.args.number c.shape_at-shape.result.now c.shape_at-shape.ensures.right c.as_slice-step-items.result.now c.loop-step.step-index c.step-item.result c.as_slice-step-items.ensures.value c.loop-step-test.true c.step-item.is c.in-Inside.inside c.in-Inside.inst c.in-Inside.is).part

pub push_border-requires-clause-sound : goal.push_border-requires-clause-sound
push_border-requires-clause-sound t c =
    (inside_known c.args.plan.now c.args.number c.shape_at-shape.result.now c.shape_at-shape.ensures.right c.as_slice-step-items.result.now c.loop-step.step-index c.step-item.result c.as_slice-step-items.ensures.value c.loop-step-test.true c.step-item.is c.in-Inside.inside c.in-Inside.inst c.in-Inside.is).sound

pub push_module-requires : goal.push_module-requires
push_module-requires t c =
    let plan = c.args.plan.now in
    let shape = c.shape_at-shape.result.now in
    let inside = inside_known plan c.args.number shape c.shape_at-shape.ensures.right c.as_slice-step-items.result.now c.loop-step.step-index c.step-item.result c.as_slice-step-items.ensures.value c.loop-step-test.true c.step-item.is c.in-Inside.inside c.in-Inside.inst c.in-Inside.is in
    let sizes = sizes_at plan c.args.number shape c.shape_at-shape.ensures.right c.as_slice-step-items.result.now c.loop-step.step-index c.step-item.result c.as_slice-step-items.ensures.value c.loop-step-test.true c.step-item.is in
    let one = ap (step_size plan) c.in-Inside.is in (
      omega (arith, inside.less, depth_at plan c.args.number shape c.shape_at-shape.ensures.at, c.decreases),
      (c.requires.plan, (inside.part, omega (arith, sizes, one, c.loop-step.invariant.room, c.requires.room, c.in_ok-push_border-in-Inside.ensures.nets))),
    )

pub loop-step-preserved : goal.loop-step-preserved
loop-step-preserved t c =
    let plan = c.args.plan.now in
    let shape = c.shape_at-shape.result.now in
    let kept = c.shape_at-shape.ensures.right in
    let ys = c.as_slice-step-items.result.now in
    let k = c.loop-step.step-index in
    let old = c.args.state.now in
    let now = c.loop-step.state in
    let more = map item_of (drop (k + 1) shape.steps.items) in
    let sizes = sizes_at plan c.args.number shape kept ys k c.step-item.result c.as_slice-step-items.ensures.value c.loop-step-test.true c.step-item.is in
    elim c.match-step.branch [
      | in-Own+in_ok-push_own-in-Own w ↦ (
          let own = own_known plan c.args.number shape kept ys k c.step-item.result c.as_slice-step-items.ensures.value c.loop-step-test.true c.step-item.is w.in-Own.own w.in-Own.is in
          let listed = items_at plan c.args.number shape kept ys k c.step-item.result c.as_slice-step-items.ensures.value c.loop-step-test.true c.step-item.is (own_item w.in-Own.own) (ap item_of w.in-Own.is) in
          let adds = w.in_ok-push_own-in-Own.ensures in
          let one = ap (step_size plan) w.in-Own.is in
          let nets = ap (λ (s : State). s.nets) w.state-is in
          record {
            prefix = ap (λ (s : State). s.prefix.items) w.state-is ∙ adds.prefix ∙ c.loop-step.invariant.prefix;
            room = omega (arith, sizes, one, nets, adds.nets, c.loop-step.invariant.room);
            taken = λ path at.
                subst (λ s. Taken (design_of plan) (shape.places.holder.now) path more old s) (sym w.state-is)
                (own_step (design_of plan) (shape.places.holder.now) path more old now w.push_own.new.state (own_item w.in-Own.own) (own_none plan (shape.places.holder.now) w.in-Own.own own) (c.loop-step.invariant.prefix ∙ at)
                (subst (λ its. Taken (design_of plan) (shape.places.holder.now) path its old now) listed (c.loop-step.invariant.taken path at)) adds);
          })
      | in-Inside+in_ok-push_border-in-Inside+in_ok-push_module-in-Inside w ↦ (
          let inst = w.in-Inside.inst.now in
          let inside = inside_known plan c.args.number shape kept ys k c.step-item.result c.as_slice-step-items.ensures.value c.loop-step-test.true c.step-item.is w.in-Inside.inside w.in-Inside.inst w.in-Inside.is in
          let listed = items_at plan c.args.number shape kept ys k c.step-item.result c.as_slice-step-items.ensures.value c.loop-step-test.true c.step-item.is (items.Inst inst) (ap item_of w.in-Inside.is) in
          let border = w.in_ok-push_border-in-Inside.ensures in
          let deep = w.in_ok-push_module-in-Inside.ensures in
          let inner = w.shape_at-inner.result.now in
          let one = ap (step_size plan) w.in-Inside.is in
          let nets = ap (λ (s : State). s.nets) w.state-is in
          record {
            prefix = truncated w.push_module.new.state.prefix.items now.prefix.items (inst.name ++ 47 ∷ []) c.match-step.state.prefix.items w.len-end.result (omega (arith, w.len-end.ensures, now.prefix.ok.0)) (deep.prefix ∙ border.prefix)
                (ap (λ (s : State). s.prefix.items) w.state-is ∙ w.truncate.ensures.items)
                ∙ c.loop-step.invariant.prefix;
            room = omega (arith, sizes, one, nets, border.nets, deep.nets, c.loop-step.invariant.room);
            taken = λ path at.
                inside_step (design_of plan) (shape.places.holder.now) path more old now c.match-step.state (inner.places.holder.now) inst w.push_border.new.state
                (kind_known plan (shape.places.holder.now) (inner.places.holder.now) shape.depth w.in-Inside.inside inst inside w.shape_at-inner.ensures.right.at)
                (subst (λ its. Taken (design_of plan) (shape.places.holder.now) path its old now) listed (c.loop-step.invariant.taken path at))
                border.nets border.groups (λ number outer own. border.cells path number outer own)
                (added_as (design_of plan) (inner.places.holder.now) (inst.name ∷ path) w.push_border.new.state w.push_module.new.state c.match-step.state
                (deep.adds (inner.places.holder.now) (inst.name ∷ path) w.shape_at-inner.ensures.right.at (border.prefix ∙ ap (λ p. p ++ (inst.name ++ 47 ∷ [])) (c.loop-step.invariant.prefix ∙ at) ∙ prefix_into path inst.name))
                nets (ap (λ (s : State). s.groups) w.state-is) (ap (λ (s : State). s.cells) w.state-is));
          })
    ]

pub returns-clause-adds : goal.returns-clause-adds
returns-clause-adds t c m path there at =
    let plan = c.args.plan.now in
    let shape = c.shape_at-shape.result.now in
    let kept = c.shape_at-shape.ensures.right in
    let same = same_Some (shape.places.holder.now) m (sym kept.at ∙ there) in
    let none = items_end c.as_slice-step-items.result.now shape.steps.items c.loop-step.step-index c.as_slice-step-items.ensures.value c.loop-step-test.false in
    subst (λ x. Adds (design_of plan) x path c.args.state.now c.loop-step.state) same
    (taken_all (design_of plan) (shape.places.holder.now) path [] c.args.state.now c.args.state.now c.loop-step.state (subst (λ its. Taken (design_of plan) (shape.places.holder.now) path its c.args.state.now c.loop-step.state) none (c.loop-step.invariant.taken path at)))
