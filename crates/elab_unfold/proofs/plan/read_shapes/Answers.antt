use Rattle.std.proofs.Common.{◌≡◌, ◌<◌, ◌^◌, Option, Some, None, IfSome, length, slice_get, get_or, refl, sym, ap, ◌∙◌, arith}
use Rattle.std.proofs.lemmas.Option.{slice_get-get_or}
use Rattle.vlog_check.proofs.LeastLaws.{at_index}
use Rattle.elab_count.specs.declared.amounts.Count.{Count}
use Rattle.elab_scope.specs.Nets.{named_nets}
use Rattle.elab_unfold.specs.Places.{rows_width}
use Rattle.elab_unfold.proofs.TableLaws.{shapes_step}
use Rattle.elab_unfold.proofs.plan.read_shapes.Goals as goal

pub shape_of-requires-in-loop-k-clause-nets : goal.shape_of-requires-in-loop-k-clause-nets
shape_of-requires-in-loop-k-clause-nets c =
    let modules = (c.args.modules.now.tree.now).modules in
    let all = c.args.nets.now in
    let low = c.loop-k-test.true in
    c.requires.nets.each c.loop-k.k c.m-item.result c.index-nets-k.result
    (at_index c.as_slice-m-items.result.now modules c.loop-k.k _ c.as_slice-m-items.ensures low c.m-item.is)
    (at_index all all c.loop-k.k _ refl (omega (arith, c.requires.nets.size, low, ap length c.as_slice-m-items.ensures)) c.index-nets-k.is)

pub shape_of-requires-in-loop-k-clause-room : goal.shape_of-requires-in-loop-k-clause-room
shape_of-requires-in-loop-k-clause-room c = by (get_or c.args.counts.now c.loop-k.k None) refl
  where
    by : (o : Option Count) → get_or c.args.counts.now c.loop-k.k None ≡ o → IfSome o (λ count. rows_width (named_nets c.m-item.result) < 2 ^ 32)
    by None is = tt
    by (Some count) is =
        let low = c.loop-k-test.true in
        c.requires.room c.loop-k.k c.m-item.result count (at_index c.as_slice-m-items.result.now (c.args.modules.now.tree.now).modules c.loop-k.k _ c.as_slice-m-items.ensures low c.m-item.is)
        (slice_get-get_or c.args.counts.now c.loop-k.k None (omega (arith, c.requires.size, low, ap length c.as_slice-m-items.ensures)) ∙ ap (λ o. Some o) is)

pub loop-k-preserved : goal.loop-k-preserved
loop-k-preserved c =
    shapes_step c.args.modules.now.tree.now c.args.counts.now c.as_slice-m-items.result.now c.loop-k.k c.m-item.result _ c.loop-k.shapes.items c.push.new.self.items c.in_ok-shape.shape c.as_slice-m-items.ensures c.loop-k-test.true c.m-item.is
    (omega (arith, c.requires.size, c.loop-k-test.true, ap length c.as_slice-m-items.ensures)) c.loop-k.invariant.0 c.loop-k.invariant.1 c.in_ok-shape.ensures c.in_ok-push.ensures.items

pub returns : goal.returns
returns c n m count low at there = c.loop-k.invariant.1 n m count (omega (arith, low, c.loop-k-test.false, ap length c.as_slice-m-items.ensures)) at there
