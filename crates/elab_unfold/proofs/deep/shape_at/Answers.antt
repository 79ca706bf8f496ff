use Rattle.std.proofs.Common.{arith}
use Rattle.std.proofs.lemmas.List.{get_or_read}
use Rattle.elab_unfold.proofs.ShapeLaws.{within, found_at, found_right}
use Rattle.elab_unfold.proofs.deep.shape_at.Goals as goal

pub index-requires : goal.index-requires
index-requires c = omega (arith, within c.args.plan.now c.args.number (c.requires.plan c.args.number c.requires.part), c.args.plan.now.shapes.ok.0)

pub returns : goal.returns
returns c =
    let kept = c.requires.plan c.args.number c.requires.part in
    let low = within c.args.plan.now c.args.number kept in
    record {
      at = found_at c.args.plan.now c.args.number c.index.result.now c.index.result.now kept (get_or_read c.args.plan.now.shapes.items c.args.number c.index.result.now low c.index.ensures c.index.result.now);
      right = found_right c.args.plan.now c.args.number c.index.result.now c.index.result.now kept (get_or_read c.args.plan.now.shapes.items c.args.number c.index.result.now low c.index.ensures c.index.result.now);
    }
