use Rattle.std.proofs.Common.{◌++◌, ap, ◌∙◌, take, arith}
use Rattle.elab_unfold.specs.Places.{link_cells}
use Rattle.elab_unfold.proofs.PinLaws.{joined_more, links_step, links_end}
use Rattle.elab_unfold.proofs.cells.push_links.Goals as goal

pub loop-k-preserved : goal.loop-k-preserved
loop-k-preserved c =
    joined_more c.args.cells.now c.loop-k.cells c.push_link.new.cells (link_cells (take c.loop-k.k c.args.from.now) (take c.loop-k.k c.args.to.now)) _ _ c.loop-k.invariant c.in_ok-push_link.ensures
    (links_step c.loop-k.k c.args.from.now c.args.to.now _ _ (omega (arith, c.loop-k-test.true, c.min-k-end.ensures)) (omega (arith, c.loop-k-test.true, c.min-k-end.ensures)))

pub returns : goal.returns
returns c = c.loop-k.invariant ∙ ap (λ cells. c.args.cells.now ++ cells) (links_end c.loop-k.k c.args.from.now c.args.to.now (omega (arith, c.loop-k-test.false, c.min-k-end.ensures)))
