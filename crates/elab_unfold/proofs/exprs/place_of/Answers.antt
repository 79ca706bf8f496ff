use Rattle.elab_unfold.proofs.RangeLaws.{place_left, place_right}
use Rattle.elab_unfold.proofs.exprs.place_of.Goals as goal

pub returns-then-index-range : goal.returns-then-index-range
returns-then-index-range c = place_left c.args.range c.in-Some.range c.args.index c.in-Some.is c.requires c.if-index-range.true

pub returns-else-index-range : goal.returns-else-index-range
returns-else-index-range c = place_right c.args.range c.in-Some.range c.args.index c.in-Some.is c.requires c.if-index-range.false
