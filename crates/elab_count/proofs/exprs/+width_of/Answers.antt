use Rattle.elab_count.proofs.WidthLaws.{whole_width, concat_width}
use Rattle.elab_count.proofs.exprs.+width_of.Goals as goal

pub returns-in-Whole : goal.returns-in-Whole
returns-in-Whole t c m are = whole_width m c.args.nets.now c.args.e.now c.bytes.result.now c.in-Whole.name c.in-Whole.field-1 c.width_of_net.result are c.in-Whole.is c.bytes.ensures c.width_of_net.ensures.value c.width_of_net.ensures.small

pub returns-after-loop-part : goal.returns-after-loop-part
returns-after-loop-part t c m are = concat_width m c.args.e.now c.in-Concat.parts c.as_slice-part-items.result.now c.loop-part.part-index c.loop-part.width c.in-Concat.is c.as_slice-part-items.ensures c.loop-part-test.false (c.loop-part.invariant m are)
