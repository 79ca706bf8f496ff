use Rattle.std.proofs.Common.{arith, length-drop}
use Rattle.ila_base.proofs.Taken.{rest_whole}
use Rattle.ila_base.proofs.Written.{front_grows}
use Rattle.ila_base.proofs.outside.write_all.Goals as goal

pub loop-at-preserved : goal.loop-at-preserved
loop-at-preserved g c = record {
  within = omega (arith, c.in_ok-at.ensures.bound, length-drop c.loop-at.at c.args.bytes.now);
  front = front_grows _ _ _ c.args.bytes.now c.loop-at.at c.in_ok-at.field-0 c.loop-at.invariant.front
      (rw rest_whole at c.in_ok-at.ensures.bytes);
  later = omega (arith, c.loop-at.invariant.later, c.in_ok-at.ensures.later);
}
