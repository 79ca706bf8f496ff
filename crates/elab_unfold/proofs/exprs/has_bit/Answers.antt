use Rattle.std.proofs.Common.{arith}
use Rattle.elab_unfold.proofs.RangeLaws.{high_bit}
use Rattle.elab_unfold.proofs.exprs.has_bit.Goals as goal

pub returns-else-i-lt128 : goal.returns-else-i-lt128
returns-else-i-lt128 c = high_bit c.args.value c.args.i (omega (arith, c.ranges.value)) c.if-i-lt128.false
