use Rattle.std.proofs.Common.{refl}
use Rattle.tsm_parse.proofs.Values.{one_more_digit}
use Rattle.tsm_parse.proofs.fitting.fitted.Goals as goal

pub loop-place-preserved : goal.loop-place-preserved
loop-place-preserved c = rw (c.in_ok-push.ensures.items, c.loop-place.invariant, c.digit_at.ensures, one_more_digit c.args.digits.now c.args.width c.loop-place.place c.loop-place-test.true) refl
