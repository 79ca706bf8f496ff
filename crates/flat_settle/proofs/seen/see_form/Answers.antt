use Rattle.std.proofs.Common.{refl, arith}
use Rattle.net_core.proofs.ClockLemmas.{ok_then}
use Rattle.flat_settle.proofs.SeenLemmas.{sees_bit}
use Rattle.flat_settle.proofs.seen.see_form.Goals as goal

pub returns : goal.returns
returns c = ok_then c.add_key.result _ _ (λ there told names seen.
    sees_bit c.args.seen.now _ c.in_ok-number.number c.args.front.now c.in_ok-number.ensures.at c.in_ok-number.ensures.grows c.in_ok-number.ensures.differ c.in_ok-number.ensures.few names seen there c.args.index _
    (omega (arith, c.ranges.index.fits)) refl told refl refl) c.add_key.ensures
