use Rattle.std.proofs.Common.{refl, arith}
use Rattle.net_core.proofs.ClockLemmas.{ok_then}
use Rattle.flat_settle.proofs.SeenLemmas.{sees_bit}
use Rattle.flat_settle.proofs.seen.see_bit.Goals as goal

pub returns-clause-sees : goal.returns-clause-sees
returns-clause-sees c = ok_then c.add_key.result _ _ (λ there told names seen.
    sees_bit c.args.seen.now _ c.args.number c.args.front.now c.requires.at (λ n x at. at) seen.fronts_differ (omega arith) names seen there c.args.index _ (omega (arith, c.ranges.index.fits)) refl told refl refl) c.add_key.ensures
