use Rattle.std.proofs.Common.{refl, arith}
use Rattle.flat_settle.proofs.SeenLemmas.{ok_with, sees_whole}
use Rattle.flat_settle.proofs.seen.see_whole.Goals as goal

pub returns : goal.returns
returns c = ok_with c.mark.result _ _ _ (λ there told marked names seen.
    sees_whole c.args.seen.now _ c.args.number c.args.name.now c.requires.at (λ n x at. at) seen.fronts_differ (omega arith) names seen there c.requires.whole told marked refl refl) c.mark.ensures.there c.mark.ensures.marked
