use Rattle.std.proofs.Common.{refl}
use Rattle.flat_settle.proofs.SeenLemmas.{sees_identifier}
use Rattle.flat_settle.proofs.seen.see_identifier.Goals as goal

pub returns-clause-sees : goal.returns-clause-sees
returns-clause-sees c = λ names seen.
    sees_identifier c.args.seen.now _ c.in_ok-number.number c.args.name.now c.in_ok-number.ensures.at c.in_ok-number.ensures.grows c.in_ok-number.ensures.differ c.in_ok-number.ensures.few names seen
    c.in_ok-there.there c.in_ok-there.ensures.there c.in_ok-there.ensures.marked refl refl
