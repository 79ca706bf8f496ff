use Rattle.std.proofs.Common.{List, Option, subst}
use Rattle.net_core.specs.declared.parts.NetId.{NetId}
use Rattle.net_core.specs.Tables.{IsOn}
use Rattle.flat_settle.specs.Tables.{Appends, SeedHas}
use Rattle.flat_settle.proofs.AppendLemmas.{on_ok_as, appends_as}
use Rattle.flat_settle.proofs.driven.push_seed.Goals as goal

pub returns-then-is_seed : goal.returns-then-is_seed
returns-then-is_seed c = on_ok_as c.push_outs.result _ _ (λ adds.
    appends_as c.args.list.now c.push_outs.new.list (IsOn c.args.cell.now.outs) (SeedHas 0 c.args.cell.now) (λ n p. (c.is_seed.ensures.0 c.if-is_seed.true, p)) (λ n p. p.1)
    (subst (λ (outs : List (Option NetId)). Appends c.args.list.now c.push_outs.new.list (IsOn outs)) c.as_slice.ensures adds)) c.push_outs.ensures
