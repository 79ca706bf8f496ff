use Rattle.std.proofs.Common.{◌≡◌, ◌^◌, ℕ, map, slice_index, subst, List}
use Rattle.net_core.specs.Tables.{AreBack}
use Rattle.net_core.proofs.SourceLemmas.{back_none, back_twice, double_pow}
use Rattle.net_core.proofs.tables.origins.Goals as goal

pub loop-round-init : goal.loop-round-init
loop-round-init c = back_none c.args.sources.items c.requires

pub loop-round-preserved : goal.loop-round-preserved
loop-round-preserved c =
    let twice : c.in_ok-back.back.items ≡ map (λ source. slice_index c.loop-round.back.items source) c.loop-round.back.items =
    subst (λ (xs : List ℕ). c.in_ok-back.back.items ≡ map (λ source. slice_index xs source) xs) c.as_slice.ensures.value c.in_ok-back.ensures in
    subst (λ (steps : ℕ). AreBack c.args.sources.items steps c.in_ok-back.back.items) (double_pow c.loop-round._round)
    (back_twice c.args.sources.items c.loop-round.back.items c.in_ok-back.back.items (2 ^ c.loop-round._round) c.loop-round.invariant twice)
