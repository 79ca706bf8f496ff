use Rattle.std.proofs.Common.{ap, sym, ◌∙◌, ◌++◌, ◌∷◌, []}
use Rattle.net_core.proofs.SourceLemmas.{range_with_len-more_zero}
use Rattle.net_core.proofs.tables.numbers_below.Goals as goal

pub loop-number-preserved : goal.loop-number-preserved
loop-number-preserved c = c.in_ok-push.ensures.items ∙ ap (λ xs. xs ++ c.loop-number.number ∷ []) c.loop-number.invariant ∙ sym (range_with_len-more_zero c.loop-number.number)
