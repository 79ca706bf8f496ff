use Rattle.std.proofs.Common.{◌++◌, ◌∷◌, [], get_or, ap, ◌∙◌, arith}
use Rattle.std.proofs.lemmas.List.{take_all}
use Rattle.elab_count.proofs.AmountLaws.{read_again}
use Rattle.elab_count.proofs.SortLaws.{numbered, numbered_more, are_sorted, rising_of_sort}
use Rattle.elab_count.proofs.every.by_rank.Goals as goal

pub loop-k-preserved : goal.loop-k-preserved
loop-k-preserved c =
    let ranks = c.args.ranks.now in
    let k = c.loop-k.k in
    c.in_ok-push.ensures.items ∙ ap (λ xs. xs ++ (get_or ranks k 0, k) ∷ []) c.loop-k.invariant
    ∙ numbered_more ranks k (get_or ranks k 0) c.loop-k-test.true (read_again ranks k 0 c.loop-k-test.true)

pub returns : goal.returns
returns c =
    let ranks = c.args.ranks.now in
    are_sorted ranks c.loop-k.order.items c.sort_unstable.new.self.items (c.loop-k.invariant ∙ ap (numbered 0) (take_all c.loop-k.k ranks (omega (arith, c.loop-k-test.false))))
    c.sort_unstable.ensures.permutation (rising_of_sort c.sort_unstable.new.self.items c.sort_unstable.ensures.sorted)
