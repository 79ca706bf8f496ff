use Rattle.std.proofs.Common.{◌++◌, ◌∷◌, ◌+◌, [], ap, sym, ◌∙◌, refl}
use Rattle.std.proofs.lemmas.List.FromFn.{map-range_with_len_more}
use Rattle.elab_design.specs.Raw.{net_id}
use Rattle.elab_unfold.proofs.groups.numbers_from.Goals as goal

pub loop-k-preserved : goal.loop-k-preserved
loop-k-preserved c = c.in_ok-push.ensures.ok ∙ ap (λ xs. xs ++ net_id (c.args.first + c.loop-k.k) ∷ []) c.loop-k.invariant ∙ sym (map-range_with_len_more net_id c.args.first c.loop-k.k _ refl)
