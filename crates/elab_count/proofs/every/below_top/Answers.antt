use Rattle.std.proofs.Common.{rules, ◌≡◌, true, [], ◌∷◌, length, ◌∙◌}
use Rattle.std.specs.Prelude.{replicate}
use Rattle.elab_count.proofs.PartLaws.{parts_reached, marked_all}
use Rattle.elab_count.proofs.every.below_top.Goals as goal

pub returns-clause-marked : goal.returns-clause-marked
returns-clause-marked c n =
    let tree = c.args.modules.now.tree.now in
    let all = c.as_slice.result.now in
    let fresh : c.in_ok-all.all.items ≡ replicate (length tree.modules) true = search rules in
    let only : c.as_slice-2.result.now ≡ c.args.top ∷ [] = search rules in
    let parts = parts_reached tree all c.in_ok-graph.graph c.in_ok-graph.ensures (λ k low. marked_all all (length tree.modules) k (c.as_slice.ensures.value ∙ fresh) low) c.args.top c.as_slice-2.result.now only n in
    let marked = c.in_ok-below.ensures.marked n in
    ((λ m. parts.0 (marked.0 m)), (λ p. marked.1 (parts.1 p)))
