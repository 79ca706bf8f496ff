use Rattle.std.proofs.Common.{◌≡◌, ◌++◌, ◌∷◌, [], ℕ, List, slice_index, slice_get, Some, ap, ◌∙◌, subst, arith}
use Rattle.net_graph.specs.Components.{IsSplit}
use Rattle.net_graph.proofs.ComponentLemmas.{new_not_open}
use Rattle.net_graph.proofs.CloseLemmas.{split_end}
use Rattle.net_graph.proofs.recurrent.least_recurrent.Goals as goal

pub returns : goal.returns
returns c =
    let graph = c.args.graph.now in
    let o = c.open.new.self in
    let r = c.run.new.self in
    let members : o.members.items ≡ c.args.end ∷ [] = c.in_ok-open.ensures.members ∙ ap (λ (xs : List ℕ). xs ++ c.args.end ∷ []) c.new.ensures.items in
    let first : slice_index o.members.items 0 ≡ c.args.end = ap (λ xs. slice_index xs 0) members in
    let root : slice_get o.members.items 0 ≡ Some c.args.end = ap (λ xs. slice_get xs 0) members in
    let split : IsSplit graph c.args.end r.stages.items r.members.items r.bounds.items [] r.least =
    subst (λ (e : ℕ). IsSplit graph e r.stages.items r.members.items r.bounds.items [] r.least) first c.in_ok-run.ensures.split in
    split_end graph c.args.end r.stages.items r.members.items r.bounds.items r.least split (omega (arith, split.size, c.requires))
    (λ new. new_not_open o.stages.items c.args.end 0 (c.in_ok-run.ensures.seen c.args.end new) (c.in_ok-open.ensures.split.opened 0 c.args.end root))
