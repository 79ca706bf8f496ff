use Rattle.std.proofs.Common.{◌≡◌, ◌-◌, ap, length, get_or, arith}
use Rattle.std.proofs.lemmas.List.{get_or_read}
use Rattle.net_graph.proofs.StepLemmas.{cut_done}
use Rattle.net_graph.proofs.components.join.Goals as goal

pub returns-else-place-index : goal.returns-else-place-index
returns-else-place-index c =
    cut_done c.args.place c.args.bounds.now.items c.loop-bounds.bounds.items c.loop-bounds.invariant c.requires
    (λ some.
    let count : c.len.result - 1 ≡ length c.loop-bounds.bounds.items - 1 = omega (arith, c.len.ensures, c.loop-bounds.bounds.ok.0) in
    let read : c.index.result.now ≡ get_or c.loop-bounds.bounds.items (c.len.result - 1) 0 =
    get_or_read c.loop-bounds.bounds.items _ _ (omega (arith, some, count)) c.index.ensures 0 in
    omega (arith, c.if-place-index.false, read, ap (λ k. get_or c.loop-bounds.bounds.items k 0) count))
