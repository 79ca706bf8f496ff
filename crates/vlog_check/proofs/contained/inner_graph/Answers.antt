use Rattle.std.proofs.Common.{◌≡◌, ◌+◌, ◌++◌, ◌∷◌, [], length, filter_map, sym, subst, ap, ◌∙◌, arith}
use Rattle.vlog_check.specs.Contained.{inner_number, AreInner}
use Rattle.vlog_check.proofs.LeastLaws.{at_index}
use Rattle.vlog_check.proofs.ContainedLaws.{inner_more, inner_graph}
use Rattle.vlog_check.proofs.contained.inner_graph.Goals as goal

pub loop-m-preserved : goal.loop-m-preserved
loop-m-preserved c =
    let tree = c.args.scope.now.tree.now in
    let row = filter_map (inner_number tree) c.m-item.result.items in
    let at = at_index c.as_slice-m-items.result.now tree.modules c.loop-m.m-index c.m-item.result c.as_slice-m-items.ensures c.loop-m-test.true c.m-item.is in
    let sources : c.add_inner.new.inner.items ≡ c.loop-m.sources.items ++ row = c.in_ok-add_inner.ensures in
    let count : c.len.result ≡ length (c.loop-m.sources.items ++ row) = omega (arith, c.len.ensures, c.add_inner.new.inner.ok.0, ap length sources) in
    let starts : c.push-in-loop-m.new.self.items ≡ c.loop-m.starts.items ++ length (c.loop-m.sources.items ++ row) ∷ [] =
    c.in_ok-push-2.ensures.items ∙ ap (λ n. c.loop-m.starts.items ++ n ∷ []) count in
    subst (λ xs. AreInner tree (c.loop-m.m-index + 1) xs c.add_inner.new.inner.items) (sym starts)
    (subst (λ xs. AreInner tree (c.loop-m.m-index + 1) (c.loop-m.starts.items ++ length (c.loop-m.sources.items ++ row) ∷ []) xs) (sym sources)
    (inner_more tree c.loop-m.m-index c.m-item.result c.loop-m.starts.items c.loop-m.sources.items at c.loop-m.invariant))

pub returns : goal.returns
returns c =
    inner_graph c.args.scope.now.tree.now c.loop-m.m-index _ c.loop-m.invariant (omega (arith, c.loop-m-test.false, c.loop-m.auto.m-index-end, ap length c.as_slice-m-items.ensures))
