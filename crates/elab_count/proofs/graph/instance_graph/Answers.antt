use Rattle.std.proofs.Common.{◌≡◌, ℕ, ◌+◌, ◌++◌, [], ◌∷◌, false, Some, length, get_or, slice_get, sym, ap, subst, ◌∙◌, arith}
use Rattle.std.proofs.lemmas.Option.{slice_get_within, slice_get-get_or}
use Rattle.vlog_check.proofs.LeastLaws.{at_index}
use Rattle.flat_settle.specs.Tables.{row_of}
use Rattle.elab_count.specs.Instances.{contained_rows}
use Rattle.flat_settle.proofs.RowLemmas.{AreRowsBelow, rows_more}
use Rattle.elab_count.proofs.InstanceLaws.{row_at, rows_hold, graph_holds}
use Rattle.elab_count.proofs.graph.instance_graph.Goals as goal

pub loop-k-preserved : goal.loop-k-preserved
loop-k-preserved c =
    let tree = c.args.modules.now.tree.now in
    let modules = tree.modules in
    let wanted = c.args.wanted.now in
    let k = c.loop-k.k in
    let lists = contained_rows tree modules wanted in
    let at : slice_get modules k ≡ Some c.m-item.result = at_index c.as_slice-m-items.result.now modules k c.m-item.result c.as_slice-m-items.ensures c.loop-k-test.true c.m-item.is in
    let mark : slice_get wanted k ≡ Some (get_or wanted k false) = slice_get-get_or wanted k false (omega (arith, slice_get_within modules k c.m-item.result at, c.requires.size)) in
    let grows : c.push_row.new.sources.items ≡ c.loop-k.sources.items ++ row_of lists k =
    c.in_ok-push_row.ensures ∙ ap (λ xs. c.loop-k.sources.items ++ xs) (sym (row_at tree modules wanted k c.m-item.result (get_or wanted k false) at mark)) in
    let size : length c.push_row.new.sources.items ≡ c.len.result = omega (arith, c.len.ensures, c.push_row.new.sources.ok.0) in
    rw c.in_ok-push.ensures.items
    (subst (λ (n : ℕ). AreRowsBelow lists (k + 1) (c.loop-k.starts.items ++ n ∷ []) c.push_row.new.sources.items) size
    (rows_more lists k c.loop-k.starts.items c.loop-k.sources.items c.push_row.new.sources.items c.loop-k.invariant grows))

pub invariant_of-result : goal.invariant_of-result
invariant_of-result c =
    let tree = c.args.modules.now.tree.now in
    record { rows = rows_hold tree c.args.wanted.now c.requires.size c.loop-k.starts.items c.loop-k.sources.items c.loop-k.k c.requires.few (omega (arith, ap length c.as_slice-m-items.ensures, c.loop-k-test.false, c.loop-k.auto.k-end)) c.loop-k.invariant }

pub returns : goal.returns
returns c =
    let tree = c.args.modules.now.tree.now in
    graph_holds tree c.args.wanted.now c.requires.size _ c.loop-k.k (omega (arith, ap length c.as_slice-m-items.ensures, c.loop-k-test.false, c.loop-k.auto.k-end)) c.loop-k.invariant
