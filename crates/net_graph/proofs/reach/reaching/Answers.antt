use Rattle.std.proofs.Common.{◌≡◌, ◌-◌, length, slice_get, Some, arith}
use Rattle.std.proofs.lemmas.Option.{slice_get_read}
use Rattle.net_graph.specs.Graph.{node_count}
use Rattle.net_graph.proofs.ReachLemmas.{marked_low, closing_start, closing_more, closing_all}
use Rattle.net_graph.proofs.reach.reaching.Goals as goal

pub mark_all-requires : goal.mark_all-requires
mark_all-requires c = λ n on.
    omega (arith, c.requires n on, c.in_ok-marks.ensures.len, c.len.ensures, c.in_ok-marks.marks.ok.0, c.args.graph.now.starts.ok.0)

pub loop-at-init : goal.loop-at-init
loop-at-init c =
    let size : c.len.result - 1 ≡ node_count c.args.graph.now = omega (arith, c.len.ensures, c.args.graph.now.starts.ok.0) in
    closing_start c.args.graph.now c.args.ends.now c.in_ok-marks.marks.items c.mark_all.new.marks.items c.new-list.result.items c.mark_all.new.list.items (c.len.result - 1)
    (c.in_ok-marks.ensures.items_if_clones_equal (λ y same. same)) c.new-list.ensures.items size c.in_ok-mark_all.ensures

pub sources_of-requires : goal.sources_of-requires
sources_of-requires c =
    let here : slice_get c.loop-at.list.items c.loop-at.at ≡ Some c.index-node.result.now =
    slice_get_read c.loop-at.list.items (length c.loop-at.list.items) c.loop-at.at c.index-node.result.now (omega arith) (omega (arith, c.loop-at-test.true, c.len-in-loop-at.ensures, c.loop-at.list.ok.0)) c.index-node.ensures in
    omega (arith, marked_low c.loop-at.marks.items c.index-node.result.now (c.loop-at.invariant.marked c.loop-at.at c.index-node.result.now here), c.loop-at.invariant.size)

pub mark_all-requires-in-loop-at : goal.mark_all-requires-in-loop-at
mark_all-requires-in-loop-at c = λ n on.
    let row = (c.sources_of.ensures n).0 on in
    omega (arith, c.args.graph.now.rows.nodes row.place n row.is, c.loop-at.invariant.size)

pub loop-at-preserved : goal.loop-at-preserved
loop-at-preserved c =
    let here : slice_get c.loop-at.list.items c.loop-at.at ≡ Some c.index-node.result.now =
    slice_get_read c.loop-at.list.items (length c.loop-at.list.items) c.loop-at.at c.index-node.result.now (omega arith) (omega (arith, c.loop-at-test.true, c.len-in-loop-at.ensures, c.loop-at.list.ok.0)) c.index-node.ensures in
    closing_more c.args.graph.now c.args.ends.now c.loop-at.marks.items c.mark_all-in-loop-at.new.marks.items c.loop-at.list.items c.mark_all-in-loop-at.new.list.items c.sources_of.result.now c.loop-at.at c.index-node.result.now
    c.loop-at.invariant here c.sources_of.ensures c.in_ok-mark_all-2.ensures

pub returns-clause-marked : goal.returns-clause-marked
returns-clause-marked c =
    closing_all c.args.graph.now c.args.ends.now c.loop-at.marks.items c.loop-at.list.items c.loop-at.at c.loop-at.invariant (omega (arith, c.loop-at-test.false, c.len-in-loop-at.ensures, c.loop-at.list.ok.0))
