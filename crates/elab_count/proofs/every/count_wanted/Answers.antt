use Rattle.std.proofs.Common.{get_or, arith}
use Rattle.std.proofs.lemmas.Option.{slice_get-get_or}
use Rattle.elab_count.proofs.ProgressLaws.{counted_one}
use Rattle.elab_count.proofs.every.count_wanted.Goals as goal

pub bounds-wanted-k : goal.bounds-wanted-k
bounds-wanted-k c =
    let order = c.args.order.now in
    let i = c.loop-node.node-index in
    let node = get_or order i (0, 0) in
    omega (arith, c.requires.order.within i node.0 node.1 (slice_get-get_or order i (0, 0) c.loop-node-test.true), c.requires.size)

pub count_one-requires-clause-within : goal.count_one-requires-clause-within
count_one-requires-clause-within c =
    let order = c.args.order.now in
    let i = c.loop-node.node-index in
    let node = get_or order i (0, 0) in
    c.requires.order.within i node.0 node.1 (slice_get-get_or order i (0, 0) c.loop-node-test.true)

pub loop-node-preserved : goal.loop-node-preserved
loop-node-preserved c =
    let order = c.args.order.now in
    let i = c.loop-node.node-index in
    let node = get_or order i (0, 0) in
    counted_one c.args.modules.now.tree.now c.args.wanted.now order c.requires.order i node.0 node.1 (slice_get-get_or order i (0, 0) c.loop-node-test.true) c.loop-node.table.items c.loop-node.invariant
    c.count_one.new.table.items c.count_one.ensures
