use Rattle.std.proofs.Common.{get_or, arith}
use Rattle.std.proofs.lemmas.Option.{slice_get-get_or}
use Rattle.net_core.proofs.MarkLemmas.{nets_more, nets_all}
use Rattle.net_core.proofs.tables.mark_nets.Goals as goal

pub index_mut-requires : goal.index_mut-requires
index_mut-requires c =
    let at = slice_get-get_or c.args.nets.now c.loop-net.net-index (record { 0 = 0 }) c.loop-net-test.true in
    omega (arith, c.requires (get_or c.args.nets.now c.loop-net.net-index (record { 0 = 0 })).0 (c.loop-net.net-index, at), c.loop-net.invariant.size, c.loop-net.marks.ok.0)

pub loop-net-preserved : goal.loop-net-preserved
loop-net-preserved c =
    let at = slice_get-get_or c.args.nets.now c.loop-net.net-index (record { 0 = 0 }) c.loop-net-test.true in
    nets_more c.args.nets.now c.loop-net.net-index (get_or c.args.nets.now c.loop-net.net-index (record { 0 = 0 })) c.args.marks.now.items c.loop-net.marks.items at
    (omega (arith, c.requires (get_or c.args.nets.now c.loop-net.net-index (record { 0 = 0 })).0 (c.loop-net.net-index, at), c.loop-net.invariant.size)) c.loop-net.invariant

pub returns : goal.returns
returns c = nets_all c.args.nets.now c.args.marks.now.items c.loop-net.marks.items c.loop-net.net-index c.loop-net-test.false c.loop-net.invariant
