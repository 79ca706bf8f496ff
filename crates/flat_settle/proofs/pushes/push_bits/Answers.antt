use Rattle.std.proofs.Common.{get_or, ℕ, List, subst, sym, ◌+◌}
use Rattle.std.proofs.lemmas.Option.{slice_get-get_or}
use Rattle.net_core.proofs.MarkLemmas.{Below, NetAt}
use Rattle.flat_settle.specs.Tables.{Appends}
use Rattle.flat_settle.proofs.AppendLemmas.{nets_more, nets_all}
use Rattle.flat_settle.proofs.pushes.push_bits.Goals as goal

pub loop-net-preserved : goal.loop-net-preserved
loop-net-preserved c =
    let at = slice_get-get_or c.args.bits.now c.loop-net.net-index (record { 0 = 0 }) c.loop-net-test.true in
    subst (λ (list : List ℕ). Appends c.args.list.now list (Below (NetAt c.args.bits.now) (c.loop-net.net-index + 1))) (sym c.in_ok-push.ensures.ok)
    (nets_more c.args.bits.now c.loop-net.net-index (get_or c.args.bits.now c.loop-net.net-index (record { 0 = 0 })) c.args.list.now c.loop-net.list at c.loop-net.invariant)

pub returns : goal.returns
returns c = nets_all c.args.bits.now c.args.list.now c.loop-net.list c.loop-net.net-index c.loop-net-test.false c.loop-net.invariant
