use Rattle.net_core.proofs.MarkLemmas.{Below, NetAt}
use Rattle.flat_settle.specs.Tables.{Appends}
use Rattle.flat_settle.proofs.pushes.push_bits.Given as goal

abbrev pub invariant-loop-net : goal.invariant-loop-net
invariant-loop-net l = Appends l.initial.list l.list (Below (NetAt l.bits) l.net-index)
