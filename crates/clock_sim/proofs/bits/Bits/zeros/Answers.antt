use Rattle.std.proofs.Common.{◌≡◌, ◌+◌, ◌/◌, replicate, rules}
use Rattle.clock_sim.proofs.PackedLemmas.{packed_zeros}
use Rattle.clock_sim.proofs.bits.Bits.zeros.Goals as goal

pub returns : goal.returns
returns c =
    let fresh : c.in_ok-words.words.items ≡ replicate (c.args.count / 64 + 1) 0 = search rules in
    packed_zeros c.in_ok-words.words.items c.args.count fresh
