use Rattle.std.proofs.Common.{◌<◌, ◌/◌, List, Bool, set, length, ap, ◌∙◌, arith}
use Rattle.std.specs.Int.{bit_at}
use Rattle.std.proofs.lemmas.List.{get_or_read}
use Rattle.clock_sim.proofs.PackedLemmas.{packed_length, packed_set, word_inside}
use Rattle.clock_sim.proofs.bits.Bits.set.Goals as goal
use Rattle.clock_sim.proofs.bits.Bits.set.Goals.{After-self}

below : (c : After-self) → c.args.at < c.self.inside.count
below c =
    let size = packed_length c.self.inside.words.items c.self.inside.count in
    omega (arith, c.requires, ap (λ (bits : List Bool). length bits) c.self.view_is, size)

pub index_mut-word-requires : goal.index_mut-word-requires
index_mut-word-requires c =
    let inside = word_inside c.self.inside.words.items c.self.inside.count c.args.at c.self.invariant (below (goal.at.index_mut-word-requires c).After-self) in
    omega (arith, inside, c.self.inside.words.ok.0)

pub returns : goal.returns
returns c =
    let low = below (goal.at.returns c).After-self in
    let inside = word_inside c.self.inside.words.items c.self.inside.count c.args.at c.self.invariant low in
    packed_set c.self.inside.words.items c.self.inside.count c.args.at c.with_bit.result c.args.bit c.self.invariant low c.with_bit.ensures.here
    (λ k small apart. c.with_bit.ensures.others k small apart ∙ ap (λ w. bit_at w k) (get_or_read c.self.inside.words.items (c.args.at / 64) c.index_mut-word.result.now inside c.index_mut-word.ensures.value 0))
    ∙ ap (λ (bits : List Bool). set bits c.args.at c.args.bit) c.self.view_is
