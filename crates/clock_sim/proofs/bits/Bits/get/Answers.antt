use Rattle.std.proofs.Common.{List, Bool, ◌==◌, ◌/◌, ◌%◌, false, ap, sym, ◌∙◌}
use Rattle.std.specs.Int.{bit_at}
use Rattle.std.proofs.lemmas.List.{get_or_read}
use Rattle.clock_sim.specs.Reading.{bit_at_place}
use Rattle.clock_sim.proofs.PackedLemmas.{packed_at, packed_past, word_inside, not_below}
use Rattle.clock_sim.proofs.bits.Bits.get.Goals as goal

pub returns-then-at-self : goal.returns-then-at-self
returns-then-at-self c =
    let inside = word_inside c.self.inside.words.items c.self.inside.count c.args.at c.self.invariant c.if-at-self.true in
    c.bit_of_word.ensures ∙ ap (λ w. bit_at w (c.args.at % 64) == 1) (get_or_read c.self.inside.words.items (c.args.at / 64) c.index.result.now inside c.index.ensures 0)
    ∙ sym (ap (λ (bits : List Bool). bit_at_place bits c.args.at) (sym c.self.view_is) ∙ packed_at c.self.inside.words.items c.self.inside.count c.args.at false c.if-at-self.true)

pub returns-else-at-self : goal.returns-else-at-self
returns-else-at-self c =
    not_below c.args.at c.self.inside.count c.if-at-self.false
    ∙ sym (ap (λ (bits : List Bool). bit_at_place bits c.args.at) (sym c.self.view_is) ∙ packed_past c.self.inside.words.items c.self.inside.count c.args.at false c.if-at-self.false)
