use Rattle.std.proofs.Common.{ap, sym, ◌∙◌, ◌&&◌, take, Bool}
use Rattle.std.specs.List.{list_all}
use Rattle.clock_sim.specs.Reading.{bit_at_place, read_all}
use Rattle.clock_sim.proofs.EvaluateLemmas.{all_pins}
use Rattle.clock_sim.proofs.evaluate.all.Goals as goal

pub loop-place-preserved : goal.loop-place-preserved
loop-place-preserved c =
    c.both-all.ensures ∙ ap (λ b. b && c.bit_at.result) c.loop-place.invariant
    ∙ ap (λ b. list_all (λ (b : Bool). b) (read_all c.args.values.now (take c.loop-place.place-index c.args.pins.now)) && b) c.bit_at.ensures
    ∙ sym (all_pins (bit_at_place c.args.values.now) c.args.pins.now c.loop-place.place-index c.loop-place-test.true)
