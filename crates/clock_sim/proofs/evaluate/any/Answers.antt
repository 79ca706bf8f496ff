use Rattle.std.proofs.Common.{ap, sym, ◌∙◌, ◌||◌, take, Bool}
use Rattle.std.specs.List.{list_any}
use Rattle.clock_sim.specs.Reading.{bit_at_place, read_all}
use Rattle.clock_sim.proofs.EvaluateLemmas.{any_pins}
use Rattle.clock_sim.proofs.evaluate.any.Goals as goal

pub loop-place-preserved : goal.loop-place-preserved
loop-place-preserved c =
    c.either-any.ensures ∙ ap (λ b. b || c.bit_at.result) c.loop-place.invariant
    ∙ ap (λ b. list_any (λ (b : Bool). b) (read_all c.args.values.now (take c.loop-place.place-index c.args.pins.now)) || b) c.bit_at.ensures
    ∙ sym (any_pins (bit_at_place c.args.values.now) c.args.pins.now c.loop-place.place-index c.loop-place-test.true)
