use Rattle.std.proofs.Common.{◌≡◌, ◌<◌, ◌+◌, ◌-◌, ◌*◌, ◌^◌, ℕ, ap, sym, ◌∙◌, subst, arith, get_or, length, drop, reverse, slice_get, Some}
use Rattle.std.proofs.lemmas.Option.{slice_get-get_or}
use Rattle.net_core.specs.CellTable.{binary}
use Rattle.clock_sim.specs.Reading.{bit_at_place, read_all}
use Rattle.clock_sim.proofs.EvaluateLemmas.{binary-drop_more, number_small, pow_six, digit, byte_digit}
use Rattle.clock_sim.proofs.evaluate.address.Goals as goal

pub loop-pin-preserved : goal.loop-pin-preserved
loop-pin-preserved c =
    let at : slice_get c.args.pins.now (c.loop-pin.pin - 1) ≡ Some (get_or c.args.pins.now (c.loop-pin.pin - 1) 0) = slice_get-get_or c.args.pins.now (c.loop-pin.pin - 1) 0 (omega arith) in
    let bit : c.from.result ≡ digit (bit_at_place c.args.values.now (get_or c.args.pins.now (c.loop-pin.pin - 1) 0)) = c.from.ensures ∙ byte_digit c.bit_at.result ∙ ap digit c.bit_at.ensures in
    let next : c.loop-pin.pin - 1 + 1 ≡ c.loop-pin.pin = omega arith in
    let size : length c.args.pins.now - c.loop-pin.pin + 1 ≡ length c.args.pins.now - (c.loop-pin.pin - 1) = omega arith in (
      ap (λ v. 2 * v + c.from.result) c.loop-pin.invariant.0 ∙ ap (λ d. 2 * binary (reverse (read_all c.args.values.now (drop c.loop-pin.pin c.args.pins.now))) + d) bit
          ∙ ap (λ n. 2 * binary (reverse (read_all c.args.values.now (drop n c.args.pins.now))) + digit (bit_at_place c.args.values.now (get_or c.args.pins.now (c.loop-pin.pin - 1) 0))) (sym next)
          ∙ sym (binary-drop_more (bit_at_place c.args.values.now) c.args.pins.now (c.loop-pin.pin - 1) (get_or c.args.pins.now (c.loop-pin.pin - 1) 0) at),
      subst (λ (n : ℕ). 2 * c.loop-pin.value + c.from.result < 2 ^ n) size (subst (λ (d : ℕ). 2 * c.loop-pin.value + d < 2 ^ (length c.args.pins.now - c.loop-pin.pin + 1)) (sym bit)
          (number_small (length c.args.pins.now - c.loop-pin.pin) c.loop-pin.value 64 (bit_at_place c.args.values.now (get_or c.args.pins.now (c.loop-pin.pin - 1) 0)) c.loop-pin.invariant.1 (omega (arith, c.requires)))),
    )

pub returns-clause-small : goal.returns-clause-small
returns-clause-small c = omega (arith, c.loop-pin.invariant.1, pow_six (length c.args.pins.now - c.loop-pin.pin) (omega (arith, c.requires)))
