use Rattle.std.proofs.Common.{get_or}
use Rattle.std.proofs.lemmas.Option.{slice_get-get_or}
use Rattle.net_core.specs.declared.parts.Pin.TheVariants as pins
use Rattle.flat_settle.specs.Tables.{PinHas}
use Rattle.flat_settle.proofs.AppendLemmas.{items_more, items_all}
use Rattle.flat_settle.proofs.pushes.push_pins.Goals as goal

pub loop-pin-preserved : goal.loop-pin-preserved
loop-pin-preserved c =
    let at = slice_get-get_or c.args.ins.now c.loop-pin.pin-index (pins.Net (record { 0 = 0 })) c.loop-pin-test.true in
    items_more PinHas c.args.ins.now c.loop-pin.pin-index (get_or c.args.ins.now c.loop-pin.pin-index (pins.Net (record { 0 = 0 }))) (PinHas 0 (get_or c.args.ins.now c.loop-pin.pin-index (pins.Net (record { 0 = 0 })))) c.args.list.now c.loop-pin.list c.push_pin.new.list at (λ n p. p) (λ n p. p)
    c.loop-pin.invariant c.in_ok-push_pin.ensures

pub returns : goal.returns
returns c = items_all PinHas c.args.ins.now c.loop-pin.pin-index c.args.list.now c.loop-pin.list c.loop-pin-test.false c.loop-pin.invariant
