use Rattle.std.proofs.Common.{◌≡◌, ◌+◌, ◌-◌, ◌*◌, ◌^◌, ◌<◌, ℕ, take, drop, length, refl, ap, sym, ◌∙◌, arith, subst}
use Rattle.std.specs.List.{take-map, drop-map}
use Rattle.std.proofs.lemmas.List.{length-take, length-drop}
use Rattle.net_core.specs.CellTable.{binary}
use Rattle.clock_sim.specs.Reading.{bit_at_place, read_all}
use Rattle.clock_sim.proofs.AdvanceLemmas.{memory_advanced}
use Rattle.clock_sim.proofs.clocking.write_memory.Goals as goal

pub returns : goal.returns
returns c =
    let part = take (1 + c.args.aw - 1) (drop 1 c.args.own.now) in
    let width : 1 + c.args.aw - 1 ≡ c.args.aw = omega arith in
    let size : length part ≡ c.args.aw = omega (arith, length-take (1 + c.args.aw - 1) (drop 1 c.args.own.now), length-drop 1 c.args.own.now, c.requires.pins) in
    let address : c.row_number.result ≡ binary (take c.args.aw (drop 1 (read_all c.args.values.now c.args.own.now))) =
    c.row_number.ensures.number
    ∙ ap (λ n. binary (read_all c.args.values.now (take n (drop 1 c.args.own.now)))) width
    ∙ ap binary (sym (take-map (bit_at_place c.args.values.now) c.args.aw (drop 1 c.args.own.now)))
    ∙ ap (λ xs. binary (take c.args.aw xs)) (sym (drop-map (bit_at_place c.args.values.now) 1 c.args.own.now)) in
    let small : c.row_number.result < 2 ^ c.args.aw = subst (λ (n : ℕ). c.row_number.result < 2 ^ n) size c.row_number.ensures.small in
    memory_advanced c.args.aw c.args.dw c.args.base c.row_number.result (c.args.base + c.row_number.result * c.args.dw) (read_all c.args.values.now c.args.own.now) c.args.stored.now c.write_row.new.stored
    c.requires.width (sym c.if-not-read.ensures) address small refl c.write_row.ensures
