use Rattle.std.proofs.Common.{◌++◌, ◌+◌, ap, sym, ◌∙◌, map, arith}
use Rattle.std.specs.List.{range_with_len}
use Rattle.elab_unfold.specs.Places.{net_pin}
use Rattle.elab_unfold.proofs.PinLaws.{net_pins}
use Rattle.elab_unfold.proofs.RangeLaws.{not_missing, known_range, net_room}
use Rattle.elab_unfold.proofs.exprs.push_whole.Goals as goal

pub overflow_add-base : goal.overflow_add-base
overflow_add-base c = omega (arith, c.requires.room, net_room c.args.places.now.holder.now c.args.name.now c.in-Some.net (sym (c.requires.places c.args.name.now) ∙ sym c.get.ensures ∙ c.in-Some.is))

pub overflow_cast-range_width : goal.overflow_cast-range_width
overflow_cast-range_width c = omega (arith, c.requires.room, c.range_width.ensures.value, net_room c.args.places.now.holder.now c.args.name.now c.in-Some.net (sym (c.requires.places c.args.name.now) ∙ sym c.get.ensures ∙ c.in-Some.is))

pub push_nets-requires : goal.push_nets-requires
push_nets-requires c = omega (arith, c.requires.room, c.range_width.ensures.value, net_room c.args.places.now.holder.now c.args.name.now c.in-Some.net (sym (c.requires.places c.args.name.now) ∙ sym c.get.ensures ∙ c.in-Some.is))

pub returns-in-None : goal.returns-in-None
returns-in-None c path number fits =
    let there = known_range _ c.requires.sound in
    absurd (not_missing c.args.places.now.holder.now c.args.name.now there.0 (sym (c.requires.places c.args.name.now) ∙ sym c.get.ensures ∙ c.in-None.is) there.1)

pub returns-in_ok-push_nets-in-Some : goal.returns-in_ok-push_nets-in-Some
returns-in_ok-push_nets-in-Some c path number fits =
    c.in_ok-push_nets-in-Some.ensures ∙ ap (λ n. c.args.out.now ++ map net_pin (range_with_len (c.args.base + c.in-Some.net.first) n)) c.range_width.ensures.value
    ∙ ap (λ pins. c.args.out.now ++ pins) (net_pins c.args.places.now.holder.now path c.args.base number c.args.name.now c.in-Some.net fits (sym (c.requires.places c.args.name.now) ∙ sym c.get.ensures ∙ c.in-Some.is))
