use Rattle.std.proofs.Common.{◌++◌, ap, sym, ◌∙◌, refl, arith}
use Rattle.vlog_check.specs.Scope.{has_part}
use Rattle.elab_unfold.proofs.PinLaws.{some_pins}
use Rattle.elab_unfold.proofs.RangeLaws.{not_missing, or_some, net_passes, net_room, place_low, part_left, part_fits, part_inside}
use Rattle.net_core.specs.WellFormed.{range_indices}
use Rattle.net_core.proofs.NameLemmas.{range_width as length-range_indices}
use Rattle.elab_unfold.proofs.exprs.push_part.Goals as goal

pub overflow_add-first : goal.overflow_add-first
overflow_add-first c = omega (arith, c.requires.room, net_room c.args.places.now.holder.now c.args.name.now c.in-Some.net (sym (c.requires.places c.args.name.now) ∙ sym c.get.ensures ∙ c.in-Some.is))

pub place_of-requires : goal.place_of-requires
place_of-requires c = part_left c.in-Some.net.range c.args.part.left c.args.part.right (net_passes c.args.places.now.holder.now c.args.name.now c.in-Some.net (λ range. has_part range c.args.part.left c.args.part.right) (sym (c.requires.places c.args.name.now) ∙ sym c.get.ensures ∙ c.in-Some.is) c.requires.sound)

pub overflow_add-first-in-Some : goal.overflow_add-first-in-Some
overflow_add-first-in-Some c = omega (arith, c.requires.room, place_low c.in-Some.net.range c.place_of.result c.args.part.left c.place_of.ensures, net_room c.args.places.now.holder.now c.args.name.now c.in-Some.net (sym (c.requires.places c.args.name.now) ∙ sym c.get.ensures ∙ c.in-Some.is))

pub overflow_cast-range_width : goal.overflow_cast-range_width
overflow_cast-range_width c =
    let inside = net_passes c.args.places.now.holder.now c.args.name.now c.in-Some.net (λ range. has_part range c.args.part.left c.args.part.right) (sym (c.requires.places c.args.name.now) ∙ sym c.get.ensures ∙ c.in-Some.is) c.requires.sound in
    omega (arith, c.requires.room, c.range_width.ensures.value, part_fits c.in-Some.net.range c.args.part.left c.args.part.right c.place_of.result inside c.place_of.ensures, net_room c.args.places.now.holder.now c.args.name.now c.in-Some.net (sym (c.requires.places c.args.name.now) ∙ sym c.get.ensures ∙ c.in-Some.is))

pub push_nets-requires : goal.push_nets-requires
push_nets-requires c =
    let inside = net_passes c.args.places.now.holder.now c.args.name.now c.in-Some.net (λ range. has_part range c.args.part.left c.args.part.right) (sym (c.requires.places c.args.name.now) ∙ sym c.get.ensures ∙ c.in-Some.is) c.requires.sound in
    omega (arith, c.requires.room, c.range_width.ensures.value, part_fits c.in-Some.net.range c.args.part.left c.args.part.right c.place_of.result inside c.place_of.ensures, net_room c.args.places.now.holder.now c.args.name.now c.in-Some.net (sym (c.requires.places c.args.name.now) ∙ sym c.get.ensures ∙ c.in-Some.is))

pub returns-in-None : goal.returns-in-None
returns-in-None c path number fits =
    let there = or_some (λ range. has_part range c.args.part.left c.args.part.right) _ c.requires.sound in
    absurd (not_missing c.args.places.now.holder.now c.args.name.now there.0 (sym (c.requires.places c.args.name.now) ∙ sym c.get.ensures ∙ c.in-None.is) there.1)

pub returns-in_ok-push_nets-in-Some : goal.returns-in_ok-push_nets-in-Some
returns-in_ok-push_nets-in-Some c path number fits =
    let inside = net_passes c.args.places.now.holder.now c.args.name.now c.in-Some.net (λ range. has_part range c.args.part.left c.args.part.right) (sym (c.requires.places c.args.name.now) ∙ sym c.get.ensures ∙ c.in-Some.is) c.requires.sound in
    c.in_ok-push_nets-in-Some.ensures
    ∙ ap (λ pins. c.args.out.now ++ pins) (some_pins c.args.places.now.holder.now path c.args.base number c.args.name.now c.in-Some.net fits (sym (c.requires.places c.args.name.now) ∙ sym c.get.ensures ∙ c.in-Some.is) c.place_of.result c.range_width.result (range_indices c.args.part.left c.args.part.right)
    (λ k i at. part_inside c.in-Some.net.range c.args.part.left c.args.part.right c.place_of.result k i inside c.place_of.ensures at) (length-range_indices c.args.part.left c.args.part.right ∙ sym c.range_width.ensures.value ∙ refl))
