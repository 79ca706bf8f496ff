use Rattle.std.proofs.Common.{sym, ◌∙◌, arith}
use Rattle.vlog_check.specs.Scope.{has_index}
use Rattle.elab_unfold.proofs.RangeLaws.{not_missing, or_some, net_passes, net_room, place_low}
use Rattle.elab_unfold.proofs.exprs.push_bit.Goals as goal

pub overflow_add-first : goal.overflow_add-first
overflow_add-first c = omega (arith, c.requires.room, net_room c.args.places.now.holder.now c.args.name.now c.in-Some.net (sym (c.requires.places c.args.name.now) ∙ sym c.get.ensures ∙ c.in-Some.is))

pub place_of-requires : goal.place_of-requires
place_of-requires c = net_passes c.args.places.now.holder.now c.args.name.now c.in-Some.net (λ range. has_index range c.args.index) (sym (c.requires.places c.args.name.now) ∙ sym c.get.ensures ∙ c.in-Some.is) c.requires.sound

pub overflow_add-first-in-Some : goal.overflow_add-first-in-Some
overflow_add-first-in-Some c = omega (arith, c.requires.room, place_low c.in-Some.net.range c.place_of.result c.args.index c.place_of.ensures, net_room c.args.places.now.holder.now c.args.name.now c.in-Some.net (sym (c.requires.places c.args.name.now) ∙ sym c.get.ensures ∙ c.in-Some.is))

pub push_nets-requires : goal.push_nets-requires
push_nets-requires c = omega (arith, c.requires.room, place_low c.in-Some.net.range c.place_of.result c.args.index c.place_of.ensures, net_room c.args.places.now.holder.now c.args.name.now c.in-Some.net (sym (c.requires.places c.args.name.now) ∙ sym c.get.ensures ∙ c.in-Some.is))

pub returns-in-None : goal.returns-in-None
returns-in-None c path number fits =
    let there = or_some (λ range. has_index range c.args.index) _ c.requires.sound in
    absurd (not_missing c.args.places.now.holder.now c.args.name.now there.0 (sym (c.requires.places c.args.name.now) ∙ sym c.get.ensures ∙ c.in-None.is) there.1)
