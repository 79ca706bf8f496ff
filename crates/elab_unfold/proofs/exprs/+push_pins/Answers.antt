use Rattle.std.proofs.Common.{◌++◌, ap, ◌∙◌, map, rules}
use Rattle.vlog_parse.specs.declared.tree.Expr.{the_lemmas}
use Rattle.elab_design.specs.Raw.{pin}
use Rattle.elab_unfold.proofs.PinLaws.{constant_pins, all_parts}
use Rattle.elab_unfold.proofs.RangeLaws.{part_sound}
use Rattle.elab_unfold.proofs.exprs.+push_pins.Goals as goal

pub push_pins-requires : goal.push_pins-requires
push_pins-requires t c =
    let sound = part_sound c.args.places.now.holder.now c.args.e.now c.in-Concat.parts c.as_slice-part-items.result.now c.loop-part.part-index c.part-item.result c.in-Concat.is c.as_slice-part-items.ensures c.loop-part-test.true c.part-item.is c.requires.sound in
    (search (rules, the_lemmas), (c.requires.places, (c.requires.room, sound)))

pub returns-in_ok-push_constant-in-Const : goal.returns-in_ok-push_constant-in-Const
returns-in_ok-push_constant-in-Const t c path number fits =
    c.in_ok-push_constant-in-Const.ensures ∙ ap (λ pins. c.args.out.now ++ pins) (constant_pins c.args.places.now.holder.now path number c.args.e.now c.in-Const.word c.in-Const.field-1 c.in-Const.is)

pub returns-after-loop-part : goal.returns-after-loop-part
returns-after-loop-part t c path number fits =
    c.loop-part.invariant path number fits
    ∙ ap (λ pins. c.args.out.now ++ map (pin number) pins) (all_parts c.args.places.now.holder.now path c.args.e.now c.in-Concat.parts c.as_slice-part-items.result.now c.loop-part.part-index c.in-Concat.is c.as_slice-part-items.ensures c.loop-part-test.false)
