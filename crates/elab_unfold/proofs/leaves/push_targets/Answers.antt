use Rattle.std.proofs.Common.{◌∙◌, ◌++◌, ap, sym, map, replicate, None}
use Rattle.std.specs.Option.{option_map_or, option_copied}
use Rattle.vlog_check.specs.Cells.{pin_row}
use Rattle.vlog_check.specs.CellRows.{bits_with}
use Rattle.elab_design.specs.Design.{sources}
use Rattle.elab_design.specs.DesignCells.{target}
use Rattle.elab_design.specs.Raw.{out_nets}
use Rattle.elab_unfold.specs.Places.{pin_net}
use Rattle.elab_unfold.proofs.LeafLaws.{connected_sound}
use Rattle.elab_unfold.proofs.PinLaws.{outs_are, from_nothing}
use Rattle.elab_unfold.proofs.leaves.push_targets.Goals as goal

pub push_pins-requires-clause-sound : goal.push_pins-requires-clause-sound
push_pins-requires-clause-sound c = connected_sound c.args.places.now.holder.now c.args.inst.now.conns 0 _ c.connected.result c.in-Some.e c.requires.sound c.connected.ensures c.in-Some.is

pub returns-in_ok-push_outs-in-Some : goal.returns-in_ok-push_outs-in-Some
returns-in_ok-push_outs-in-Some c path number fits =
    let m = c.args.places.now.holder.now in
    c.in_ok-push_outs-in-Some.ensures
    ∙ ap (λ pins. c.args.out.now ++ map pin_net pins) (c.as_slice.ensures ∙ from_nothing _ _ _ c.new-found.ensures (c.in_ok-push_pins-in-Some.ensures path number fits))
    ∙ ap (λ outs. c.args.out.now ++ outs) (outs_are number (sources m path c.in-Some.e.now))
    ∙ ap (λ o. c.args.out.now ++ out_nets number (option_map_or (λ e. map target (sources m path e)) o (replicate (bits_with 0 0 (pin_row c.args.pin.now)) None))) (sym (ap option_copied c.in-Some.is) ∙ c.connected.ensures)
