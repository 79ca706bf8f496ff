use Rattle.std.proofs.Common.{◌++◌, ap, ◌∙◌, map}
use Rattle.elab_design.specs.Design.{sources}
use Rattle.elab_design.specs.Raw.{pin}
use Rattle.elab_unfold.specs.Places.{link_cells}
use Rattle.elab_unfold.proofs.PinLaws.{links_are, from_nothing}
use Rattle.elab_unfold.proofs.cells.push_assign.Goals as goal

pub returns : goal.returns
returns c path number fits =
    let m = c.args.places.now.holder.now in
    c.in_ok-push_links.ensures
    ∙ ap (λ cells. c.args.cells.now ++ cells)
    (ap (λ xs. link_cells xs c.as_slice-2.result.now) (c.as_slice.ensures ∙ from_nothing _ _ _ c.new-from.ensures (c.in_ok-push_pins-2.ensures path number fits))
    ∙ ap (link_cells (map (pin number) (sources m path c.args.value.now))) (c.as_slice-2.ensures ∙ from_nothing _ _ _ c.new-to.ensures (c.in_ok-push_pins.ensures path number fits))
    ∙ links_are number path (sources m path c.args.value.now) (sources m path c.args.target.now))
