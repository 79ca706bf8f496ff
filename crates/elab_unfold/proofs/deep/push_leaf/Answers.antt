use Rattle.std.proofs.Common.{◌∙◌, ◌++◌, ◌∷◌, [], ap, refl, Some}
use Rattle.elab_design.specs.DesignCells.{leaf_cell}
use Rattle.elab_design.specs.Raw.{raw_cell}
use Rattle.elab_unfold.proofs.DeepLaws.{renamed, name_at}
use Rattle.elab_unfold.proofs.deep.push_leaf.Goals as goal

pub returns : goal.returns
returns c = record {
  prefix = c.in_ok-name.ensures.stays;
  nets = refl;
  groups = refl;
  added = λ path number at fits.
      c.in_ok-push.ensures.ok
      ∙ ap (λ cell. c.args.state.now.cells ++ cell ∷ [])
      (c.in_ok-cell.ensures path number fits
      ∙ renamed (raw_cell number (leaf_cell c.args.places.now.holder.now path c.args.inst.now c.args.cell)) (Some c.in_ok-name.name) (ap (λ n. Some n) (name_at c.args.state.now.prefix.items c.bytes.result.now c.args.inst.now.name path c.in_ok-name.name at c.bytes.ensures c.in_ok-name.ensures.named)));
}
