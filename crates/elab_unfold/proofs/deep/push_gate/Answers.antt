use Rattle.std.proofs.Common.{◌∙◌, ◌++◌, ◌∷◌, [], ap, refl}
use Rattle.elab_design.specs.DesignCells.{gate_cell}
use Rattle.elab_design.specs.Raw.{raw_cell}
use Rattle.elab_unfold.proofs.DeepLaws.{renamed, named_at}
use Rattle.elab_unfold.proofs.deep.push_gate.Goals as goal

pub returns : goal.returns
returns c = record {
  prefix = c.in_ok-name.ensures.stays;
  nets = refl;
  groups = refl;
  added = λ path number at fits.
      c.in_ok-push.ensures.ok
      ∙ ap (λ cell. c.args.state.now.cells ++ cell ∷ [])
      (c.in_ok-cell.ensures path number fits ∙ renamed (raw_cell number (gate_cell c.args.places.now.holder.now path c.args.gate.now)) c.in_ok-name.name (c.in_ok-name.ensures.named ∙ named_at c.args.state.now.prefix.items path c.args.gate.now.name at));
}
