use Rattle.std.proofs.Common.{ap, refl, ◌∙◌, map, false, None}
use Rattle.std.specs.List.{flat_map}
use Rattle.elab_design.specs.Design.{sources}
use Rattle.net_core.specs.declared.kind.CellKind.TheVariants.{Gate}
use Rattle.elab_design.specs.DesignCells.{terminals_of}
use Rattle.elab_design.specs.Raw.{pin}
use Rattle.elab_unfold.specs.Places.{gate_ins, gate_outs, pin_net}
use Rattle.elab_unfold.proofs.PinLaws.{gate_ins_are, gate_outs_are, same_cell, from_nothing}
use Rattle.elab_unfold.proofs.gates.gate_cell.Goals as goal

pub returns : goal.returns
returns c path number fits =
    let m = c.args.places.now.holder.now in
    let terminals = from_nothing _ _ _ c.new-terminals.ensures (c.in_ok-push_terminals.ensures path number fits) ∙ ap (λ es. map (pin number) (flat_map (sources m path) es)) c.as_slice.ensures in
    same_cell false _ _ c.args.name _ _ _ _ None None (ap Gate c.code_of.ensures)
    (c.in_ok-ins.ensures ∙ c.inputs_of.ensures ∙ ap (gate_ins c.args.gate.now.kind) (c.as_slice-2.ensures ∙ terminals) ∙ gate_ins_are number c.args.gate.now.kind (terminals_of m path c.args.gate.now))
    (from_nothing _ _ _ c.new-outs.ensures c.in_ok-push_outs.ensures ∙ ap (map pin_net) (c.outputs_of.ensures ∙ ap (gate_outs c.args.gate.now.kind) (c.as_slice-3.ensures ∙ terminals)) ∙ gate_outs_are number c.args.gate.now.kind (terminals_of m path c.args.gate.now))
    refl
