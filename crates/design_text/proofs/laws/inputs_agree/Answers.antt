use Rattle.std.proofs.Common.{◌≡◌, ap, sym, ◌∙◌}
use Rattle.std.proofs.lemmas.Option.{same_Some}
use Rattle.vlog_parse.specs.declared.tree.Module.{Module}
use Rattle.design_text.specs.DesignText.{design_inputs}
use Rattle.design_text.proofs.InputLaws.{inputs_are}
use Rattle.design_text.proofs.laws.inputs_agree.Goals as goal

pub returns : goal.returns
returns c = λ d net top checked flat own is_top.
    let same : own.order.top ≡ top = same_Some own.order.top top (sym own.order.is_top ∙ is_top) in
    inputs_are d net own flat (λ k name at. c.ports_of_flat.ensures.ports d net own checked flat k name at) (λ k name b at way there. c.ports_of_flat.ensures.clock d net own checked flat k name b at way there)
    ∙ ap (λ (m : Module). design_inputs m d.clock) same
