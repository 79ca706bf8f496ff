use Rattle.ila_top.proofs.OneText.{TextLaws}
use Rattle.ila_top.proofs.SimLaws.{AnswerLaws, sim_exact}
use Rattle.ila_top.proofs.laws.sim_is_exact.Goals as goal

pub returns : goal.returns
returns c =
    let texts : TextLaws = record {
      reading = c.one_reading.ensures;
      tree = c.one_tree.ensures;
      refusal = c.one_refusal.ensures.one;
      no_refusal = c.one_refusal.ensures.none;
      finding = c.one_refusal_of_text.ensures;
      no_finding = c.one_refusal-2.ensures.none;
      elaboration = c.one_fault.ensures.one;
      flat = c.one_flat.ensures;
    } in
    let laws : AnswerLaws = record {
      texts = texts;
      inputs = λ d net top checked flat own is_top. c.inputs_agree.ensures d net top checked flat own is_top;
      names = c.inputs_have_names.ensures;
      refusal = c.one_refusal-3.ensures.one;
      no_refusal = c.one_refusal-3.ensures.none;
    } in
    λ words. sim_exact laws words
