use Rattle.std.proofs.Common.{ℕ, List, OnOk, subst, ◌∙◌}
use Rattle.ila_base.specs.declared.fault.NetFault.{NetFault}
use Rattle.vlog_parse.specs.declared.tree.Tree.{Tree}
use Rattle.elab_design.specs.Limits.{IsElabFault}
use Rattle.elab_flat.proofs.flatten_design.flatten.Goals as goal

pub returns-clause-accepted : goal.returns-clause-accepted
returns-clause-accepted c =
    let design = c.args.design.now in
    let T : Tree → Type 0 = λ tree. OnOk c.flatten_tree.result ((f : NetFault) → ¬ IsElabFault (record { tree = tree; top = c.bytes-name.result.now; clock = c.as_bytes.result.now }) f) in
    let N : List ℕ → Type 0 = λ name. OnOk c.flatten_tree.result ((f : NetFault) → ¬ IsElabFault (record { tree = design.tree; top = name; clock = c.as_bytes.result.now }) f) in
    let C : List ℕ → Type 0 = λ clock. OnOk c.flatten_tree.result ((f : NetFault) → ¬ IsElabFault (record { tree = design.tree; top = design.top; clock = clock }) f) in
    subst C c.as_bytes.ensures.value (subst N (c.bytes-name.ensures ∙ c.top.ensures.top) (subst T c.tree.ensures.tree c.flatten_tree.ensures.accepted))
