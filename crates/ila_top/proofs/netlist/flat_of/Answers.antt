use Rattle.std.proofs.Common.{ℕ, List, subst}
use Rattle.std.specs.Prelude.{IfOk, IfErr, OnOk}
use Rattle.std.proofs.lemmas.Result.{err_from_is_err_and}
use Rattle.ila_base.specs.declared.fault.NetFault.{NetFault}
use Rattle.ila_base.specs.Stops.{StopsFor}
use Rattle.vlog_parse.specs.declared.tree.Tree.{Tree}
use Rattle.elab_design.specs.Limits.{IsElabFault}
use Rattle.elab_design.specs.Elaborates.{Elaborates}
use Rattle.ila_top.proofs.Refused.{check_refused, unfold_refused_by, net_of}
use Rattle.ila_top.proofs.netlist.flat_of.Goals as goal

pub returns-in_err-tree-clause-refused : goal.returns-in_err-tree-clause-refused
returns-in_err-tree-clause-refused c =
    let p = err_from_is_err_and c.from_residual.result c.from_residual.ensures.1 in
    rw (p.1, p.2) (c.in_err-tree.ensures.refused c.args.top.now c.args.clock.now)

pub returns-in_err-design-clause-refused : goal.returns-in_err-design-clause-refused
returns-in_err-design-clause-refused c =
    let p = err_from_is_err_and c.from_residual-in_err-design.result c.from_residual-in_err-design.ensures.1 in
    rw (p.1, p.2) (check_refused c.args.bytes.now c.args.top.now c.args.clock.now c.in_ok-tree.tree _ c.in_ok-tree.ensures.read c.in_err-design.ensures.refused)

pub returns-clause-refused : goal.returns-clause-refused
returns-clause-refused c =
    let found = c.in_ok-design.ensures.found in
    let T : Tree → Type 0 = λ tree. IfErr c.flatten.result (StopsFor (IsElabFault (record { tree = tree; top = c.in_ok-design.design.top; clock = c.args.clock.now }))) in
    let N : List ℕ → Type 0 = λ name. IfErr c.flatten.result (StopsFor (IsElabFault (record { tree = c.in_ok-tree.tree; top = name; clock = c.args.clock.now }))) in
    unfold_refused_by c.args.bytes.now c.args.top.now c.args.clock.now c.in_ok-tree.tree c.flatten.result c.in_ok-tree.ensures.read found.2
    (subst N found.1 (subst T found.0 c.flatten.ensures.refused))

pub returns-clause-found : goal.returns-clause-found
returns-clause-found c =
    let found = c.in_ok-design.ensures.found in
    let B : Tree → List ℕ → Type 0 = λ tree name. IfOk c.flatten.result (Elaborates (record { tree = tree; top = name; clock = c.args.clock.now }))
    × OnOk c.flatten.result ((fault : NetFault) → ¬ IsElabFault (record { tree = tree; top = name; clock = c.args.clock.now }) fault) in
    let T : Tree → Type 0 = λ tree. B tree c.in_ok-design.design.top in
    let N : List ℕ → Type 0 = λ name. B c.in_ok-tree.tree name in
    let both = subst N found.1 (subst T found.0 (c.flatten.ensures.found, c.flatten.ensures.accepted)) in
    net_of c.args.bytes.now c.args.top.now c.args.clock.now c.in_ok-tree.tree c.flatten.result c.in_ok-tree.ensures.stands c.in_ok-tree.ensures.read found.2 both.0 c.flatten.ensures.kept both.1
