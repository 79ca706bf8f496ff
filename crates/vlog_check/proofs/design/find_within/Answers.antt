use Rattle.std.proofs.Common.{refl, subst, sym}
use Rattle.vlog_parse.specs.ReadTree.{item_exprs}
use Rattle.vlog_check.specs.Checked.{FindsWithin}
use Rattle.vlog_check.specs.Found.{IsLeastFinding}
use Rattle.vlog_check.specs.Names.{AreFew}
use Rattle.vlog_check.proofs.design.find_within.Goals as goal

pub find_in_assign-requires : goal.find_in_assign-requires
find_in_assign-requires c =
    let few = subst (λ x. AreFew (item_exprs x)) c.in-Assign.is c.requires.few in
    record { names = c.requires.names; target = few 0 c.in-Assign.target refl; value = few 1 c.in-Assign.value refl }

pub find_in_gate-requires : goal.find_in_gate-requires
find_in_gate-requires c = record { names = c.requires.names; few = subst (λ x. AreFew (item_exprs x)) c.in-Gate.is c.requires.few }

pub find_in_inst-requires : goal.find_in_inst-requires
find_in_inst-requires c = record { scope = c.requires.scope; names = c.requires.names; few = subst (λ x. AreFew (item_exprs x)) c.in-Inst.is c.requires.few }

pub returns-in_ok-found-in-Assign : goal.returns-in_ok-found-in-Assign
returns-in_ok-found-in-Assign c = subst (λ x. IsLeastFinding (FindsWithin c.args.scope.now.tree.now c.args.names.now.module.now x) c.in_ok-found-in-Assign.found) (sym c.in-Assign.is) c.in_ok-found-in-Assign.ensures

pub returns-in_ok-found-in-Gate : goal.returns-in_ok-found-in-Gate
returns-in_ok-found-in-Gate c = subst (λ x. IsLeastFinding (FindsWithin c.args.scope.now.tree.now c.args.names.now.module.now x) c.in_ok-found-in-Gate.found) (sym c.in-Gate.is) c.in_ok-found-in-Gate.ensures

pub returns-in_ok-found-in-Inst : goal.returns-in_ok-found-in-Inst
returns-in_ok-found-in-Inst c = subst (λ x. IsLeastFinding (FindsWithin c.args.scope.now.tree.now c.args.names.now.module.now x) c.in_ok-found-in-Inst.found) (sym c.in-Inst.is) c.in_ok-found-in-Inst.ensures
