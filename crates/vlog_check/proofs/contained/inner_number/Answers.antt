use Rattle.std.proofs.Common.{◌≡◌, Some, arith, sym, ap, ◌∙◌}
use Rattle.vlog_check.specs.Scope.{module_number, value_of}
use Rattle.vlog_check.proofs.ContainedLaws.{module_low}
use Rattle.vlog_check.proofs.contained.inner_number.Goals as goal

pub overflow_cast-result : goal.overflow_cast-result
overflow_cast-result c =
    let tree = c.args.scope.now.tree.now in
    let name = c.in-Inst.i.module in
    let is : module_number tree name ≡ Some c.in-Some.number = sym (c.requires.scope.numbers name) ∙ ap (value_of c.args.scope.now.modules) (sym c.bytes-in-Inst.ensures) ∙ sym c.get.ensures ∙ c.in-Some.is in
    omega (arith, module_low tree name c.in-Some.number is, c.requires.few)
