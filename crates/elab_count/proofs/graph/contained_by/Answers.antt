use Rattle.std.proofs.Common.{Some, sym, ap, ◌∙◌, arith}
use Rattle.elab_count.proofs.InstanceLaws.{part_low}
use Rattle.elab_count.proofs.graph.contained_by.Goals as goal

pub overflow_cast-result : goal.overflow_cast-result
overflow_cast-result c = omega (arith, part_low c.args.modules.now.tree.now c.in-Inst.inst c.in-Some-Module.number (sym c.part_of.ensures ∙ c.in-Some-Module.is ∙ ap (λ p. Some p) c.in-Some-Module.field-0-is), c.requires.few)
