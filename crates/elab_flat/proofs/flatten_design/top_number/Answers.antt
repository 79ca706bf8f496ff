use Rattle.std.proofs.Common.{ap, sym, ◌∙◌}
use Rattle.vlog_parse.specs.declared.tree.Tree.{Tree}
use Rattle.vlog_check.specs.Scope.{module_number}
use Rattle.vlog_check.proofs.ContainedLaws.{module_low}
use Rattle.elab_flat.proofs.flatten_design.top_number.Goals as goal

pub returns-clause-low : goal.returns-clause-low
returns-clause-low c =
    module_low c.args.tree.now c.args.name.now c.in-Some.number
    (ap (λ (tree : Tree). module_number tree c.args.name.now) (sym c.in_ok-modules.ensures.own) ∙ sym (c.in_ok-modules.ensures.numbered c.args.name.now) ∙ sym c.get.ensures ∙ c.in-Some.is)
