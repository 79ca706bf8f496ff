use Rattle.std.proofs.Common.{◌∙◌, ap, length, arith}
use Rattle.std.proofs.lemmas.List.{take_all}
use Rattle.vlog_check.specs.Scope.{value_of}
use Rattle.elab_unfold.specs.Steps.{directions_of}
use Rattle.elab_unfold.proofs.TableLaws.{directions_are}
use Rattle.elab_unfold.proofs.plan.read_directions.Goals as goal

pub returns : goal.returns
returns c name =
    c.loop-item.invariant name
    ∙ ap (λ given. value_of (directions_of given) name) (take_all c.loop-item.item-index c.args.m.now.items (omega (arith, c.loop-item-test.false, ap length c.as_slice-item-items.ensures)))
    ∙ directions_are c.args.m.now.items name
