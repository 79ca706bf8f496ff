use Rattle.std.proofs.Common.{◌∙◌, ap, sym}
use Rattle.std.specs.Str.{bytes_eq}
use Rattle.std.specs.Option.{unwrap_or}
use Rattle.elab_unfold.proofs.LeafLaws.{look_found, look_past, parameter_found}
use Rattle.elab_unfold.proofs.leaves.parameter.Goals as goal

pub returns-then-eq : goal.returns-then-eq
returns-then-eq c =
    parameter_found c.args.params.now c.args.name.now c.args.missing c.unwrap_or.result c.param-item.result.1
    (look_found c.args.params.now c.loop-param.param-index c.param-item.result c.args.name.now c.loop-param-test.true c.param-item.is c.loop-param.invariant (ap (bytes_eq c.args.name.now) (sym c.bytes.ensures) ∙ sym c.eq.ensures ∙ c.if-eq.true))
    (c.unwrap_or.ensures ∙ ap (λ o. unwrap_or o c.args.missing) c.number_in.ensures)

pub loop-param-preserved : goal.loop-param-preserved
loop-param-preserved c = look_past c.args.params.now c.loop-param.param-index c.param-item.result c.args.name.now c.loop-param-test.true c.param-item.is c.loop-param.invariant (ap (bytes_eq c.args.name.now) (sym c.bytes.ensures) ∙ sym c.eq.ensures ∙ c.if-eq.false)
