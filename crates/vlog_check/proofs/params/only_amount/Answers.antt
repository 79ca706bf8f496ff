use Rattle.std.proofs.Common.{sym, ap, ◌∙◌}
use Rattle.std.specs.Option.{option_to_list}
use Rattle.std.specs.Str.{bytes_eq}
use Rattle.vlog_check.proofs.ParamLaws.{values_third, values_first, values_skip}
use Rattle.vlog_check.proofs.params.only_amount.Goals as goal
use Rattle.vlog_check.proofs.params.only_amount.Goals.{then-eq+else-is_some, else-eq}

pub returns-then-is_some : goal.returns-then-is_some
returns-then-is_some c =
    values_third c.args.limit c.args.own.now c.args.params.now c.loop-param.param-index c.param-item.result c.loop-param.seen c.eq.result c.loop-param-test.true c.param-item.is
    (c.eq.ensures ∙ ap (λ n. bytes_eq n c.args.own.now) c.bytes.ensures) c.if-eq.true c.loop-param.invariant (sym c.is_some.ensures ∙ c.if-is_some.true)

pub loop-param-preserved : goal.loop-param-preserved
loop-param-preserved c =
    let i = c.loop-param.param-index in
    let same = c.eq.ensures ∙ ap (λ n. bytes_eq n c.args.own.now) c.bytes.ensures in
    elim c.if-eq.branch [
      | then-eq+else-is_some w ↦ values_first c.args.own.now c.args.params.now i c.param-item.result c.loop-param.seen c.eq.result c.loop-param-test.true c.param-item.is same w.if-eq.true c.loop-param.invariant (sym w.is_some.ensures ∙ w.if-is_some.false) ∙ ap option_to_list (sym w.seen-is)
      | else-eq w ↦ values_skip c.args.own.now c.args.params.now i c.param-item.result c.loop-param.seen c.eq.result c.loop-param-test.true c.param-item.is same w.if-eq.false c.loop-param.invariant ∙ ap option_to_list (sym w.seen-is)
    ]
