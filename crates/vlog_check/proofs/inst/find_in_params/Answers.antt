use Rattle.std.proofs.Common.{◌≡◌, is_some, subst, ap, ◌∙◌, take}
use Rattle.ila_base.specs.declared.refusal.NetRefusal.TheVariants as refusals
use Rattle.vlog_check.specs.declared.found.Detail.TheVariants.{Parameter}
use Rattle.vlog_check.specs.Found.{IsLeastFinding, FindsIf}
use Rattle.vlog_check.specs.FindingPins.{FindsParameter, is_bad_parameter}
use Rattle.vlog_check.specs.FindingWidths.{finding}
use Rattle.vlog_check.specs.Kinds.{kind_seen}
use Rattle.vlog_check.specs.Scope.{value_of}
use Rattle.vlog_check.proofs.LeastLaws.{least_start, least_step, least_end}
use Rattle.vlog_check.proofs.SeenLaws.{seen_more}
use Rattle.vlog_check.proofs.inst.find_in_params.Goals as goal

pub loop-k-init : goal.loop-k-init
loop-k-init c = (c.none_of-seen.ensures, least_start (FindsParameter c.args.i.now (kind_seen c.args.kind.now)) c.args.i.now.params)

pub loop-k-preserved : goal.loop-k-preserved
loop-k-preserved c =
    let i = c.args.i.now in
    let kind = kind_seen c.args.kind.now in
    let ys = c.as_slice-given.result.now in
    let twice : c.has-twice.result ≡ is_some (value_of (take c.loop-k.k i.params) c.index-given-k.result.0) = c.has-twice.ensures (take c.loop-k.k i.params) c.loop-k.invariant.0 ∙ ap (λ n. is_some (value_of (take c.loop-k.k i.params) n)) c.bytes-name.ensures in (
      seen_more ys i.params c.loop-k.k c.loop-k.seen c.in_ok-seen.seen c.as_slice-given.ensures c.in_ok-seen.ensures c.loop-k.invariant.0,
      least_step (FindsParameter i kind) ys i.params c.loop-k.k c.index-given-k.result c.loop-k.best c.in_ok-found.found c.keep_earlier.new.best c.as_slice-given.ensures c.loop-k-test.true c.index-given-k.is c.loop-k.invariant.1
          (subst (λ b. IsLeastFinding (FindsIf b (finding i.place (Parameter c.loop-k.k) (refusals.Pin c.index-given-k.result.0))) c.in_ok-found.found) (c.is_bad_parameter-bad.ensures ∙ ap (λ b. is_bad_parameter kind b c.index-given-k.result) twice)
          (subst (λ n. IsLeastFinding (FindsIf c.is_bad_parameter-bad.result (finding i.place (Parameter c.loop-k.k) (refusals.Pin n))) c.in_ok-found.found) c.bytes-name.ensures c.in_ok-found.ensures))
          c.keep_earlier.ensures,
    )

pub returns : goal.returns
returns c = least_end (FindsParameter c.args.i.now (kind_seen c.args.kind.now)) c.as_slice-given.result.now c.args.i.now.params c.loop-k.k c.loop-k.best c.as_slice-given.ensures c.loop-k-test.false c.loop-k.invariant.1
