use Rattle.std.proofs.Common.{◌≡◌, slice_get, Some, None, ap, sym, ◌∙◌, List, ℕ, subst, ◌+◌}
use Rattle.std.proofs.lemmas.Option.{slice_get-get_or}
use Rattle.net_core.proofs.MarkLemmas.{Below, OutAt}
use Rattle.flat_settle.specs.Tables.{Appends}
use Rattle.flat_settle.proofs.AppendLemmas.{outs_some, outs_none, outs_all}
use Rattle.flat_settle.proofs.steps.push_outs.Goals as goal
use Rattle.flat_settle.proofs.steps.push_outs.Goals.{in-Some+in_ok-push-in-Some, in-None}

pub loop-out-preserved : goal.loop-out-preserved
loop-out-preserved c = elim c.match-out.branch [
  | in-Some+in_ok-push-in-Some w ↦ (
      let at : slice_get c.args.outs.now c.loop-out.out-index ≡ Some (Some w.in-Some.net) =
      slice_get-get_or c.args.outs.now c.loop-out.out-index None c.loop-out-test.true ∙ ap (λ o. Some o) w.in-Some.is in
      subst (λ (list : List ℕ). Appends c.args.list.now list (Below (OutAt c.args.outs.now) (c.loop-out.out-index + 1))) (sym (w.list-is ∙ w.in_ok-push-in-Some.ensures.ok))
      (outs_some c.args.outs.now c.loop-out.out-index w.in-Some.net c.args.list.now c.loop-out.list at c.loop-out.invariant))
  | in-None w ↦ (
      let at : slice_get c.args.outs.now c.loop-out.out-index ≡ Some None =
      slice_get-get_or c.args.outs.now c.loop-out.out-index None c.loop-out-test.true ∙ ap (λ o. Some o) w.in-None.is in
      subst (λ (list : List ℕ). Appends c.args.list.now list (Below (OutAt c.args.outs.now) (c.loop-out.out-index + 1))) (sym w.list-is)
      (outs_none c.args.outs.now c.loop-out.out-index c.args.list.now c.loop-out.list at c.loop-out.invariant))
]

pub returns : goal.returns
returns c = outs_all c.args.outs.now c.args.list.now c.loop-out.list c.loop-out.out-index c.loop-out-test.false c.loop-out.invariant
