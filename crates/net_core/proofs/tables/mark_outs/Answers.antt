use Rattle.std.proofs.Common.{◌≡◌, slice_get, Some, None, arith, ap, sym, ◌∙◌, List, Bool, subst, ◌+◌}
use Rattle.std.proofs.lemmas.Option.{slice_get-get_or}
use Rattle.net_core.specs.Tables.{AddsMarks}
use Rattle.net_core.proofs.MarkLemmas.{outs_some, outs_none, outs_all, Below, OutAt}
use Rattle.net_core.proofs.tables.mark_outs.Goals as goal
use Rattle.net_core.proofs.tables.mark_outs.Goals.{in-Some, in-None}

pub index_mut-requires : goal.index_mut-requires
index_mut-requires c =
    let at : slice_get c.args.outs.now c.loop-out.out-index ≡ Some (Some c.in-Some.net) =
    slice_get-get_or c.args.outs.now c.loop-out.out-index None c.loop-out-test.true ∙ ap (λ o. Some o) c.in-Some.is in
    omega (arith, c.requires c.in-Some.net.0 (c.loop-out.out-index, at), c.loop-out.invariant.size, c.loop-out.marks.ok.0)

pub loop-out-preserved : goal.loop-out-preserved
loop-out-preserved c = elim c.match-out.branch [
  | in-Some w ↦ (
      let at : slice_get c.args.outs.now c.loop-out.out-index ≡ Some (Some w.in-Some.net) =
      slice_get-get_or c.args.outs.now c.loop-out.out-index None c.loop-out-test.true ∙ ap (λ o. Some o) w.in-Some.is in
      subst (λ (marks : List Bool). AddsMarks c.args.marks.now.items marks (Below (OutAt c.args.outs.now) (c.loop-out.out-index + 1))) (sym (ap (λ v. v.items) w.marks-is))
      (outs_some c.args.outs.now c.loop-out.out-index w.in-Some.net c.args.marks.now.items c.loop-out.marks.items at
      (omega (arith, c.requires w.in-Some.net.0 (c.loop-out.out-index, at), c.loop-out.invariant.size)) c.loop-out.invariant))
  | in-None w ↦ (
      let at : slice_get c.args.outs.now c.loop-out.out-index ≡ Some None =
      slice_get-get_or c.args.outs.now c.loop-out.out-index None c.loop-out-test.true ∙ ap (λ o. Some o) w.in-None.is in
      subst (λ (marks : List Bool). AddsMarks c.args.marks.now.items marks (Below (OutAt c.args.outs.now) (c.loop-out.out-index + 1))) (sym (ap (λ v. v.items) w.marks-is))
      (outs_none c.args.outs.now c.loop-out.out-index c.args.marks.now.items c.loop-out.marks.items at c.loop-out.invariant))
]

pub returns : goal.returns
returns c = outs_all c.args.outs.now c.args.marks.now.items c.loop-out.marks.items c.loop-out.out-index c.loop-out-test.false c.loop-out.invariant
