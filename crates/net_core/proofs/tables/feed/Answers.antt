use Rattle.std.proofs.Common.{◌≡◌, slice_get, Some, None, arith, ap, sym, ◌∙◌, List, ℕ, subst, ◌+◌}
use Rattle.std.proofs.lemmas.Option.{slice_get-get_or}
use Rattle.net_core.specs.Tables.{Writes}
use Rattle.net_core.proofs.MarkLemmas.{Below, OutAt}
use Rattle.net_core.proofs.SourceLemmas.{writes_none, out_written, out_skipped, outs_written}
use Rattle.net_core.proofs.tables.feed.Goals as goal
use Rattle.net_core.proofs.tables.feed.Goals.{in-Some, in-None}

pub index_mut-requires : goal.index_mut-requires
index_mut-requires c =
    let at : slice_get c.args.outs.now c.loop-out.out-index ≡ Some (Some c.in-Some.net) =
    slice_get-get_or c.args.outs.now c.loop-out.out-index None c.loop-out-test.true ∙ ap (λ o. Some o) c.in-Some.is in
    omega (arith, c.requires c.in-Some.net.0 (c.loop-out.out-index, at), c.loop-out.invariant.size, c.loop-out.sources.ok.0)

pub loop-out-init : goal.loop-out-init
loop-out-init c = writes_none (OutAt c.args.outs.now) c.args.sources.now.items c.args.source

pub loop-out-preserved : goal.loop-out-preserved
loop-out-preserved c = elim c.match-out.branch [
  | in-Some w ↦ (
      let at : slice_get c.args.outs.now c.loop-out.out-index ≡ Some (Some w.in-Some.net) =
      slice_get-get_or c.args.outs.now c.loop-out.out-index None c.loop-out-test.true ∙ ap (λ o. Some o) w.in-Some.is in
      subst (λ (sources : List ℕ). Writes c.args.sources.now.items sources (Below (OutAt c.args.outs.now) (c.loop-out.out-index + 1)) c.args.source) (sym (ap (λ v. v.items) w.sources-is))
      (out_written c.args.outs.now c.loop-out.out-index w.in-Some.net c.args.sources.now.items c.loop-out.sources.items c.args.source at
      (omega (arith, c.requires w.in-Some.net.0 (c.loop-out.out-index, at), c.loop-out.invariant.size)) c.loop-out.invariant))
  | in-None w ↦ (
      let at : slice_get c.args.outs.now c.loop-out.out-index ≡ Some None =
      slice_get-get_or c.args.outs.now c.loop-out.out-index None c.loop-out-test.true ∙ ap (λ o. Some o) w.in-None.is in
      subst (λ (sources : List ℕ). Writes c.args.sources.now.items sources (Below (OutAt c.args.outs.now) (c.loop-out.out-index + 1)) c.args.source) (sym (ap (λ v. v.items) w.sources-is))
      (out_skipped c.args.outs.now c.loop-out.out-index c.args.sources.now.items c.loop-out.sources.items c.args.source at c.loop-out.invariant))
]

pub returns : goal.returns
returns c = outs_written c.args.outs.now c.loop-out.out-index c.args.sources.now.items c.loop-out.sources.items c.args.source c.loop-out-test.false c.loop-out.invariant
