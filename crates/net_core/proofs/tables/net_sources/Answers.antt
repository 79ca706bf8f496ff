use Rattle.std.proofs.Common.{slice_get, refl, arith, ap, sym, ◌∙◌, subst, List, Option, ℕ, ◌+◌}
use Rattle.std.proofs.lemmas.Option.{slice_get_read}
use Rattle.net_core.specs.declared.parts.NetId.{NetId}
use Rattle.net_core.specs.Tables.{Writes, IsOn}
use Rattle.net_core.proofs.SourceLemmas.{SourcesBelow, sources_none, source_written, source_skipped, sources_all}
use Rattle.net_core.proofs.tables.net_sources.Goals as goal
use Rattle.net_core.proofs.tables.net_sources.Goals.{in-Some, in-None}

pub loop-cell-init : goal.loop-cell-init
loop-cell-init c =
    sources_none c.args.cells.now c.args.count c.in_ok-sources.sources.items c.in_ok-sources.ensures

pub feed-requires : goal.feed-requires
feed-requires c = λ n (k, on).
    let at = slice_get_read c.args.cells.now _ c.loop-cell.cell-index c.cell-item.result refl c.loop-cell-test.true c.cell-item.is in
    omega (arith, c.requires n (c.loop-cell.cell-index, c.cell-item.result, k, record { at = at; on = sym (ap (λ outs. slice_get outs k) c.as_slice.ensures) ∙ on }), c.loop-cell.invariant.size)

pub loop-cell-preserved : goal.loop-cell-preserved
loop-cell-preserved c = elim c.match-buffer_input.branch [
  | in-Some w ↦ (
      let at = slice_get_read c.args.cells.now _ c.loop-cell.cell-index c.cell-item.result refl c.loop-cell-test.true c.cell-item.is in
      subst (λ (sources : List ℕ). SourcesBelow c.args.cells.now (c.loop-cell.cell-index + 1) c.args.count sources) (sym (ap (λ v. v.items) w.sources-is))
      (source_written c.args.cells.now c.loop-cell.cell-index c.args.count c.cell-item.result w.in-Some.net.0 c.loop-cell.sources.items w.feed.new.sources.items at w.in-Some.ensures.found c.loop-cell.invariant
      (subst (λ (outs : List (Option NetId)). Writes c.loop-cell.sources.items w.feed.new.sources.items (IsOn outs) w.in-Some.net.0) w.as_slice.ensures w.feed.ensures)))
  | in-None w ↦ (
      let at = slice_get_read c.args.cells.now _ c.loop-cell.cell-index c.cell-item.result refl c.loop-cell-test.true c.cell-item.is in
      subst (λ (sources : List ℕ). SourcesBelow c.args.cells.now (c.loop-cell.cell-index + 1) c.args.count sources) (sym (ap (λ v. v.items) w.sources-is))
      (source_skipped c.args.cells.now c.loop-cell.cell-index c.args.count c.cell-item.result c.loop-cell.sources.items at w.in-None.ensures.missing c.loop-cell.invariant))
]

pub returns : goal.returns
returns c = sources_all c.args.cells.now c.loop-cell.cell-index c.args.count c.loop-cell.sources.items c.loop-cell-test.false c.loop-cell.invariant
