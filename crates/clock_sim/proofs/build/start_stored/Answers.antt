use Rattle.std.proofs.Common.{◌+◌, ℕ, List, Bool, refl, arith, sym, ◌∙◌, subst}
use Rattle.std.proofs.lemmas.Option.{slice_get_read}
use Rattle.clock_sim.specs.Plan.{IsStartTo}
use Rattle.clock_sim.proofs.AdvanceLemmas.{base_more}
use Rattle.clock_sim.proofs.BuildLemmas.{base_fits}
use Rattle.clock_sim.proofs.StartLemmas.{start_kept, start_set, set_inside}
use Rattle.clock_sim.proofs.build.start_stored.Goals as goal
use Rattle.clock_sim.proofs.build.start_stored.Goals.{then-initial_bit, else-initial_bit}

pub set-requires : goal.set-requires
set-requires c =
    let at = slice_get_read c.args.cells.now _ c.loop-cell.cell-index c.cell-item.result refl c.loop-cell-test.true c.cell-item.is in
    set_inside c.args.cells.now c.loop-cell.cell-index c.loop-cell.base c.cell-item.result c.loop-cell.stored at c.loop-cell.invariant.1 c.loop-cell.invariant.0
    (c.initial_bit.ensures 0 ∙ c.if-initial_bit.true)

pub content_size-base-requires : goal.content_size-base-requires
content_size-base-requires c =
    let at = slice_get_read c.args.cells.now _ c.loop-cell.cell-index c.cell-item.result refl c.loop-cell-test.true c.cell-item.is in
    c.requires.allowed c.loop-cell.cell-index c.cell-item.result at

pub overflow_add-base : goal.overflow_add-base
overflow_add-base c =
    let at = slice_get_read c.args.cells.now _ c.loop-cell.cell-index c.cell-item.result refl c.loop-cell-test.true c.cell-item.is in
    omega (arith, c.content_size-base.ensures, c.loop-cell.invariant.0, base_fits c.args.cells.now c.loop-cell.cell-index c.cell-item.result c.requires.allowed (omega (arith, c.loop-cell-test.true, c.requires.few)) at)

pub loop-cell-preserved : goal.loop-cell-preserved
loop-cell-preserved c =
    let at = slice_get_read c.args.cells.now _ c.loop-cell.cell-index c.cell-item.result refl c.loop-cell-test.true c.cell-item.is in
    let more = base_more c.args.cells.now c.loop-cell.cell-index c.cell-item.result at in (
      omega (arith, more, c.content_size-base.ensures, c.loop-cell.invariant.0),
      elim c.if-initial_bit.branch [
        | then-initial_bit w ↦ (
            let starts = λ (k : ℕ). c.initial_bit.ensures k ∙ w.if-initial_bit.true in
            let inside = set_inside c.args.cells.now c.loop-cell.cell-index c.loop-cell.base c.cell-item.result c.loop-cell.stored at c.loop-cell.invariant.1 c.loop-cell.invariant.0 (starts 0) in
            start_set c.args.cells.now c.loop-cell.cell-index c.loop-cell.base c.cell-item.result c.loop-cell.stored c.if-initial_bit.stored at c.loop-cell.invariant.1 c.loop-cell.invariant.0 inside
            (w.stored-is ∙ w.set.ensures) starts)
        | else-initial_bit w ↦ (
            let kept : IsStartTo c.args.cells.now (c.loop-cell.cell-index + 1) c.loop-cell.stored =
            start_kept c.args.cells.now c.loop-cell.cell-index c.cell-item.result c.loop-cell.stored at c.loop-cell.invariant.1 (λ k. c.initial_bit.ensures k ∙ w.if-initial_bit.false) in
            subst (λ (bits : List Bool). IsStartTo c.args.cells.now (c.loop-cell.cell-index + 1) bits) (sym w.stored-is) kept)
      ],
    )
