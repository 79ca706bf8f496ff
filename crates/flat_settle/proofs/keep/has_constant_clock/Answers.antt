use Rattle.std.proofs.Common.{◌≡◌, false, refl, sym, ◌∙◌, arith, true≢false}
use Rattle.std.proofs.lemmas.Option.{slice_get_read, slice_get_within}
use Rattle.flat_settle.specs.declared.raw.RawCell.{RawCell}
use Rattle.flat_settle.specs.Refusals.{is_constant}
use Rattle.flat_settle.proofs.KeepLemmas.{one_more}
use Rattle.flat_settle.proofs.keep.has_constant_clock.Goals as goal

pub returns-then-is_constant : goal.returns-then-is_constant
returns-then-is_constant c =
    let at = slice_get_read c.args.cells.now _ c.loop-cell.cell-index c.cell-item.result refl c.loop-cell-test.true c.cell-item.is in
    (λ _. (c.loop-cell.cell-index, c.cell-item.result, at, sym c.is_constant.ensures ∙ c.if-is_constant.true), λ _. refl)

pub loop-cell-preserved : goal.loop-cell-preserved
loop-cell-preserved c =
    let at = slice_get_read c.args.cells.now _ c.loop-cell.cell-index c.cell-item.result refl c.loop-cell-test.true c.cell-item.is in
    one_more (λ (cell : RawCell). is_constant cell.clock ≡ false) c.args.cells.now c.loop-cell.cell-index c.cell-item.result at c.loop-cell.invariant (sym c.is_constant.ensures ∙ c.if-is_constant.false)

pub returns : goal.returns
returns c = (
  λ t. absurd (true≢false (sym t)),
  λ (k, cell, at, is). absurd (true≢false (sym is ∙ c.loop-cell.invariant k cell (omega (arith, slice_get_within c.args.cells.now k cell at, c.loop-cell-test.false)) at)),
)
