use Rattle.std.proofs.Common.{◌≡◌, None, refl, arith}
use Rattle.std.proofs.lemmas.Option.{slice_get_read, slice_get_within}
use Rattle.net_core.specs.declared.parts.Cell.{Cell}
use Rattle.net_core.specs.declared.parts.NetId.{NetId}
use Rattle.flat_settle.proofs.KeepLemmas.{one_more, first_here, none_there, match_some, match_none}
use Rattle.flat_settle.proofs.keep.first_clock.Goals as goal

pub returns-in-Some : goal.returns-in-Some
returns-in-Some c =
    let at = slice_get_read c.args.cells.now _ c.loop-cell.cell-index c.cell-item.result refl c.loop-cell-test.true c.cell-item.is in
    match_some _ c.in-Some.net _ (λ (net : NetId). c.in-Some.net ≡ net)
    (first_here (λ (cell : Cell). cell.clock) c.args.cells.now c.loop-cell.cell-index c.cell-item.result c.in-Some.net c.loop-cell.invariant at c.in-Some.is) refl

pub loop-cell-preserved : goal.loop-cell-preserved
loop-cell-preserved c =
    let at = slice_get_read c.args.cells.now _ c.loop-cell.cell-index c.cell-item.result refl c.loop-cell-test.true c.cell-item.is in
    one_more (λ (cell : Cell). cell.clock ≡ None) c.args.cells.now c.loop-cell.cell-index c.cell-item.result at c.loop-cell.invariant c.in-None.is

pub returns : goal.returns
returns c =
    match_none _ _ (λ (net : NetId). c.args.clock ≡ net)
    (none_there (λ (cell : Cell). cell.clock) c.args.cells.now (λ k cell at. c.loop-cell.invariant k cell (omega (arith, slice_get_within c.args.cells.now k cell at, c.loop-cell-test.false)) at)) refl
