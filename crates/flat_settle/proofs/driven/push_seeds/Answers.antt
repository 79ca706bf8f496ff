use Rattle.std.proofs.Common.{refl}
use Rattle.std.proofs.lemmas.Option.{slice_get_read}
use Rattle.flat_settle.specs.Tables.{SeedHas}
use Rattle.flat_settle.proofs.AppendLemmas.{items_more, items_all}
use Rattle.flat_settle.proofs.driven.push_seeds.Goals as goal

pub loop-cell-preserved : goal.loop-cell-preserved
loop-cell-preserved c =
    let at = slice_get_read c.args.cells.now _ c.loop-cell.cell-index c.cell-item.result refl c.loop-cell-test.true c.cell-item.is in
    items_more SeedHas c.args.cells.now c.loop-cell.cell-index c.cell-item.result (SeedHas 0 c.cell-item.result) c.args.list.now c.loop-cell.list c.push_seed.new.list at (λ n p. p) (λ n p. p)
    c.loop-cell.invariant c.in_ok-push_seed.ensures

pub returns : goal.returns
returns c = items_all SeedHas c.args.cells.now c.loop-cell.cell-index c.args.list.now c.loop-cell.list c.loop-cell-test.false c.loop-cell.invariant
