use Rattle.net_core.proofs.MarkLemmas.{Below}
use Rattle.flat_settle.specs.Tables.{Appends, HasAt, SeedHas}
use Rattle.flat_settle.proofs.driven.push_seeds.Given as goal

abbrev pub invariant-loop-cell : goal.invariant-loop-cell
invariant-loop-cell l = Appends l.initial.list l.list (Below (HasAt SeedHas l.cells) l.cell-index)
