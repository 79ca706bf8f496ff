use Rattle.std.proofs.Common.{arith}
use Rattle.ila_base.proofs.PlaceLaws.{col_at}
use Rattle.ila_base.proofs.place.Place.further.Goals as goal

pub behind_byte-place-requires-clause-col : goal.behind_byte-place-requires-clause-col
behind_byte-place-requires-clause-col c =
    omega (arith, col_at c.args.text.now c.loop-at.at c.loop-at.place (omega arith) c.loop-at.invariant, c.requires.within, c.requires.short)
