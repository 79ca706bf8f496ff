use Rattle.ila_session.specs.Pieces.{piece_byte}
use Rattle.ila_session.proofs.Filling.{filled_all}
use Rattle.ila_session.proofs.outputs.fill_line.Goals as goal

pub returns : goal.returns
returns g c =
    filled_all (piece_byte (g.M.Machine.bit c.args.machine.now)) c.args.pieces.now c.loop-at.line c.loop-at.at c.loop-at-test.false c.loop-at.auto.at-end c.loop-at.invariant.long
    c.loop-at.invariant.done
