use Rattle.std.proofs.Common.{◌≡◌, ℕ, List, map, ap, subst, ◌∙◌}
use Rattle.ila_base.specs.Faults.{Writes}
use Rattle.ila_session.specs.Pieces.{piece_byte}
use Rattle.ila_session.proofs.Filling.{filled_back}
use Rattle.ila_session.proofs.LineBits.{same_line}
use Rattle.ila_session.proofs.outputs.OutputsClockText.write.Goals as goal

pub returns-clause-bytes : goal.returns-clause-bytes
returns-clause-bytes g c = λ bit t _ same.
    let own = c.args.self.now in
    let now = g.M.Machine.bit c.args.machine.now in
    let line : c.deref.result.now ≡ map (piece_byte (bit t)) own.pieces.items =
    c.deref.ensures.value ∙ filled_back c.fill_line.new.line own.line.items own.line.len (c.fill_line.auto.line ∙ c.deref_mut.ensures.len)
    ∙ c.fill_line.ensures ∙ ap (map (piece_byte now)) c.as_slice.ensures.value
    ∙ same_line (g.M.Machine.netlist c.args.machine.now) now (bit t) same own.pieces.items c.requires in
    let W : List ℕ → Type 0 = λ bytes. Writes (g.K.Sink.written c.args.trace.now) (g.K.Sink.written c.write_all.new.sink) c.write_all.result bytes in
    subst W line c.write_all.ensures.bytes
