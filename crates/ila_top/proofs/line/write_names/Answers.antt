use Rattle.std.proofs.Common.{ℕ, List, ◌∙◌, append-nil, subst}
use Rattle.std.proofs.lemmas.Result.{err_from_is_err_and}
use Rattle.ila_base.specs.Faults.{AppendsFront}
use Rattle.ila_base.specs.FaultLaws.{front_of_pieces}
use Rattle.ila_top.specs.ErrorLine.{spaced}
use Rattle.ila_top.proofs.line.write_names.Goals as goal

pub returns-in_err-write_pieces-clause-bytes : goal.returns-in_err-write_pieces-clause-bytes
returns-in_err-write_pieces-clause-bytes g c =
    let p = err_from_is_err_and c.from_residual.result c.from_residual.ensures.1 in
    let P : List ℕ → Type 0 = λ name. AppendsFront (g.E.Sink.written c.loop-name.errors) (g.E.Sink.written c.write_pieces.new.sink) (spaced name) in
    let piece : P c.bytes.result.now = rw append-nil at c.in_err-write_pieces.ensures.bytes in
    rw p.1 (front_of_pieces spaced _ _ _ c.args.names.now c.loop-name.name-index c.name-item.result c.loop-name-test.true
    c.loop-name.invariant.front (subst P (c.bytes.ensures ∙ c.name-item.is) piece))
