use Rattle.std.proofs.Common.{ℕ, List, ◌⊎◌, subst}
use Rattle.std.specs.Io.KnownBytes.{Appends}
use Rattle.ila_base.specs.Faults.{Rose, AppendsFront}
use Rattle.ila_top.specs.ErrorLine.{error_line}
use Rattle.ila_top.proofs.Lines.{reported}
use Rattle.ila_top.proofs.ending.report.Goals as goal

pub returns-clause-line : goal.returns-clause-line
returns-clause-line g c =
    let old = g.E.Sink.written c.args.errors.now in
    let new = g.E.Sink.written c.write_error.new.errors in
    let line : List ℕ → List ℕ = λ name. error_line c.args.ended.status name in
    let R : List ℕ → Type 0 = λ name. AppendsFront old new (line name) × (Rose (g.E.Sink.faults c.args.errors.now) (g.E.Sink.faults c.write_error.new.errors) ⊎ Appends old new (line name)) in
    subst R c.name_of.ensures (reported _ _ _ _ _ c.write_error.result c.write_error.ensures.bytes c.write_error.ensures.cause)
