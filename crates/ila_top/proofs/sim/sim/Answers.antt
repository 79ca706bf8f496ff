use Rattle.std.proofs.Common.{refl, sym, subst}
use Rattle.ila_top.specs.declared.status.Ended.{Ended}
use Rattle.ila_top.specs.Outside.{Outside, outside_of}
use Rattle.ila_top.specs.Meaning.{Ends, did}
use Rattle.ila_top.specs.Simulating.{sim}
use Rattle.ila_top.specs.Words.{words_of}
use Rattle.ila_top.proofs.Refused.{kept_files}
use Rattle.ila_top.proofs.sim.sim.Goals as goal

pub returns-clause-ends : goal.returns-clause-ends
returns-clause-ends g c =
    let before : Outside _ _ = outside_of g.H.Shelf g.S.Source g.K.Sink c.args.shelf.now c.args.stimulus.now c.args.trace.now in
    let after : Outside _ _ = outside_of g.H.Shelf g.S.Source g.K.Sink c.design_of.new.shelf c.simulate.new.stimulus c.simulate.new.trace in
    let E : Ended → Type 0 = λ ended. Ends (sim (words_of c.args.words.now)) before after ended in
    let given = c.in-Ok.ensures.given in
    subst E (sym c.plain.ensures) (did given.0 given.1 (c.simulate.ensures.answers given.0 given.2, kept_files _ _ c.design_of.ensures.kept) refl)
