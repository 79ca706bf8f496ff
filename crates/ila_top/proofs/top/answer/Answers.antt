use Rattle.std.proofs.Common.{Option, subst}
use Rattle.ila_top.specs.Commands.{Asked}
use Rattle.ila_top.specs.Outside.{Outside, outside_of}
use Rattle.ila_top.specs.Answers.{Answers}
use Rattle.ila_top.proofs.top.answer.Goals as goal

pub returns-in-Sim-clause-answers : goal.returns-in-Sim-clause-answers
returns-in-Sim-clause-answers g c =
    let before : Outside _ _ = outside_of g.H.Shelf g.S.Source g.K.Sink c.args.shelf.now c.args.stimulus.now c.args.trace.now in
    let after : Outside _ _ = outside_of g.H.Shelf g.S.Source g.K.Sink c.sim.new.shelf c.sim.new.stimulus c.sim.new.trace in
    let A : Option Asked → Type 0 = λ words. Answers words before after c.sim.result in
    subst A c.in-Sim.ensures c.sim.ensures.ends
