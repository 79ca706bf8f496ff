use Rattle.std.proofs.Common.{map, sym, subst}
use Rattle.std.specs.Prelude.{string_bytes}
use Rattle.ila_top.specs.declared.status.Status.{Status}
use Rattle.ila_top.specs.Commands.{asked}
use Rattle.ila_top.specs.Outside.{Outside, outside_of}
use Rattle.ila_top.specs.Answers.{IsAnswered, Comes, IsComplete}
use Rattle.ila_top.proofs.AnswerLaws as laws
use Rattle.ila_top.proofs.top.ila.Goals as goal

pub returns-clause-answers : goal.returns-clause-answers
returns-clause-answers g c =
    let before : Outside _ _ = outside_of g.H.Shelf g.S.Source g.K.Sink c.args.shelf.now c.args.stimulus.now c.args.trace.now in
    let after : Outside _ _ = outside_of g.H.Shelf g.S.Source g.K.Sink c.answer-ended.new.shelf c.answer-ended.new.stimulus c.answer-ended.new.trace in
    let I : Status → Type 0 = λ status. IsAnswered (asked (map string_bytes c.args.words.now)) before after (g.E.Sink.written c.args.errors.now)
    (g.E.Sink.written c.report.new.errors) (g.E.Sink.faults c.args.errors.now) (g.E.Sink.faults c.report.new.errors) status in
    subst I (sym c.report.ensures.same) (record { core = c.answer-ended.result.core; cause = c.answer-ended.ensures.answers; line = c.report.ensures.line })

pub returns-clause-comes : goal.returns-clause-comes
returns-clause-comes g c =
    let before : Outside _ _ = outside_of g.H.Shelf g.S.Source g.K.Sink c.args.shelf.now c.args.stimulus.now c.args.trace.now in
    let after : Outside _ _ = outside_of g.H.Shelf g.S.Source g.K.Sink c.answer-ended.new.shelf c.answer-ended.new.stimulus c.answer-ended.new.trace in
    let C : Status → Type 0 = λ status. Comes (asked (map string_bytes c.args.words.now)) before status in
    subst C (sym c.report.ensures.same)
    (laws.comes before after c.sim_is_exact.ensures (asked (map string_bytes c.args.words.now)) c.answer-ended.result.status c.answer-ended.result.core
    c.answer-ended.ensures.answers)

pub returns-clause-complete : goal.returns-clause-complete
returns-clause-complete g c =
    let before : Outside _ _ = outside_of g.H.Shelf g.S.Source g.K.Sink c.args.shelf.now c.args.stimulus.now c.args.trace.now in
    let after : Outside _ _ = outside_of g.H.Shelf g.S.Source g.K.Sink c.answer-ended.new.shelf c.answer-ended.new.stimulus c.answer-ended.new.trace in
    let C : Status → Type 0 = λ status. IsComplete (asked (map string_bytes c.args.words.now)) before after status in
    subst C (sym c.report.ensures.same)
    (laws.complete before after (asked (map string_bytes c.args.words.now)) c.answer-ended.result.status c.answer-ended.result.core c.answer-ended.ensures.answers)
