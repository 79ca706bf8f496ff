use Rattle.ila_session.specs.Shown.{session_of}
use Rattle.ila_session.proofs.Headed.{ends_behind}
use Rattle.ila_session.proofs.session.show_text.Goals as goal

pub returns-clause-ends : goal.returns-clause-ends
returns-clause-ends g c =
    ends_behind c.args.head.now (g.T.ClockText.text c.args.text.now) (g.M.Machine.netlist c.args.machine.now)
    (session_of g.M.Machine g.S.Source g.K.Sink c.args.machine.now c.args.stim.now c.args.source.now c.args.trace.now)
    (session_of g.M.Machine g.S.Source g.K.Sink c.show_clocks.new.machine c.show_clocks.new.stim c.show_clocks.new.source c.show_clocks.new.trace)
    (g.K.Sink.written c.write_all.new.sink) (g.K.Sink.faults c.write_all.new.sink) c.show_clocks.result c.in_ok-write_all.ensures.bytes c.in_ok-write_all.ensures.later
    c.show_clocks.ensures.ends
