use Rattle.std.proofs.Common.{subst, ◌∙◌}
use Rattle.ila_session.specs.Outputs.{outputs_of}
use Rattle.ila_session.specs.Shown.{session_of, Ends}
use Rattle.ila_session.proofs.Headed.{ends_outputs}
use Rattle.ila_session.proofs.session.show.Goals as goal

pub returns-clause-done : goal.returns-clause-done
returns-clause-done g c = λ n is.
    let before = session_of g.M.Machine g.S.Source g.K.Sink c.args.machine.now c.args.stim.now c.args.source.now c.args.trace.now in
    let after = session_of g.M.Machine g.S.Source g.K.Sink c.show_text.new.machine c.show_text.new.stim c.show_text.new.source c.show_text.new.trace in
    subst (λ r. Ends (outputs_of c.args.flat.now) c.args.flat.now before after r) is
    (ends_outputs c.args.flat.now (g.M.Machine.netlist c.args.machine.now) c.requires.netlist c.deref.result.now (c.deref.ensures.value ∙ c.in_ok-header.ensures)
    c.in_ok-outputs.outputs.pieces.items c.in_ok-outputs.ensures.text before after c.show_text.result c.show_text.ensures.ends)

pub returns-clause-refused : goal.returns-clause-refused
returns-clause-refused g c = λ why is.
    let before = session_of g.M.Machine g.S.Source g.K.Sink c.args.machine.now c.args.stim.now c.args.source.now c.args.trace.now in
    let after = session_of g.M.Machine g.S.Source g.K.Sink c.show_text.new.machine c.show_text.new.stim c.show_text.new.source c.show_text.new.trace in
    subst (λ r. Ends (outputs_of c.args.flat.now) c.args.flat.now before after r) is
    (ends_outputs c.args.flat.now (g.M.Machine.netlist c.args.machine.now) c.requires.netlist c.deref.result.now (c.deref.ensures.value ∙ c.in_ok-header.ensures)
    c.in_ok-outputs.outputs.pieces.items c.in_ok-outputs.ensures.text before after c.show_text.result c.show_text.ensures.ends)

pub returns-clause-read_fault : goal.returns-clause-read_fault
returns-clause-read_fault g c = λ is.
    let before = session_of g.M.Machine g.S.Source g.K.Sink c.args.machine.now c.args.stim.now c.args.source.now c.args.trace.now in
    let after = session_of g.M.Machine g.S.Source g.K.Sink c.show_text.new.machine c.show_text.new.stim c.show_text.new.source c.show_text.new.trace in
    subst (λ r. Ends (outputs_of c.args.flat.now) c.args.flat.now before after r) is
    (ends_outputs c.args.flat.now (g.M.Machine.netlist c.args.machine.now) c.requires.netlist c.deref.result.now (c.deref.ensures.value ∙ c.in_ok-header.ensures)
    c.in_ok-outputs.outputs.pieces.items c.in_ok-outputs.ensures.text before after c.show_text.result c.show_text.ensures.ends)

pub returns-clause-write_fault : goal.returns-clause-write_fault
returns-clause-write_fault g c = λ is.
    let before = session_of g.M.Machine g.S.Source g.K.Sink c.args.machine.now c.args.stim.now c.args.source.now c.args.trace.now in
    let after = session_of g.M.Machine g.S.Source g.K.Sink c.show_text.new.machine c.show_text.new.stim c.show_text.new.source c.show_text.new.trace in
    subst (λ r. Ends (outputs_of c.args.flat.now) c.args.flat.now before after r) is
    (ends_outputs c.args.flat.now (g.M.Machine.netlist c.args.machine.now) c.requires.netlist c.deref.result.now (c.deref.ensures.value ∙ c.in_ok-header.ensures)
    c.in_ok-outputs.outputs.pieces.items c.in_ok-outputs.ensures.text before after c.show_text.result c.show_text.ensures.ends)
