use Rattle.ila_session.proofs.DataNets.{digits_text, digits_nets, not_false}
use Rattle.ila_session.proofs.plan.push_digits.Goals as goal

pub returns-clause-text : goal.returns-clause-text
returns-clause-text c =
    digits_text c.args.flat.now c.args.port c.nets_of.result.now c.nets_of.ensures (not_false c.args.port.output c.if-not-port.false) c.args.words c.args.pieces.now.items c.push_space.new.pieces.items
    c.push_word.new.pieces.items c.in_ok-push_space.ensures c.in_ok-push_word.ensures

pub returns-clause-nets : goal.returns-clause-nets
returns-clause-nets c = λ flat all there.
    digits_nets c.args.flat.now flat c.args.port there (not_false c.args.port.output c.if-not-port.false) c.nets_of.result.now c.nets_of.ensures c.args.words c.args.pieces.now.items c.push_space.new.pieces.items
    c.push_word.new.pieces.items c.in_ok-push_space.ensures c.in_ok-push_word.ensures all
