use Rattle.ila_session.proofs.WordLaws.{word_step}
use Rattle.ila_session.proofs.pieces.push_word.Goals as goal

pub loop-k-preserved : goal.loop-k-preserved
loop-k-preserved c =
    word_step c.args.nets.now c.loop-k.k c.digit_at.result c.digit_at.ensures c.args.pieces.now.items c.loop-k.pieces.items c.push.new.self.items c.loop-k.invariant
    (c.in_ok-push.ensures.items)
