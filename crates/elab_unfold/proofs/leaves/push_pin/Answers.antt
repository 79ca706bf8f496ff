use Rattle.elab_unfold.proofs.LeafLaws.{connected_sound}
use Rattle.elab_unfold.proofs.leaves.push_pin.Goals as goal

pub push_pins-requires-clause-sound : goal.push_pins-requires-clause-sound
push_pins-requires-clause-sound c = connected_sound c.args.places.now.holder.now c.args.inst.now.conns 0 _ c.connected.result c.in-Some.e c.requires.sound c.connected.ensures c.in-Some.is
