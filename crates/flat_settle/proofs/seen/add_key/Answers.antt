use Rattle.flat_settle.proofs.SeenLemmas.{key_added}
use Rattle.flat_settle.proofs.seen.add_key.Goals as goal

pub returns : goal.returns
returns c = key_added c.args.keys.now.keys c.insert_full.new.self.keys c.args.key c.in_ok-_place.added c.in_ok-_place.ensures.added c.in_ok-_place.ensures.keys
