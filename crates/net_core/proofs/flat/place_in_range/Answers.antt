use Rattle.net_core.proofs.NetNameLemmas.{index_from_left, index_from_right, index_outside}
use Rattle.net_core.proofs.flat.place_in_range.Goals as goal

pub returns-then-index-left-clause-found : goal.returns-then-index-left-clause-found
returns-then-index-left-clause-found c = index_from_left c.args.left c.args.right c.args.index c.if-right-index.true c.if-index-left.true

pub returns-then-index-right-clause-found : goal.returns-then-index-right-clause-found
returns-then-index-right-clause-found c = index_from_right c.args.left c.args.right c.args.index c.if-left-index.true c.if-index-right.true

pub returns-else-left-index-clause-missing : goal.returns-else-left-index-clause-missing
returns-else-left-index-clause-missing c = index_outside c.args.left c.args.right c.args.index c.else-right-index.either c.else-left-index.either
