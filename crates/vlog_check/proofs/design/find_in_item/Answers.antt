use Rattle.vlog_check.specs.Checked.{FindsWithin}
use Rattle.vlog_check.specs.FindingNames.{FindsOutside}
use Rattle.vlog_check.proofs.LeastLaws.{least_joined}
use Rattle.vlog_check.proofs.design.find_in_item.Goals as goal

pub find_within-requires : goal.find_within-requires
find_within-requires c = record { scope = c.requires.scope; names = c.requires.names; few = c.requires.few }

pub returns : goal.returns
returns c k =
    let m = c.args.names.now.module.now in
    let item = c.args.item.now in
    least_joined (FindsOutside m item) (FindsWithin c.args.scope.now.tree.now m item) c.in_ok-best.best c.in_ok-within.within c.keep_earlier.new.best c.in_ok-best.ensures c.in_ok-within.ensures c.keep_earlier.ensures
