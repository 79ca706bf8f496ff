use Rattle.vlog_parse.proofs.TreeFacts.{read_as_tree}
use Rattle.vlog_parse.proofs.laws.read_trees.Goals as goal

pub returns : goal.returns
returns c = read_as_tree
