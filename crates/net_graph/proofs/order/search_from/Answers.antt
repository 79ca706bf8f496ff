use Rattle.std.proofs.Common.{◌∙◌}
use Rattle.std.proofs.lemmas.Option.{get_or_from_slice_get}
use Rattle.net_graph.specs.declared.search.Visit.TheVariants.{New}
use Rattle.net_graph.proofs.order.search_from.Goals as goal

pub returns-in_default : goal.returns-in_default
returns-in_default c = record {
  search = c.requires.search;
  seen = λ n at. at;
  cases = (c.requires.empty, λ at. c.in_default.not-New (c.index.ensures ∙ get_or_from_slice_get c.args.search.now.visits.items c.args.root New c.index.result.now at));
}
