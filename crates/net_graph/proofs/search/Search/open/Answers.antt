use Rattle.std.proofs.Common.{◌≡◌, slice_index, arith}
use Rattle.std.proofs.lemmas.List.{get_or_read}
use Rattle.std.proofs.lemmas.Option.{slice_get_within}
use Rattle.net_graph.specs.declared.search.Visit.TheVariants.{New, Open}
use Rattle.net_graph.proofs.ListLemmas.{slice_get_set_same}
use Rattle.net_graph.proofs.SearchLemmas.{search_opened, seen_opened, work_opened}
use Rattle.net_graph.proofs.search.Search.open.Goals as goal

begin : (c : goal.After-self-1) → c.index.result.now ≡ slice_index c.args.graph.now.starts.items c.args.node
begin c =
    get_or_read c.args.graph.now.starts.items _ _ (omega (arith, slice_get_within c.args.self.now.visits.items c.args.node New c.requires.new, c.requires.search.size)) c.index.ensures 0

pub returns-clause-search : goal.returns-clause-search
returns-clause-search c =
    rw c.in_ok-push.ensures.items
    (search_opened c.args.graph.now.starts.items c.args.graph.now.sources.items c.args.self.now.visits.items c.args.self.now.path.items c.args.self.now.found c.args.node c.index.result.now c.requires.search c.args.graph.now.rows (begin c) c.requires.new c.requires.leads)

pub returns-clause-less : goal.returns-clause-less
returns-clause-less c =
    rw c.in_ok-push.ensures.items
    (work_opened c.args.graph.now.starts.items c.args.graph.now.sources.items c.args.self.now.visits.items c.args.self.now.path.items c.args.self.now.found c.args.node c.index.result.now c.requires.search c.args.graph.now.rows (begin c) c.requires.new c.requires.leads)

pub returns-clause-seen : goal.returns-clause-seen
returns-clause-seen c =
    seen_opened c.args.graph.now.starts.items c.args.graph.now.sources.items c.args.self.now.visits.items c.args.self.now.path.items c.args.self.now.found c.args.node c.index.result.now c.requires.search c.args.graph.now.rows (begin c) c.requires.new c.requires.leads

pub returns-clause-opened : goal.returns-clause-opened
returns-clause-opened c =
    slice_get_set_same c.args.self.now.visits.items c.args.node Open (slice_get_within c.args.self.now.visits.items c.args.node New c.requires.new)
