use Rattle.std.proofs.Common.{refl, arith, length}
use Rattle.std.proofs.lemmas.Option.{slice_get_read}
use Rattle.net_graph.specs.declared.search.Visit.TheVariants.{New, Open, Done}
use Rattle.net_graph.proofs.SearchLemmas.{search_moved, search_done, seen_done, work_done, last_node_low, last_in_sources, source_low, leads_last}
use Rattle.net_graph.proofs.search.Search.turn.Goals as goal

pub source_at-requires : goal.source_at-requires
source_at-requires c =
    omega (arith, c.requires.size, last_node_low c.args.graph.now.starts.items c.args.graph.now.sources.items c.args.self.now.visits.items c.args.self.now.path.items c.args.step c.args.self.now.found c.requires c.args.graph.now.rows)

pub index_mut-requires : goal.index_mut-requires
index_mut-requires c =
    omega (arith, c.args.self.now.visits.ok.0, last_node_low c.args.graph.now.starts.items c.args.graph.now.sources.items c.args.self.now.visits.items c.args.self.now.path.items c.args.step c.args.self.now.found c.requires c.args.graph.now.rows)

pub open-requires-clause-new : goal.open-requires-clause-new
open-requires-clause-new c =
    slice_get_read c.args.self.now.visits.items (length c.args.self.now.visits.items) c.in-Some.source New refl
    (source_low c.args.graph.now.starts.items c.args.graph.now.sources.items c.args.self.now.visits.items c.args.self.now.path.items c.args.step c.args.self.now.found c.requires c.args.graph.now.rows c.in-Some.source c.in-Some.ensures.found.1) (rw c.in-New.is at c.index.ensures)

pub open-requires-clause-leads : goal.open-requires-clause-leads
open-requires-clause-leads c =
    rw c.in_ok-push-in-New.ensures.items
    (leads_last c.args.graph.now.starts.items c.args.graph.now.sources.items c.args.self.now.visits.items c.args.self.now.path.items c.args.step c.args.self.now.found c.requires c.args.graph.now.rows c.in-Some.source c.in-Some.ensures.found.1 c.in-Some.ensures.found.0)

pub returns-in-None-clause-search : goal.returns-in-None-clause-search
returns-in-None-clause-search c =
    search_done c.args.graph.now.starts.items c.args.graph.now.sources.items c.args.self.now.visits.items c.args.self.now.path.items c.args.step c.args.self.now.found c.requires c.in-None.ensures.missing

pub returns-in-None-clause-seen : goal.returns-in-None-clause-seen
returns-in-None-clause-seen c =
    seen_done c.args.graph.now.starts.items c.args.graph.now.sources.items c.args.self.now.visits.items c.args.self.now.path.items c.args.step c.args.self.now.found c.requires c.in-None.ensures.missing

pub returns-in-None-clause-cases : goal.returns-in-None-clause-cases
returns-in-None-clause-cases c =
    work_done c.args.graph.now.starts.items c.args.graph.now.sources.items c.args.self.now.visits.items c.args.self.now.path.items c.args.step c.args.self.now.found c.requires c.in-None.ensures.missing
    (last_in_sources c.args.graph.now.starts.items c.args.graph.now.sources.items c.args.self.now.visits.items c.args.self.now.path.items c.args.step c.args.self.now.found c.requires c.args.graph.now.rows)

pub returns-in_ok-push-in-Open-clause-cases : goal.returns-in_ok-push-in-Open-clause-cases
returns-in_ok-push-in-Open-clause-cases c = (
  slice_get_read c.args.self.now.visits.items (length c.args.self.now.visits.items) c.in-Some.source Open refl
      (source_low c.args.graph.now.starts.items c.args.graph.now.sources.items c.args.self.now.visits.items c.args.self.now.path.items c.args.step c.args.self.now.found c.requires c.args.graph.now.rows c.in-Some.source c.in-Some.ensures.found.1) (rw c.in-Open.is at c.index.ensures),
  rw c.in_ok-push-in-Open.ensures.items
      (leads_last c.args.graph.now.starts.items c.args.graph.now.sources.items c.args.self.now.visits.items c.args.self.now.path.items c.args.step c.args.self.now.found c.requires c.args.graph.now.rows c.in-Some.source c.in-Some.ensures.found.1 c.in-Some.ensures.found.0),
)

pub returns-in_ok-push-in-Done-clause-search : goal.returns-in_ok-push-in-Done-clause-search
returns-in_ok-push-in-Done-clause-search c =
    rw c.in_ok-push-in-Done.ensures.items
    (search_moved c.args.graph.now.starts.items c.args.graph.now.sources.items c.args.self.now.visits.items c.args.self.now.path.items c.args.step c.args.self.now.found c.in-Some.source c.in-Done.field-0 c.requires c.in-Some.ensures.found.0 c.in-Some.ensures.found.1
    (slice_get_read c.args.self.now.visits.items (length c.args.self.now.visits.items) c.in-Some.source (Done c.in-Done.field-0) refl
    (source_low c.args.graph.now.starts.items c.args.graph.now.sources.items c.args.self.now.visits.items c.args.self.now.path.items c.args.step c.args.self.now.found c.requires c.args.graph.now.rows c.in-Some.source c.in-Some.ensures.found.1) (rw c.in-Done.is at c.index.ensures)))
