use Rattle.std.proofs.Common.{◌≡◌, slice_index, length, arith}
use Rattle.std.proofs.lemmas.List.{get_or_read}
use Rattle.std.proofs.lemmas.Option.{slice_get_within}
use Rattle.net_graph.specs.declared.components.Stage.TheVariants.{New}
use Rattle.net_graph.proofs.OpenLemmas.{split_opened, settled_opened, seen_opened, work_opened, path_opened}
use Rattle.net_graph.proofs.components.Split.open.Given.{Over}
use Rattle.net_graph.proofs.components.Split.open.Goals as goal

begin : (g : Over) (c : goal.After-self-1 g) → c.index.result.now ≡ slice_index c.args.graph.now.starts.items c.args.node
begin g c =
    get_or_read c.args.graph.now.starts.items _ _ (omega (arith, slice_get_within c.args.self.now.stages.items c.args.node New c.requires.1.0, c.requires.0.size)) c.index.ensures 0

place : (g : Over) (c : goal.After-self-1 g) → c.len-place.result ≡ length c.args.self.now.members.items
place g c = omega (arith, c.len-place.ensures, c.args.self.now.members.ok.0)

pub returns-clause-split : goal.returns-clause-split
returns-clause-split g c =
    let e = place g c in
    rw (c.in_ok-push.ensures.items, c.in_ok-push-2.ensures.items, c.in_ok-push-3.ensures.items, e)
    (split_opened c.args.graph.now g.end c.args.self.now.stages.items c.args.self.now.members.items c.args.self.now.bounds.items c.args.self.now.path.items c.args.self.now.least
    c.requires.0 c.args.node c.index.result.now c.requires.1.0 (begin g c) c.requires.1.1.0 c.requires.1.1.1 c.args.graph.now.rows)

pub returns-clause-settled : goal.returns-clause-settled
returns-clause-settled g c =
    let e = place g c in
    rw (c.in_ok-push-2.ensures.items, e)
    (settled_opened c.args.graph.now g.end c.args.self.now.stages.items c.args.self.now.members.items c.args.self.now.bounds.items c.args.self.now.path.items c.args.self.now.least
    c.requires.0 c.args.node c.index.result.now c.requires.1.0 (begin g c) c.requires.1.1.0)

pub returns-clause-path : goal.returns-clause-path
returns-clause-path g c = rw c.in_ok-push-3.ensures.items (path_opened c.args.self.now.path.items (record { place = c.len-place.result; next = c.index.result.now }))

pub returns-clause-less : goal.returns-clause-less
returns-clause-less g c =
    let e = place g c in
    rw (c.in_ok-push-3.ensures.items, e)
    (work_opened c.args.graph.now g.end c.args.self.now.stages.items c.args.self.now.members.items c.args.self.now.bounds.items c.args.self.now.path.items c.args.self.now.least
    c.requires.0 c.args.node c.index.result.now c.requires.1.0 (begin g c) c.requires.1.1.0)

pub returns-clause-seen : goal.returns-clause-seen
returns-clause-seen g c =
    let e = place g c in
    rw e
    (seen_opened c.args.graph.now g.end c.args.self.now.stages.items c.args.self.now.members.items c.args.self.now.bounds.items c.args.self.now.path.items c.args.self.now.least
    c.requires.0 c.args.node c.index.result.now c.requires.1.0 (begin g c) c.requires.1.1.0)
