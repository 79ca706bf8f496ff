use Rattle.std.proofs.Common.{◌≡◌, ◌-◌, ◌∙◌, ap, sym, length, take, get_or, arith}
use Rattle.std.proofs.lemmas.List.{get_or_read}
use Rattle.net_graph.proofs.ComponentLemmas.{member_low}
use Rattle.net_graph.proofs.TurnLemmas.{bounds_some, left, closed, work_left}
use Rattle.net_graph.proofs.components.Split.leave.Goals as goal

pub close-requires-clause-nodes : goal.close-requires-clause-nodes
close-requires-clause-nodes g c =
    member_low c.args.graph.now g.end c.args.self.now.stages.items c.args.self.now.members.items c.args.self.now.bounds.items c.args.self.now.path.items c.args.self.now.least c.requires.0

pub returns-then-index-place-clause-split : goal.returns-then-index-place-clause-split
returns-then-index-place-clause-split g c =
    let s = c.args.self.now in
    let size : s.path.len ≡ length s.path.items = omega (arith, s.path.ok.0) in
    let rest : c.pop.new.self.items ≡ take (length s.path.items - 1) s.path.items = c.pop.ensures.rest ∙ ap (λ k. take (k - 1) s.path.items) size in
    let count : c.len-last.result - 1 ≡ length s.bounds.items - 1 = omega (arith, c.len-last.ensures, s.bounds.ok.0) in
    let some = bounds_some c.args.graph.now g.end s.stages.items s.members.items s.bounds.items s.path.items s.least c.requires.0 c.args.place c.requires.1 in
    let read : c.index.result.now ≡ get_or s.bounds.items (c.len-last.result - 1) 0 = get_or_read s.bounds.items _ _ (omega (arith, some, count)) c.index.ensures 0 in
    let top : c.index.result.now ≡ get_or s.bounds.items (length s.bounds.items - 1) 0 = read ∙ ap (λ k. get_or s.bounds.items k 0) count in
    let left_bounds : s.bounds.len ≡ length s.bounds.items = omega (arith, s.bounds.ok.0) in
    closed c.args.graph.now g.end s.stages.items s.members.items s.bounds.items s.path.items s.least c.requires.0 c.args.place c.requires.1
    c.close.new.self.path.items c.close.new.self.stages.items c.close.new.self.members.items c.close.new.self.bounds.items c.close.new.self.least
    (c.close.ensures.path ∙ rest) (sym top ∙ c.if-index-place.true)
    (c.close.ensures.bounds ∙ c.pop-then-index-place.ensures.rest ∙ ap (λ k. take (k - 1) s.bounds.items) left_bounds)
    c.close.ensures.members c.close.ensures.done c.close.ensures.many c.close.ensures.one

pub returns-then-index-place-clause-less : goal.returns-then-index-place-clause-less
returns-then-index-place-clause-less g c =
    let s = c.args.self.now in
    let size : s.path.len ≡ length s.path.items = omega (arith, s.path.ok.0) in
    let rest : c.pop.new.self.items ≡ take (length s.path.items - 1) s.path.items = c.pop.ensures.rest ∙ ap (λ k. take (k - 1) s.path.items) size in
    work_left c.args.graph.now g.end s.stages.items s.members.items s.bounds.items s.path.items s.least c.requires.0 c.args.place c.requires.1
    c.close.new.self.stages.items c.close.new.self.path.items (c.close.ensures.path ∙ rest) c.args.graph.now.rows c.close.ensures.done.fewer

pub returns-else-index-place-clause-split : goal.returns-else-index-place-clause-split
returns-else-index-place-clause-split g c =
    let s = c.args.self.now in
    let size : s.path.len ≡ length s.path.items = omega (arith, s.path.ok.0) in
    let rest : c.pop.new.self.items ≡ take (length s.path.items - 1) s.path.items = c.pop.ensures.rest ∙ ap (λ k. take (k - 1) s.path.items) size in
    let count : c.len-last.result - 1 ≡ length s.bounds.items - 1 = omega (arith, c.len-last.ensures, s.bounds.ok.0) in
    let some = bounds_some c.args.graph.now g.end s.stages.items s.members.items s.bounds.items s.path.items s.least c.requires.0 c.args.place c.requires.1 in
    let read : c.index.result.now ≡ get_or s.bounds.items (c.len-last.result - 1) 0 = get_or_read s.bounds.items _ _ (omega (arith, some, count)) c.index.ensures 0 in
    let top : c.index.result.now ≡ get_or s.bounds.items (length s.bounds.items - 1) 0 = read ∙ ap (λ k. get_or s.bounds.items k 0) count in
    left c.args.graph.now g.end s.stages.items s.members.items s.bounds.items s.path.items s.least c.requires.0 c.args.place c.requires.1 c.pop.new.self.items rest (λ same. c.if-index-place.false (top ∙ same))

pub returns-else-index-place-clause-less : goal.returns-else-index-place-clause-less
returns-else-index-place-clause-less g c =
    let s = c.args.self.now in
    let size : s.path.len ≡ length s.path.items = omega (arith, s.path.ok.0) in
    let rest : c.pop.new.self.items ≡ take (length s.path.items - 1) s.path.items = c.pop.ensures.rest ∙ ap (λ k. take (k - 1) s.path.items) size in
    work_left c.args.graph.now g.end s.stages.items s.members.items s.bounds.items s.path.items s.least c.requires.0 c.args.place c.requires.1
    s.stages.items c.pop.new.self.items rest c.args.graph.now.rows (omega arith)
