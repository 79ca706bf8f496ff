use Rattle.std.proofs.Common.{◌≡◌, ◌+◌, ◌++◌, ◌∷◌, [], ℕ, length, subst, arith}
use Rattle.net_core.specs.Netlist.{net_count}
use Rattle.net_levels.proofs.SourceLemmas.{AreRowsBelow, rows_more, rows_all, edges_all}
use Rattle.net_levels.proofs.sources.graph_of.Goals as goal

pub loop-net-preserved : goal.loop-net-preserved
loop-net-preserved c =
    let size : length c.add_sources.new.sources.items ≡ c.len.result = omega (arith, c.len.ensures, c.add_sources.new.sources.ok.0) in
    rw c.in_ok-push.ensures.items
    (subst (λ (k : ℕ). AreRowsBelow c.args.flat.now (c.loop-net.net + 1) (c.loop-net.starts.items ++ k ∷ []) c.add_sources.new.sources.items) size
    (rows_more c.args.flat.now c.loop-net.net c.loop-net.starts.items c.loop-net.sources.items c.add_sources.new.sources.items c.loop-net.invariant c.in_ok-add_sources.ensures))

whole : (c : goal.After-loop-net) → AreRowsBelow c.args.flat.now (net_count c.args.flat.now.groups) c.loop-net.starts.items c.loop-net.sources.items
whole c =
    let e : c.loop-net.net ≡ net_count c.args.flat.now.groups = omega (arith, c.loop-net-test.false, c.loop-net.auto.net-end, c.requires.few) in
    subst (λ (k : ℕ). AreRowsBelow c.args.flat.now k c.loop-net.starts.items c.loop-net.sources.items) e c.loop-net.invariant

pub invariant_of-result : goal.invariant_of-result
invariant_of-result c = record { rows = rows_all c.args.flat.now c.requires.kept c.loop-net.starts.items c.loop-net.sources.items (whole c) }

pub returns-clause-edges : goal.returns-clause-edges
returns-clause-edges c =
    let e : c.loop-net.net ≡ net_count c.args.flat.now.groups = omega (arith, c.loop-net-test.false, c.loop-net.auto.net-end, c.requires.few) in
    edges_all c.args.flat.now c.loop-net.starts.items c.loop-net.sources.items c.requires.kept
    (subst (λ (k : ℕ). AreRowsBelow c.args.flat.now k c.loop-net.starts.items c.loop-net.sources.items) e c.loop-net.invariant)
