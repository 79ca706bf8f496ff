use Rattle.std.proofs.Common.{◌↔◌, ℕ, List, length, ap, sym, subst, arith}
use Rattle.net_graph.specs.Lists.{IsIn}
use Rattle.net_core.proofs.ClockLemmas.{ok_then}
use Rattle.net_graph.specs.Graph.{Leads}
use Rattle.flat_settle.specs.Tables.{IsStep, row_of}
use Rattle.flat_settle.proofs.StepLemmas.{steps_all, spread_is}
use Rattle.flat_settle.proofs.steps.spread.Goals as goal

pub graph_of-requires-clause-nodes : goal.graph_of-requires-clause-nodes
graph_of-requires-clause-nodes c = λ m n own.
    let step = c.in_ok-rows.ensures.sound m n (subst (λ (rows : List (List ℕ)). IsIn (row_of rows m) n) c.as_slice.ensures.value own) in
    omega (arith, c.requires.to m n step, c.in_ok-rows.ensures.size, ap length c.as_slice.ensures.value)

pub reaching-requires : goal.reaching-requires
reaching-requires c = λ n (k, at).
    omega (arith, c.requires.ends n (k, at), c.in_ok-graph.ensures.size, c.in_ok-rows.ensures.size, ap length c.as_slice.ensures.value)

pub returns-clause-marked : goal.returns-clause-marked
returns-clause-marked c =
    let edges : (m n : ℕ) → Leads c.in_ok-graph.graph m n ↔ IsStep c.args.clock c.args.cells.now n m = λ m n.
    let own = steps_all c.args.clock c.args.cells.now c.args.count c.in_ok-rows.rows.items c.in_ok-rows.ensures n m in
    let edge = c.in_ok-graph.ensures.edges m n in (
      λ leads. own.0 (subst (λ (rows : List (List ℕ)). IsIn (row_of rows n) m) c.as_slice.ensures.value (edge.0 leads)),
      λ step. edge.1 (subst (λ (rows : List (List ℕ)). IsIn (row_of rows n) m) (sym c.as_slice.ensures.value) (own.1 step)),
    ) in
    ok_then c.reaching.result _ _ (λ marks told n. (let same = spread_is c.args.clock c.args.cells.now c.args.ends.now c.in_ok-graph.graph edges n in
    (λ t. same.0 ((told n).0 t), λ s. (told n).1 (same.1 s)))) c.reaching.ensures.marked
