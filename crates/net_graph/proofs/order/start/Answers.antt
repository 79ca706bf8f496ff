use Rattle.std.proofs.Common.{◌≡◌, ◌+◌, ◌-◌, List, length, replicate, sym, subst, arith}
use Rattle.net_graph.specs.declared.search.Visit.{Visit}
use Rattle.net_graph.specs.declared.search.Visit.TheVariants.{New}
use Rattle.net_graph.specs.declared.search.Step.{Step}
use Rattle.net_graph.specs.Search.{IsSearch}
use Rattle.net_graph.proofs.OrderLemmas.{search_start}
use Rattle.net_graph.proofs.order.start.Goals as goal

pub returns : goal.returns
returns c =
    let visits : c.in_ok-vec.field-0.items ≡ replicate (c.len.result - 1) New = c.in_ok-vec.ensures.items_if_clones_equal (λ y same. same) in
    let size : c.len.result - 1 + 1 ≡ length c.args.graph.now.starts.items = omega (arith, c.args.graph.now.rows.some, c.len.ensures, c.args.graph.now.starts.ok.0) in (
      subst (λ (v : List Visit). IsSearch c.args.graph.now.starts.items c.args.graph.now.sources.items v c.new.result.items 0) (sym visits)
          (subst (λ (p : List Step). IsSearch c.args.graph.now.starts.items c.args.graph.now.sources.items (replicate (c.len.result - 1) New) p 0) (sym c.new.ensures.items)
          (search_start c.args.graph.now.starts.items c.args.graph.now.sources.items (c.len.result - 1) size)),
      c.new.ensures.items,
    )
