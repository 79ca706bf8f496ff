use Rattle.std.proofs.Common.{ℕ, List, [], length, ◌≤◌, Option, None, get_or, ap, ◌∙◌, arith}
use Rattle.std.specs.Borrow.{Bor}
use Rattle.vlog_parse.specs.declared.tree.Range.{Range}
use Rattle.elab_count.specs.Counting.{capped}
use Rattle.elab_count.proofs.AmountLaws.{row_count, one_more, all_nets, read_again}
use Rattle.elab_count.proofs.items.count_nets.Goals as goal

pub loop-net-preserved : goal.loop-net-preserved
loop-net-preserved c =
    let rows = c.as_slice-net-items.result.now in
    let i = c.loop-net.net-index in
    let d : Bor (List ℕ) × Option Range = (record { ref_ptr = (0, 0); now = [] }, None) in
    c.with-count.ensures _ (row_count (get_or rows i d)) c.loop-net.invariant c.count_net.ensures
    ∙ ap (λ a. capped a) (one_more row_count rows c.args.nets.now.order.items i (get_or rows i d) c.as_slice-net-items.ensures.value c.loop-net-test.true (read_again rows i d c.loop-net-test.true))

pub returns : goal.returns
returns c m are =
    let end : length c.args.nets.now.order.items ≤ c.loop-net.net-index = omega (arith, ap length c.as_slice-net-items.ensures.value, c.loop-net-test.false) in
    c.loop-net.invariant ∙ ap (λ a. capped a) (all_nets m c.args.nets.now c.as_slice-net-items.result.now c.loop-net.net-index are end)
