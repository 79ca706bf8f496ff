use Rattle.std.proofs.Common.{rules, ◌≡◌, length, ap, subst, arith}
use Rattle.vlog_parse.specs.declared.tree.Tree.{Tree}
use Rattle.elab_count.specs.Counting.{AreCounts}
use Rattle.elab_count.specs.Instances.{AreInOrder}
use Rattle.elab_count.specs.Progress.{AreCountedTo}
use Rattle.elab_count.proofs.InstanceLaws.{module_low}
use Rattle.elab_count.proofs.ProgressLaws.{all_counted}
use Rattle.elab_count.proofs.every.count_all.Goals as goal

pub below_top-requires-clause-top : goal.below_top-requires-clause-top
below_top-requires-clause-top c =
    let low = module_low c.args.tree.now c.requires.checked.0 c.args.top c.requires.checked.2 in
    omega (arith, low, ap (λ (t : Tree). length t.modules) c.in_ok-modules.ensures.own)

pub returns : goal.returns
returns c =
    let own : c.in_ok-modules.modules.tree.now ≡ c.args.tree.now = c.in_ok-modules.ensures.own in
    let t = c.in_ok-modules.modules.tree.now in
    let below = c.in_ok-below.below.items in
    let order = c.in_ok-order.order.items in
    let table = c.in_ok-table.table.items in
    let sorted = subst (λ w. AreInOrder t w order) c.as_slice.ensures.value c.in_ok-order.ensures in
    let counted : AreCountedTo t below order (length order) table = search rules in
    subst (λ u. AreCounts u c.args.top table) own (all_counted t c.args.top below order table c.in_ok-below.ensures.marked sorted counted)
