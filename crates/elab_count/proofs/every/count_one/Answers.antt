use Rattle.std.proofs.Common.{rules, ◌≡◌, true, Some, inr, length, arith, refl, ap, ◌∙◌}
use Rattle.std.specs.List.{slice_set}
use Rattle.vlog_check.proofs.LeastLaws.{at_index}
use Rattle.elab_count.specs.Counting.{capped, module_count}
use Rattle.elab_count.proofs.every.count_one.Goals as goal

pub count_module-count-requires-clause-nets : goal.count_module-count-requires-clause-nets
count_module-count-requires-clause-nets c =
    let modules = (c.args.modules.now.tree.now).modules in
    let all = c.args.nets.now in
    let within = c.requires.within in
    c.requires.nets.each c.args.k c.index-as_slice-k.result c.index-nets-k.result
    (at_index c.as_slice.result.now modules c.args.k _ c.as_slice.ensures (omega (arith, ap length c.as_slice.ensures, within)) c.index-as_slice-k.is)
    (at_index all all c.args.k _ refl (omega (arith, c.requires.nets.size, within)) c.index-nets-k.is)

pub returns : goal.returns
returns c =
    let tree = c.args.modules.now.tree.now in
    let m = c.index-as_slice-k.result in
    let k = c.args.k in
    let table = c.args.table.now.items in
    let wanted : c.args.wanted ≡ true = search rules in
    inr (
      wanted,
      m,
      at_index c.as_slice.result.now tree.modules k m c.as_slice.ensures (omega (arith, ap length c.as_slice.ensures, c.requires.within)) c.index-as_slice-k.is,
      ap (λ count. slice_set table k (Some count)) (c.count_module-count.ensures ∙ ap (λ t. capped (module_count tree t m)) c.as_slice-2.ensures.value),
    )
