use Rattle.std.proofs.Common.{◌≡◌, ◌++◌, ◌≤◌, List, [], length, drop, arith, ap, sym, ◌∙◌, append-nil}
use Rattle.std.proofs.lemmas.List.{drop_all}
use Rattle.net_core.specs.declared.parts.Cell.{Cell}
use Rattle.clock_sim.specs.Plan.{all_slots}
use Rattle.clock_sim.proofs.SlotLemmas.{slots_ordered}
use Rattle.clock_sim.proofs.build.ordered_slots.Goals as goal

pub returns : goal.returns
returns c =
    let past : length c.args.flat.now.cells ≤ c.loop-number.number = omega (arith, c.loop-number-test.false, ap length c.cells-cell-items.ensures.value) in
    let rest : drop c.loop-number.number c.args.flat.now.cells ≡ [] = drop_all c.loop-number.number c.args.flat.now.cells past in
    let made : c.loop-number.slots.items ≡ all_slots c.args.flat.now c.args.levels.now 0 c.args.flat.now.cells =
    sym (append-nil c.loop-number.slots.items) ∙ ap (λ (cells : List Cell). c.loop-number.slots.items ++ all_slots c.args.flat.now c.args.levels.now c.loop-number.number cells) (sym rest) ∙ c.loop-number.invariant in
    slots_ordered c.args.flat.now c.args.levels.now c.loop-number.slots.items c.sort_by_level.new.slots.items c.cells-cell-items.ensures.kept made
    c.in_ok-sort_by_level.ensures.permutation c.in_ok-sort_by_level.ensures.sorted
