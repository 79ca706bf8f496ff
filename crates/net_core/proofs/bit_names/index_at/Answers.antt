use Rattle.std.proofs.Common.{◌≡◌, ◌+◌, ◌-◌, slice_get, ap, sym, ◌∙◌, arith}
use Rattle.net_core.specs.WellFormed.{range_indices}
use Rattle.net_core.proofs.NetNameLemmas.{index_from_left, index_from_right}
use Rattle.net_core.proofs.bit_names.index_at.Goals as goal

pub returns-then-right-left : goal.returns-then-right-left
returns-then-right-left c =
    let place : c.args.left - (c.args.left - c.args.place) ≡ c.args.place = omega arith in
    ap (slice_get (range_indices c.args.left c.args.right)) (sym place) ∙ index_from_left c.args.left c.args.right (c.args.left - c.args.place) (omega arith) (omega arith)

pub returns-else-right-left : goal.returns-else-right-left
returns-else-right-left c =
    let place : c.args.left + c.args.place - c.args.left ≡ c.args.place = omega arith in
    ap (slice_get (range_indices c.args.left c.args.right)) (sym place) ∙ index_from_right c.args.left c.args.right (c.args.left + c.args.place) (omega arith) (omega arith)
