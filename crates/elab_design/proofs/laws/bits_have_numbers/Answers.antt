use Rattle.std.specs.Prelude.{flat_map}
use Rattle.elab_design.specs.Order.{group_bits}
use Rattle.elab_design.proofs.BitLaws.{order_differs, placed_by}
use Rattle.elab_design.proofs.laws.bits_have_numbers.Goals as goal

pub returns : goal.returns
returns c = λ d groups cells checked order. placed_by (flat_map group_bits groups) (order_differs d checked.clean groups cells order)
