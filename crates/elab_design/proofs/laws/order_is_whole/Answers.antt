use Rattle.std.specs.Prelude.{[]}
use Rattle.elab_design.specs.Design.{at_top}
use Rattle.elab_design.proofs.OrderLaws.{unfolds_has, unfolds_all}
use Rattle.elab_design.proofs.GroupLaws.{bit_listed, listed_bit}
use Rattle.elab_design.proofs.laws.order_is_whole.Goals as goal

pub returns-clause-cells : goal.returns-clause-cells
returns-clause-cells c = λ d groups cells order cell. (
  unfolds_has d order.top [] order.top.items cells order.all_cells (at_top order.top order.is_top) (λ x at. at) cell,
  unfolds_all d order.top order.is_top cells order.all_cells cell,
)

pub returns-clause-bits : goal.returns-clause-bits
returns-clause-bits c = λ d groups cells order b. (
  listed_bit d order.top order.is_top groups order.all_groups b,
  bit_listed d order.top order.is_top groups order.all_groups b,
)
