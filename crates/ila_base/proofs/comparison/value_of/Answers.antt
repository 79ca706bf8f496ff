use Rattle.std.proofs.Common.{ℕ, ◌≡◌, ◌-◌, ◌^◌, ◌<◌, ◌≤◌, List, arith, length, drop, get_or, length-drop}
use Rattle.ila_base.specs.declared.compare.Digit.{Digit}
use Rattle.ila_base.specs.declared.compare.Digit.TheVariants.{Zero}
use Rattle.ila_base.specs.Comparison.{value_of}
use Rattle.ila_base.proofs.ComparisonLaws.{value_small, bit_small}
use Rattle.ila_base.proofs.comparison.value_of.Goals as goal

-- what the digits behind the first stand for
room : (digits : List Digit) (left value : ℕ) → length digits ≤ 128 → 0 < left → value ≡ value_of (drop left digits) → value < 2 ^ 127
room digits left value few some is =
    rw is (value_small (drop left digits) 127 (omega (arith, length-drop left digits)))

pub overflow_mul-value : goal.overflow_mul-value
overflow_mul-value c =
    omega (arith, room c.args.digits.now c.loop-left.left c.loop-left.value c.requires c.loop-left-test.true c.loop-left.invariant.1)

pub overflow_add-value : goal.overflow_add-value
overflow_add-value c =
    omega (
      arith,
      room c.args.digits.now c.loop-left.left c.loop-left.value c.requires c.loop-left-test.true c.loop-left.invariant.1,
      c.bit.ensures,
      bit_small (get_or c.args.digits.now (c.loop-left.left - 1) Zero),
    )
