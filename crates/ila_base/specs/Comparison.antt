-- What a comparison asks of the value of a probe, at a clock and at the one before (UG908, compare values).
use Rattle.std.specs.Prelude.{ℕ, ◌+◌, ◌*◌, ◌/◌, ◌%◌, ◌^◌, ◌≤◌, Bool, true, false, not, ◌&&◌, ◌||◌, ◌==◌, nat_lt, nat_le, List, [], ◌∷◌, length, slice_index}
use Rattle.std.specs.List.{list_all, list_any, enumerate_from}
use Rattle.ila_base.specs.declared.limits.TheConstants.{CONSTANT_BITS}
use Rattle.ila_base.specs.declared.compare.Op.{Op}
use Rattle.ila_base.specs.declared.compare.Op.TheVariants.{Eq, Ne, Lt, Le, Gt, Ge}
use Rattle.ila_base.specs.declared.compare.Digit.{Digit}
use Rattle.ila_base.specs.declared.compare.Digit.TheVariants.{Zero, One, Any, Rise, Fall, Both, Steady}
use Rattle.ila_base.specs.declared.compare.Compare.{Compare}
use Rattle.ila_base.specs.declared.compare.Join.{Join}
use Rattle.ila_base.specs.declared.compare.Join.TheVariants.{And, Or, Nand, Nor}
use Rattle.ila_base.specs.declared.compare.BasicCond.{BasicCond}

-- the two bits differ
abbrev pub differ : Bool → Bool → Bool
differ false b = b
differ true b = not b

-- a digit matches its bit, which was and is
abbrev pub matches : Digit → Bool → Bool → Bool
matches Zero was is = not is
matches One was is = is
matches Any was is = true
matches Rise was is = not was && is
matches Fall was is = was && not is
matches Both was is = differ was is
matches Steady was is = not (differ was is)

-- the bit of this place, from 0 for the lowest
abbrev pub bit_at : ℕ → ℕ → Bool
bit_at place value = value / 2 ^ place % 2 == 1

-- the digit of this place matches the bits that the two values have there
abbrev pub matches_at : ℕ → ℕ → ℕ × Digit → Bool
matches_at before now (place, digit) = matches digit (bit_at place before) (bit_at place now)

-- each digit matches, the lowest first
abbrev pub all_match : List Digit → ℕ → ℕ → Bool
all_match digits before now = list_all (matches_at before now) (enumerate_from 0 digits)

-- the number of which the digits 0 and 1 are the bits, the lowest first; every other digit counts as 0
abbrev pub digit_bit : Digit → ℕ
digit_bit One = 1
digit_bit digit = 0

abbrev pub value_of : List Digit → ℕ
value_of [] = 0
value_of (digit ∷ digits) = digit_bit digit + 2 * value_of digits

-- two whole numbers are in the operator's relation
abbrev pub compares : Op → ℕ → ℕ → Bool
compares Eq a b = a == b
compares Ne a b = not (a == b)
compares Lt a b = nat_lt a b
compares Le a b = nat_le a b
compares Gt a b = nat_lt b a
compares Ge a b = nat_le b a

-- The comparison of a value with digits: `==` where all digits match, `!=` where not all do; an order compares whole numbers.
abbrev pub holds : Op → List Digit → ℕ → ℕ → Bool
holds Eq digits before now = all_match digits before now
holds Ne digits before now = not (all_match digits before now)
holds op digits before now = compares op now (value_of digits)

-- a digit stands for a bit alone
abbrev pub is_bit : Digit → Bool
is_bit Zero = true
is_bit One = true
is_bit digit = false

-- the operator compares by order
abbrev pub is_order : Op → Bool
is_order Eq = false
is_order Ne = false
is_order op = true

-- the digits may stand with the operator: with an order 0 and 1 alone
abbrev pub allows : Op → List Digit → Bool
allows op digits = not (is_order op) || list_all is_bit digits

-- there are no more digits than a value has bits
abbrev pub IsShort : Compare → Type 0
IsShort compare = length compare.digits ≤ CONSTANT_BITS

-- the comparison of a probe, of whose core these are the values before and now, by the probes' numbers
abbrev pub is_true : List ℕ → List ℕ → Compare → Bool
is_true before now compare = holds compare.op compare.digits (slice_index before compare.probe) (slice_index now compare.probe)

-- how the truths of the comparisons are joined
abbrev pub joined : Join → Bool → Bool → Bool
joined And all any = all
joined Or all any = any
joined Nand all any = not all
joined Nor all any = not any

-- the condition, over the values before and now of the core's probes
abbrev pub condition_holds : BasicCond → List ℕ → List ℕ → Bool
condition_holds condition before now =
    joined condition.join (list_all (is_true before now) condition.compares) (list_any (is_true before now) condition.compares)
