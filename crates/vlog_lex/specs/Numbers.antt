-- Numbers and sized constants (IEEE 1364-2005, 3.5.1).
use Rattle.std.specs.Prelude.{ℕ, Bool, ◌||◌, ◌==◌, nat_lt, if◌then◌else◌, Option, Some, None}
use Rattle.ila_base.specs.Bytes.{digit_value, is_underscore}

-- what the letter of a base stands for: `b`, `o`, `d` or `h`, in either case
abbrev pub base_of : ℕ → Option ℕ
base_of letter =
    if letter == 98 || letter == 66 then Some 2
    else (if letter == 111 || letter == 79 then Some 8
    else (if letter == 100 || letter == 68 then Some 10
    else (if letter == 104 || letter == 72 then Some 16
    else None)))

-- a digit that stands for no known value: `x`, `z` or `?`, in either case
abbrev pub is_unknown : ℕ → Bool
is_unknown b = b == 120 || b == 88 || b == 122 || b == 90 || b == 63

-- a byte among the digits of a constant of the base
abbrev pub is_place : ℕ → ℕ → Bool
is_place base b = nat_lt (digit_value b) base || is_underscore b || is_unknown b
