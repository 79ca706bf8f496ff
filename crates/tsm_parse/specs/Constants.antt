-- Constants of trigger programs: what they are, and which digits they have.
use Rattle.std.specs.Prelude.{ℕ, ◌+◌, ◌-◌, ◌^◌, Bool, false, not, ◌&&◌, ◌||◌, ◌==◌, nat_lt, min, List, [], ◌∷◌, map, reverse, take, drop, replicate, length, slice_get, if◌then◌else◌, Option, Some, None, option_and_then}
use Rattle.std.specs.List.{prefix_len, list_all}
use Rattle.std.specs.Option.{option_map_or}
use Rattle.std.specs.Int.Digits.{digits_of}
use Rattle.ila_base.specs.declared.limits.TheConstants.{CONSTANT_BITS}
use Rattle.ila_base.specs.Bytes as classes
use Rattle.ila_base.specs.Bytes.{digit_value, is_underscore, digits_in, value}
use Rattle.ila_base.specs.declared.compare.Digit.{Digit}
use Rattle.ila_base.specs.declared.compare.Digit.TheVariants.{Zero, One, Any, Rise, Fall, Both, Steady}
use Rattle.tsm_parse.specs.declared.bytes.Base.{Base}
use Rattle.tsm_parse.specs.declared.bytes.Base.TheVariants.{Binary, Decimal, Hexadecimal}
use Rattle.tsm_parse.specs.declared.types.Constant.{Constant}

-- a binary digit: 0, 1, X, R, F, B or N, the letters in either case (UG908, compare values)
abbrev pub is_binary : ℕ → Bool
is_binary b = b == 48 || b == 49 || b == 120 || b == 88 || b == 114 || b == 82 || b == 102 || b == 70 || b == 98 || b == 66 || b == 110 || b == 78

-- a byte is a digit of the base
abbrev pub is_digit : Base → ℕ → Bool
is_digit Binary b = is_binary b
is_digit Decimal b = classes.is_digit b
is_digit Hexadecimal b = nat_lt (digit_value b) 16

abbrev pub is_place : Base → ℕ → Bool
is_place base b = is_digit base b || is_underscore b

-- the byte at this place passes the test
abbrev pub passes_at : (ℕ → Bool) → List ℕ → ℕ → Bool
passes_at test bytes place = option_map_or test (slice_get bytes place) false

-- digits and `_`, of which the first and the last are digits
abbrev pub is_numeral : Base → List ℕ → Bool
is_numeral base bytes = list_all (is_place base) bytes && passes_at (is_digit base) bytes 0 && passes_at (is_digit base) bytes (length bytes - 1)

-- the digits of a number, the lowest first, without leading zeros: so 0 has none
abbrev pub bit_digit : ℕ → Digit
bit_digit bit = if bit == 0 then Zero else One

abbrev pub digits_of_number : ℕ → List Digit
digits_of_number n = if nat_lt n (2 ^ 128) then reverse (map bit_digit (digits_of 2 n)) else replicate (CONSTANT_BITS + 1) One

-- a binary digit as written
abbrev pub written_digit : ℕ → Digit
written_digit b =
    if b == 48 then Zero
    else (if b == 49 then One
    else (if b == 120 || b == 88 then Any
    else (if b == 114 || b == 82 then Rise
    else (if b == 102 || b == 70 then Fall
    else (if b == 98 || b == 66 then Both
    else Steady)))))

-- the digits that a numeral stands for, the lowest first
abbrev pub digits_with : Base → List ℕ → List Digit
digits_with Binary bytes = reverse (map written_digit (digits_in bytes))
digits_with Decimal bytes = digits_of_number (value 10 bytes)
digits_with Hexadecimal bytes = digits_of_number (value 16 bytes)

-- what the letter behind the quote stands for, in either case
abbrev pub base_of : ℕ → Option Base
base_of letter =
    if letter == 98 || letter == 66 then Some Binary
    else (if letter == 117 || letter == 85 || letter == 100 || letter == 68 then Some Decimal
    else (if letter == 104 || letter == 72 then Some Hexadecimal
    else None))

-- what stands before the first quote, and what behind it
abbrev pub is_no_quote : ℕ → Bool
is_no_quote b = not (b == 39)

abbrev pub before_quote : List ℕ → List ℕ
before_quote text = take (prefix_len is_no_quote text) text

abbrev pub behind_quote : List ℕ → List ℕ
behind_quote text = drop (prefix_len is_no_quote text + 1) text

-- a width above the greatest is kept as one more than that
abbrev pub width_of : List ℕ → ℕ
width_of bytes = min (value 10 bytes) (CONSTANT_BITS + 1)

abbrev pub sized_with : List ℕ → List ℕ → Base → Option Constant
sized_with width digits base =
    if is_numeral Decimal width && is_numeral base digits then Some (record { width = Some (width_of width); digits = digits_with base digits }) else None

abbrev pub sized_of : List ℕ → List ℕ → Option Constant
sized_of width [] = None
sized_of width (letter ∷ digits) = option_and_then (sized_with width digits) (base_of letter)

-- A constant is a decimal numeral, or a width, a quote, the letter of a base, and a numeral of it.
abbrev pub constant_of : List ℕ → Option Constant
constant_of text =
    if is_numeral Decimal text then Some (record { width = None; digits = digits_with Decimal text })
    else sized_of (before_quote text) (behind_quote text)
