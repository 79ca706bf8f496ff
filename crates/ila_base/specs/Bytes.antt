-- The classes of bytes that netlist texts (IEEE 1364-2005, clause 3) and trigger programs (UG908) have in common, and what digits
-- stand for.
use Rattle.std.specs.Prelude.{ℕ, ◌+◌, ◌-◌, ◌*◌, Bool, not, ◌&&◌, ◌||◌, ◌==◌, nat_le, List, map, filter, if◌then◌else◌}
use Rattle.std.specs.Int.Digits.{number_from_digits}

-- the byte is one from low to high
abbrev pub is_between : ℕ → ℕ → ℕ → Bool
is_between low high b = nat_le low b && nat_le b high

-- a newline ends a line
abbrev pub is_newline : ℕ → Bool
is_newline b = b == 10

-- a byte that doesn't end its line
abbrev pub is_in_line : ℕ → Bool
is_in_line b = not (is_newline b)

-- white space: space, tab, newline, form feed (3.2), and carriage return
abbrev pub is_blank : ℕ → Bool
is_blank b = b == 32 || b == 9 || b == 10 || b == 12 || b == 13

-- a letter or `_`, with which a word begins (3.7)
abbrev pub is_letter : ℕ → Bool
is_letter b = is_between 97 122 b || is_between 65 90 b || b == 95

-- a decimal digit
abbrev pub is_digit : ℕ → Bool
is_digit b = is_between 48 57 b

-- a byte with which a word goes on
abbrev pub is_word_byte : ℕ → Bool
is_word_byte b = is_letter b || is_digit b

-- `_`, which stands for nothing among digits
abbrev pub is_underscore : ℕ → Bool
is_underscore b = b == 95

-- what a digit stands for; 16, which is no digit's value in any base, for every other byte
abbrev pub digit_value : ℕ → ℕ
digit_value b =
    if is_digit b then b - 48
    else (if is_between 97 102 b then b - 87
    else (if is_between 65 70 b then b - 55
    else 16))

-- the digits alone
abbrev pub digits_in : List ℕ → List ℕ
digits_in bytes = filter (λ b. not (is_underscore b)) bytes

-- what the digits stand for in the base
abbrev pub value : ℕ → List ℕ → ℕ
value base bytes = number_from_digits base (map digit_value (digits_in bytes))

-- what the digits so far and one more byte stand for
abbrev pub with_digit : ℕ → ℕ → ℕ → ℕ
with_digit total base b = if is_underscore b then total else total * base + digit_value b
