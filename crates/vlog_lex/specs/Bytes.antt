-- The classes of bytes that the lexical conventions speak of (IEEE 1364-2005, clause 3).
use Rattle.std.specs.Prelude.{ℕ, Bool, ◌||◌, ◌==◌, nat_eq, if◌then◌else◌, codes}
use Rattle.std.specs.List.{list_any}
use Rattle.ila_base.specs.Bytes.{is_between, is_blank, is_letter, is_digit, is_word_byte}
use Rattle.vlog_lex.specs.declared.bytes.Class.{Class}
use Rattle.vlog_lex.specs.declared.bytes.Class.TheVariants.{Blank, Letter, Digit, Mark, Parenthesis, Slash, Operator, Quote, Backslash, Backquote, Other}

-- a byte of an identifier: a letter, `_`, a digit or `$` (3.7)
abbrev pub is_name_byte : ℕ → Bool
is_name_byte b = is_word_byte b || b == 36

-- a byte of a decimal number: a digit or `_` (3.5.1)
abbrev pub is_number_byte : ℕ → Bool
is_number_byte b = is_digit b || b == 95

-- a byte of an escaped identifier: a printable one other than a blank, from 33 to 126 (3.7.1)
abbrev pub is_printable : ℕ → Bool
is_printable b = is_between 33 126 b

-- a mark that begins nothing else
abbrev pub is_mark : ℕ → Bool
is_mark b = list_any (nat_eq b) (codes ")[]{},;:.=#")

-- an operator that begins nothing else
abbrev pub is_operator : ℕ → Bool
is_operator b = list_any (nat_eq b) (codes "~&|^+-*%?<>!@$")

-- what a byte may begin that is no blank, letter, digit, mark or operator
abbrev pub class_of_other : ℕ → Class
class_of_other b =
    if b == 40 then Parenthesis
    else (if b == 47 then Slash
    else (if b == 34 then Quote
    else (if b == 92 then Backslash
    else (if b == 96 then Backquote
    else Other))))

-- what a byte may begin
abbrev pub class_of : ℕ → Class
class_of b =
    if is_blank b then Blank
    else (if is_letter b then Letter
    else (if is_digit b then Digit
    else (if is_mark b then Mark
    else (if is_operator b then Operator
    else class_of_other b))))
