-- What a text begins with, as a function of the text: the form in which the code tells it. The
-- relation that a reader is to believe is in Pieces.
use Rattle.std.specs.Prelude.{ℕ, suc, ◌+◌, ◌^◌, ◌%◌, ◌<◌, ◌≤◌, List, [], ◌∷◌, take, drop, min, Bool, not, ◌==◌, nat_lt, slice_range, if◌then◌else◌, Option, Some, None, option_map, option_and_then, codes}
use Rattle.std.specs.List.{prefix_len, list_any, list_all}
use Rattle.std.specs.Str.{bytes_eq}
use Rattle.ila_base.specs.declared.limits.TheConstants.{NAME_BYTES, CONSTANT_BITS, GREATEST_NUMBER}
use Rattle.vlog_lex.specs.declared.bytes.Class.{Class}
use Rattle.vlog_lex.specs.declared.bytes.Class.TheVariants.{Blank, Letter, Digit, Mark as MarkByte, Parenthesis, Slash, Operator, Quote, Backslash, Backquote, Other}
use Rattle.vlog_lex.specs.declared.closed.Inside.TheVariants.{Comment, Text as InText, Attribute}
use Rattle.vlog_lex.specs.declared.constant.Suffix.{Suffix}
use Rattle.vlog_lex.specs.declared.token.TokenKind.TheVariants.{Ident, Escaped, Number, Sized, Text, Mark, Outside}
use Rattle.vlog_lex.specs.declared.token.Flaw.TheVariants.{BadByte, XZ, NameLength, Constant}
use Rattle.vlog_lex.specs.declared.token.Piece.{Piece}
use Rattle.vlog_lex.specs.declared.token.Piece.TheVariants.{Skip, Token, Refused}
use Rattle.ila_base.specs.Bytes.{is_blank, is_letter, is_in_line, is_underscore, value}
use Rattle.vlog_lex.specs.Bytes.{is_name_byte, is_number_byte, is_printable, class_of}
use Rattle.vlog_lex.specs.Skipped.{is_endif}
use Rattle.vlog_lex.specs.Pieces.{begins_as, ends_escaped, opens_attribute}
use Rattle.vlog_lex.specs.Closed.{closed_length}
use Rattle.vlog_lex.specs.Construct.{is_construct}
use Rattle.vlog_lex.specs.Numbers.{base_of, is_place, is_unknown}

-- how far it is to the end of the line
abbrev pub line_length : List ℕ → ℕ
line_length text = prefix_len is_in_line text

abbrev pub blank_length : List ℕ → ℕ
blank_length text = prefix_len is_blank text

abbrev pub name_length : List ℕ → ℕ
name_length text = prefix_len is_name_byte text

-- the part of a constant behind its number: the base, where the digits begin and where they end
abbrev pub digits_at : ℕ → ℕ → List ℕ → Option Suffix
digits_at base behind text =
    let blanks = blank_length text in
    let count = prefix_len (is_place base) (drop blanks text) in
    if list_all is_underscore (take count (drop blanks text)) then None
    else Some (record { base = base; digits = behind + blanks; end = behind + blanks + count })

-- the part's digits are within so many bytes
abbrev pub IsSuffixWithin : ℕ → Suffix → Type 0
IsSuffixWithin count suffix = (0 < suffix.base) × (suffix.digits ≤ suffix.end) × (suffix.end ≤ count)

abbrev pub suffix_behind : ℕ → List ℕ → Option Suffix
suffix_behind blanks [] = None
suffix_behind blanks (quote ∷ []) = None
suffix_behind blanks (quote ∷ letter ∷ text) =
    if quote == 39 then option_and_then (λ base. digits_at base (blanks + 2) text) (base_of letter) else None

abbrev pub suffix_at : List ℕ → Option Suffix
suffix_at text = suffix_behind (blank_length text) (drop (blank_length text) text)

-- a number that is above 2 ^ 32 - 1 counts as 2 ^ 32
abbrev pub capped : ℕ → ℕ
capped n = min n (GREATEST_NUMBER + 1)

abbrev pub whole_piece : ℕ → ℕ → Piece
whole_piece number count = if number == (GREATEST_NUMBER + 1) then Refused (Constant number) else Token (Number number) count

abbrev pub constant_piece : ℕ → ℕ → List ℕ → ℕ → Piece
constant_piece width base digits count =
    if list_any is_unknown digits then Refused XZ
    else (if nat_lt CONSTANT_BITS width then Refused (Constant width)
    else (if nat_lt (value base digits) (2 ^ 128) then Token (Sized (record { width = width; value = value base digits % 2 ^ width })) count
    else Refused (Constant (CONSTANT_BITS + 1))))

abbrev pub number_with : ℕ → ℕ → List ℕ → Option Suffix → Piece
number_with width count behind None = whole_piece width count
number_with width count behind (Some suffix) =
    if width == 0 then whole_piece width count
    else constant_piece width suffix.base (slice_range behind suffix.digits suffix.end) (count + suffix.end)

abbrev pub number_at : List ℕ → Piece
number_at text =
    let count = prefix_len is_number_byte text in
    number_with (capped (value 10 (take count text))) count (drop count text) (suffix_at (drop count text))

abbrev pub word_at : List ℕ → Piece
word_at text =
    let count = name_length text in
    if is_construct (take count text) then Token Outside count
    else (if nat_lt NAME_BYTES count then Refused (NameLength count)
    else Token Ident count)

abbrev pub escaped_with : ℕ → Bool → Piece
escaped_with count ends =
    if count == 0 then Refused BadByte
    else (if not ends then Refused BadByte
    else (if nat_lt NAME_BYTES count then Refused (NameLength count)
    else Token Escaped (count + 1)))

abbrev pub escaped_behind : List ℕ → Piece
escaped_behind text = escaped_with (prefix_len is_printable text) (ends_escaped (drop (prefix_len is_printable text) text))

-- how far it is to the first place where the rest of the text passes the test
abbrev pub first_at : (List ℕ → Bool) → List ℕ → Option ℕ
first_at test [] = if test [] then Some 0 else None
first_at test (b ∷ text) = if test (b ∷ text) then Some 0 else option_map suc (first_at test text)

-- how far the part goes on behind the word `ifndef`
abbrev pub glbl_behind : ℕ → List ℕ → Option ℕ
glbl_behind blanks text =
    if bytes_eq (take (name_length text) text) (codes "GLBL")
    then option_map (λ n. blanks + 4 + n + 6) (first_at is_endif (drop 4 text))
    else None

abbrev pub glbl_length : List ℕ → Option ℕ
glbl_length text = glbl_behind (blank_length text) (drop (blank_length text) text)

abbrev pub part_piece : ℕ → Option ℕ → Piece
part_piece count None = Token Outside count
part_piece count (Some n) = Skip (count + n)

abbrev pub directive_with : ℕ → List ℕ → List ℕ → Piece
directive_with count word behind =
    if bytes_eq word (codes "timescale") then Skip (count + 1 + line_length behind)
    else (if bytes_eq word (codes "ifndef") then part_piece (count + 1) (glbl_length behind)
    else Token Outside (count + 1))

abbrev pub directive_behind : List ℕ → Piece
directive_behind text =
    if begins_as is_letter text then directive_with (name_length text) (take (name_length text) text) (drop (name_length text) text)
    else Refused BadByte

-- a piece that has so many more bytes than what is closed, if it is
abbrev pub closed_piece : (ℕ → Piece) → Option ℕ → Piece
closed_piece piece None = Refused BadByte
closed_piece piece (Some n) = piece n

abbrev pub slash_behind : List ℕ → Piece
slash_behind [] = Token Outside 1
slash_behind (b ∷ text) =
    if b == 47 then Skip (line_length (b ∷ text) + 1)
    else (if b == 42 then closed_piece (λ n. Skip (n + 2)) (closed_length Comment text)
    else Token Outside 1)

abbrev pub parenthesis_behind : List ℕ → Piece
parenthesis_behind text =
    if opens_attribute text then closed_piece (λ n. Skip (n + 2)) (closed_length Attribute (drop 1 text))
    else Token (Mark 40) 1

abbrev pub by_class : Class → ℕ → List ℕ → Piece
by_class Blank b text = Skip 1
by_class Letter b text = word_at (b ∷ text)
by_class Digit b text = number_at (b ∷ text)
by_class MarkByte b text = Token (Mark b) 1
by_class Parenthesis b text = parenthesis_behind text
by_class Slash b text = slash_behind text
by_class Operator b text = Token Outside 1
by_class Quote b text = closed_piece (λ n. Token Text (n + 1)) (closed_length InText text)
by_class Backslash b text = escaped_behind text
by_class Backquote b text = directive_behind text
by_class Other b text = Refused BadByte

abbrev pub piece_at : List ℕ → Piece
piece_at [] = Refused BadByte
piece_at (b ∷ text) = by_class (class_of b) b text

-- how many bytes a piece has
abbrev pub bytes_of : Piece → ℕ
bytes_of (Skip n) = n
bytes_of (Token kind n) = n
bytes_of (Refused flaw) = 0
