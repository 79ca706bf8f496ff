-- What a text begins with, as a function of the text: the form in which the code tells it. The relation that a reader is to
-- believe is in Tokens.
use Rattle.std.specs.Prelude.{◌≡◌, ℕ, zero, suc, ◌+◌, List, [], ◌∷◌, ◌++◌, take, drop, Bool, ◌==◌, if◌then◌else◌, Option, Some, None}
use Rattle.std.specs.List.{prefix_len}
use Rattle.ila_base.specs.declared.place.Place.{Place}
use Rattle.tsm_parse.specs.declared.bytes.Base.{Base}
use Rattle.tsm_parse.specs.declared.bytes.Base.TheVariants.{Decimal}
use Rattle.tsm_parse.specs.declared.token.Sort.{Sort}
use Rattle.tsm_parse.specs.declared.token.Sort.TheVariants.{Name, Register, Constant}
use Rattle.tsm_parse.specs.declared.token.Token.{Token as TokenOf}
use Rattle.tsm_parse.specs.declared.piece.Piece.{Piece}
use Rattle.tsm_parse.specs.declared.piece.Piece.TheVariants.{Skip, Token, Nothing}
use Rattle.tsm_parse.specs.Constants as constants
use Rattle.tsm_parse.specs.Constants.{is_place, passes_at, base_of}
use Rattle.ila_base.specs.Bytes.{is_blank, is_in_line, is_digit, is_letter, is_word_byte}
use Rattle.tsm_parse.specs.Words.{word_sort, is_single, is_double, mark_sort}

-- one more byte of a numeral before so many that end in a digit
abbrev pub digits_more : Bool → ℕ → ℕ
digits_more digit zero = if digit then 1 else 0
digits_more digit (suc n) = n + 2

-- how many bytes of the text are digits and `_`, of which the last is a digit
abbrev pub digits_end : Base → List ℕ → ℕ
digits_end base [] = 0
digits_end base (b ∷ bytes) = if is_place base b then digits_more (constants.is_digit base b) (digits_end base bytes) else 0

abbrev pub numeral_length : Base → List ℕ → ℕ
numeral_length base text = if passes_at (constants.is_digit base) text 0 then digits_end base text else 0

-- how many bytes the quote, the letter and the numeral behind it have, if there are any
abbrev pub based_bytes : ℕ → ℕ
based_bytes zero = 0
based_bytes (suc n) = n + 3

abbrev pub based_length : Option Base → List ℕ → ℕ
based_length None digits = 0
based_length (Some base) digits = based_bytes (numeral_length base digits)

abbrev pub suffix_length : List ℕ → ℕ
suffix_length [] = 0
suffix_length (quote ∷ []) = 0
suffix_length (quote ∷ letter ∷ digits) = if quote == 39 then based_length (base_of letter) digits else 0

abbrev pub constant_length : List ℕ → ℕ
constant_length text = numeral_length Decimal text + suffix_length (drop (numeral_length Decimal text) text)

abbrev pub register_length : List ℕ → ℕ
register_length text = if passes_at is_letter text 0 then 1 + prefix_len is_word_byte text else 0

abbrev pub mark_length : List ℕ → ℕ
mark_length [] = 0
mark_length (b ∷ []) = if is_single b then 1 else 0
mark_length (b ∷ c ∷ text) = if is_double b c then 2 else (if is_single b then 1 else 0)

-- how many bytes the token has that a text begins with; 0 where it begins with none
abbrev pub token_length : List ℕ → ℕ
token_length [] = 0
token_length (b ∷ text) =
    if is_digit b then constant_length (b ∷ text)
    else (if is_letter b then prefix_len is_word_byte (b ∷ text)
    else (if b == 36 then register_length text
    else mark_length (b ∷ text)))

-- what a token is to the grammar
abbrev pub sort_at : List ℕ → Sort
sort_at [] = Name
sort_at (b ∷ bytes) =
    if is_digit b then Constant
    else (if is_letter b then word_sort (b ∷ bytes)
    else (if b == 36 then Register
    else mark_sort (b ∷ bytes)))

-- how many bytes the comment has whose first slash the text stands behind
abbrev pub slashes_length : List ℕ → ℕ
slashes_length [] = 0
slashes_length (c ∷ text) = if c == 47 then 2 + prefix_len is_in_line text else 0

-- how many bytes are skipped
abbrev pub skip_length : List ℕ → ℕ
skip_length [] = 0
skip_length (b ∷ text) =
    if is_blank b then 1
    else (if b == 35 then 1 + prefix_len is_in_line text
    else (if b == 47 then slashes_length text
    else 0))

abbrev pub token_piece : List ℕ → ℕ → Piece
token_piece text zero = Nothing
token_piece text (suc n) = Token (sort_at (take (suc n) text)) (suc n)

abbrev pub skip_piece : List ℕ → ℕ → Piece
skip_piece text zero = token_piece text (token_length text)
skip_piece text (suc n) = Skip (suc n)

abbrev pub piece_at : List ℕ → Piece
piece_at text = skip_piece text (skip_length text)

-- how many bytes a piece has
abbrev pub bytes_of : Piece → ℕ
bytes_of (Skip n) = n
bytes_of (Token sort n) = n
bytes_of Nothing = 0

-- a piece with so many bytes is skipped, or is a token that comes behind the others
abbrev pub IsTaken : ℕ → Place → Piece → ℕ → List TokenOf → List TokenOf → Type 0
IsTaken at place (Skip n) count old new = (count ≡ n) × (new ≡ old)
IsTaken at place (Token sort n) count old new = (count ≡ n) × (new ≡ old ++ record { sort = sort; place = place; start = at; end = at + n } ∷ [])
IsTaken at place Nothing count old new = ⊥

-- nothing is there
abbrev pub IsNothing : Piece → Type 0
IsNothing (Skip n) = ⊥
IsNothing (Token sort n) = ⊥
IsNothing Nothing = Unit {0}
