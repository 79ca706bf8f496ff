-- The tokens of trigger programs: words, registers, constants and marks, what they are to the grammar, and what stands between
-- them (UG908, trigger state machine language).
use Rattle.std.specs.Prelude.{ℕ, ◌+◌, Bool, false, ◌&&◌, ◌||◌, ◌==◌, is_some, List, [], ◌∷◌, map, if◌then◌else◌, codes}
use Rattle.std.specs.List.{list_all}
use Rattle.std.specs.Str.{bytes_eq}
use Rattle.tsm_parse.specs.declared.token.Sort.{Sort}
use Rattle.tsm_parse.specs.declared.token.Sort.TheVariants.{Name, State, If, Then, ElseIf, Else, EndIf, Goto, Trigger, SetFlag, ClearFlag, IncrementCounter, ResetCounter, Register, Constant, Colon, Semicolon, LeftParenthesis, RightParenthesis, Equal, NotEqual, Less, LessEqual, Greater, GreaterEqual, AndAnd, OrOr}
use Rattle.ila_base.specs.Bytes.{is_between, is_letter, is_word_byte}
use Rattle.tsm_parse.specs.Constants.{constant_of}

-- a letter or `_`, and then letters, digits and `_`
abbrev pub is_word : List ℕ → Bool
is_word [] = false
is_word (b ∷ bytes) = is_letter b && list_all is_word_byte bytes

-- `$` and a word
abbrev pub is_register : List ℕ → Bool
is_register [] = false
is_register (b ∷ bytes) = b == 36 && is_word bytes

-- the lower-case letter of a letter in either case; any other byte is as it is
abbrev pub lower : ℕ → ℕ
lower b = if is_between 65 90 b then b + 32 else b

abbrev pub is_keyword : List ℕ → List ℕ → Bool
is_keyword keyword bytes = bytes_eq (map lower bytes) keyword

-- a word is a keyword, in any case, or a name
abbrev pub word_sort : List ℕ → Sort
word_sort bytes =
    if is_keyword (codes "state") bytes then State
    else (if is_keyword (codes "if") bytes then If
    else (if is_keyword (codes "then") bytes then Then
    else (if is_keyword (codes "elseif") bytes then ElseIf
    else (if is_keyword (codes "else") bytes then Else
    else (if is_keyword (codes "endif") bytes then EndIf
    else (if is_keyword (codes "goto") bytes then Goto
    else (if is_keyword (codes "trigger") bytes then Trigger
    else (if is_keyword (codes "set_flag") bytes then SetFlag
    else (if is_keyword (codes "clear_flag") bytes then ClearFlag
    else (if is_keyword (codes "increment_counter") bytes then IncrementCounter
    else (if is_keyword (codes "reset_counter") bytes then ResetCounter
    else Name)))))))))))

-- a mark of one byte: `:` `;` `(` `)` `<` `>`
abbrev pub is_single : ℕ → Bool
is_single b = b == 58 || b == 59 || b == 40 || b == 41 || b == 60 || b == 62

-- a mark of two bytes: `==` `!=` `<=` `>=` `&&` `||`
abbrev pub is_double : ℕ → ℕ → Bool
is_double b c = (b == 61 && c == 61) || (b == 33 && c == 61) || (b == 60 && c == 61) || (b == 62 && c == 61) || (b == 38 && c == 38) || (b == 124 && c == 124)

abbrev pub is_mark : List ℕ → Bool
is_mark [] = false
is_mark (b ∷ []) = is_single b
is_mark (b ∷ c ∷ []) = is_double b c
is_mark (b ∷ c ∷ d ∷ bytes) = false

abbrev pub single_sort : ℕ → Sort
single_sort b =
    if b == 58 then Colon
    else (if b == 59 then Semicolon
    else (if b == 40 then LeftParenthesis
    else (if b == 41 then RightParenthesis
    else (if b == 60 then Less
    else Greater))))

abbrev pub double_sort : ℕ → Sort
double_sort b =
    if b == 61 then Equal
    else (if b == 33 then NotEqual
    else (if b == 60 then LessEqual
    else (if b == 62 then GreaterEqual
    else (if b == 38 then AndAnd
    else OrOr))))

abbrev pub mark_sort : List ℕ → Sort
mark_sort [] = Name
mark_sort (b ∷ []) = single_sort b
mark_sort (b ∷ c ∷ bytes) = double_sort b

abbrev pub is_constant : List ℕ → Bool
is_constant bytes = is_some (constant_of bytes)

abbrev pub is_token : List ℕ → Bool
is_token bytes = is_word bytes || is_register bytes || is_constant bytes || is_mark bytes

-- what a token is to the grammar
abbrev pub sort_of : List ℕ → Sort
sort_of bytes =
    if is_word bytes then word_sort bytes
    else (if is_register bytes then Register
    else (if is_constant bytes then Constant
    else mark_sort bytes))
