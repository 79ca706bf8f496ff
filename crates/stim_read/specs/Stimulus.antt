-- The text of a stimulus: a header line that names the inputs, and a line of hexadecimal words for
-- each clock.
use Rattle.std.specs.Prelude.{◌≡◌, ◌≢◌, ℕ, ◌+◌, ◌-◌, ◌*◌, ◌/◌, ◌%◌, ◌^◌, ◌<◌, ◌≤◌, ◌==◌, Bool, false, List, [], ◌∷◌, map, length, take, drop, sum, sum_by, max, count_by, slice_index, get_or, replicate, All, ⊤}
use Rattle.std.specs.Char.{digit_value}
use Rattle.std.specs.List.{flat_map, join_with_byte}
use Rattle.std.specs.Str.Lines.{lines}
use Rattle.stim_read.specs.declared.inputs.DataInput.{DataInput}
use Rattle.stim_read.specs.declared.inputs.Field.{Field}

-- the code of a space
abbrev pub space : ℕ
space = 32

-- Numbers of inputs in some order: each number below the count stands exactly once, and no other.
pub record IsOrder (count : ℕ) (order : List ℕ) : Type 0 where
  pub within : All (λ k. k < count) order
  pub once : (k : ℕ) → k < count → count_by (λ j. j == k) order ≡ 1

-- the names of inputs
abbrev pub names_of : List DataInput → List (List ℕ)
names_of inputs = map (λ input. input.name) inputs

-- the widths of inputs
abbrev pub widths_of : List DataInput → List ℕ
widths_of inputs = map (λ input. input.width) inputs

-- the name of the k-th input
abbrev pub name_at : List (List ℕ) → ℕ → List ℕ
name_at names k = get_or names k []

-- Names of inputs: each has one or more bytes, all of them from 33 to 126, and no two are equal.
pub record AreNames (names : List (List ℕ)) : Type 0 where
  pub filled : All (λ name. 0 < length name) names
  pub visible : All (λ name. All (λ byte. (33 ≤ byte) × (byte ≤ 126)) name) names
  pub apart : (j k : ℕ) → j < k → k < length names → name_at names j ≢ name_at names k

-- A header: the names of all inputs, each once, in some order, with one space between.
pub record IsHeader (names : List (List ℕ)) (order : List ℕ) (line : List ℕ) : Type 0 where
  pub each : IsOrder (length names) order
  pub joined : line ≡ join_with_byte space (map (name_at names) order)

-- The k-th input's field of a row: the bits of the inputs stand one after the other.
abbrev pub field_at : List ℕ → ℕ → Field
field_at widths k = record { place = sum (take k widths); width = slice_index widths k }

-- the fields of the inputs in the order of the header
abbrev pub fields_of : List ℕ → List ℕ → List Field
fields_of widths order = map (field_at widths) order

-- a bit of a hexadecimal digit, the highest first
abbrev pub digit_bit : ℕ → ℕ → Bool
digit_bit digit i = ((digit_value digit / 2 ^ (3 - i)) % 2) == 1

-- the four bits of a hexadecimal digit, the highest first
abbrev pub digit_bits : ℕ → List Bool
digit_bits digit = digit_bit digit 0 ∷ digit_bit digit 1 ∷ digit_bit digit 2 ∷ digit_bit digit 3 ∷ []

-- the bits of a word's digits, the highest first
abbrev pub word_bits : List ℕ → List Bool
word_bits word = flat_map digit_bits word

-- how many hexadecimal digits a value of so many bits has
abbrev pub digits_of : ℕ → ℕ
digits_of width = (width + 3) / 4

-- how many bits of a word stand above a value of so many bits
abbrev pub padding_of : ℕ → ℕ
padding_of width = 4 * digits_of width - width

-- A word for a value of so many bits: as many hexadecimal digits as it needs, in either case. The
-- bits above the width are 0.
pub record IsWord (width : ℕ) (word : List ℕ) : Type 0 where
  pub digits : length word ≡ digits_of width
  pub hexadecimal : All (λ digit. digit_value digit < 16) word
  pub padded : take (padding_of width) (word_bits word) ≡ replicate (padding_of width) false

-- the value that a word stands for, the highest bit first
abbrev pub value_of : ℕ → List ℕ → List Bool
value_of width word = drop (padding_of width) (word_bits word)

-- how many bytes a header or a row has at most, with a carriage return and without its newline
abbrev pub longest_line : List DataInput → ℕ
longest_line inputs = max (max (sum_by (λ input. length input.name + 1) inputs) (sum_by (λ input. digits_of input.width + 1) inputs)) 1

-- the bits of a field in a row
abbrev pub bits_at : Field → List Bool → List Bool
bits_at field row = take field.width (drop field.place row)

-- Words that stand for the fields of a row, one for each.
abbrev pub Spell : List (List ℕ) → List Field → List Bool → Type 0
Spell [] [] row = ⊤
Spell [] (field ∷ fields) row = ⊥
Spell (word ∷ words) [] row = ⊥
Spell (word ∷ words) (field ∷ fields) row =
    IsWord field.width word × (bits_at field row ≡ value_of field.width word) × Spell words fields row

-- A line stands for a row of so many bits: it is a word for each field, with one space between.
pub record IsRow (fields : List Field) (size : ℕ) (line : List ℕ) (row : List Bool) : Type 0 where
  pub words : List (List ℕ)
  pub joined : line ≡ join_with_byte space words
  pub spelled : Spell words fields row
  pub long : length row ≡ size

-- Lines stand for rows, one for each.
abbrev pub AreRows : List Field → ℕ → List (List ℕ) → List (List Bool) → Type 0
AreRows fields size [] [] = ⊤
AreRows fields size [] (row ∷ rows) = ⊥
AreRows fields size (line ∷ lines) [] = ⊥
AreRows fields size (line ∷ lines) (row ∷ rows) = IsRow fields size line row × AreRows fields size lines rows

-- A text stands for rows of the inputs: its first line is a header, and each further line is a row,
-- whose words stand in the header's order and whose bits stand in the order of the inputs.
pub record IsStimulus (inputs : List DataInput) (text : List ℕ) (rows : List (List Bool)) : Type 0 where
  pub order : List ℕ
  pub header : List ℕ
  pub body : List (List ℕ)
  pub cut : lines text ≡ header ∷ body
  pub named : IsHeader (names_of inputs) order header
  pub each : AreRows (fields_of (widths_of inputs) order) (sum (widths_of inputs)) body rows
