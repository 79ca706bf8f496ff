-- What the steps over a row's line say of it: a word at the front of a text, and words that each
-- follow a space.
use Rattle.std.specs.Prelude.{◌≡◌, ℕ, ◌+◌, ◌<◌, ◌≤◌, Bool, List, length, ◌∷◌, ◌++◌, take, drop, get_or, All}
use Rattle.std.specs.List.{flat_map}
use Rattle.stim_read.specs.declared.inputs.Field.{Field}
use Rattle.stim_read.specs.Stimulus.{space, IsWord, Spell, value_of}

-- no front of the text is a word for so many bits
abbrev pub NoWord : ℕ → List ℕ → Type 0
NoWord width text = (word rest : List ℕ) → text ≡ word ++ rest → IsWord width word → ⊥

-- A word stands at the front of the text, and its value was put into the field's place.
pub record TakesWord (field : Field) (text rest : List ℕ) (old new : List Bool) : Type 0 where
  pub word : List ℕ
  pub whole : text ≡ word ++ rest
  pub good : IsWord field.width word
  pub put : new ≡ take field.place old ++ (value_of field.width word ++ drop (field.place + field.width) old)

-- a word behind a space
abbrev pub spaced : List ℕ → List ℕ
spaced word = space ∷ word

-- A text of words for the fields of a row, each behind a space.
pub record IsTail (fields : List Field) (text : List ℕ) (row : List Bool) : Type 0 where
  pub words : List (List ℕ)
  pub joined : text ≡ flat_map spaced words
  pub spelled : Spell words fields row

-- two fields share no bit: the second lies before the first, unless it begins behind it
abbrev pub Apart : Field → Field → Type 0
Apart first second = second.place < first.place + first.width → second.place + second.width ≤ first.place

-- no two fields share a bit
abbrev pub AllApart : List Field → Type 0
AllApart fields = (j k : ℕ) (d : Field) → j < k → k < length fields → Apart (get_or fields j d) (get_or fields k d)

-- each field lies within so many bits
abbrev pub AllFit : List Field → ℕ → Type 0
AllFit fields size = All (λ field. field.place + field.width ≤ size) fields
