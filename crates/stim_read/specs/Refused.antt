-- What is said of the text of a stimulus: which rows it begins with, and why it is refused.
use Rattle.std.specs.Prelude.{◌≡◌, ℕ, Bool, List, ◌∷◌, ◌++◌, length, sum, Some}
use Rattle.std.specs.Str.Lines.{lines}
use Rattle.ila_base.specs.declared.refusal.StimRefusal.{StimRefusal}
use Rattle.ila_base.specs.declared.refusal.StimRefusal.TheVariants.{Header}
use Rattle.stim_read.specs.declared.inputs.DataInput.{DataInput}
use Rattle.stim_read.specs.Stimulus.{IsHeader, AreRows, names_of, widths_of, fields_of}
use Rattle.stim_read.specs.Reading.{IsSomeRow, RefusesLine, HasNoHeader}

-- The text begins with a header and lines that stand for rows, and these other lines follow.
pub record BeginsWith (inputs : List DataInput) (text : List ℕ) (order : List ℕ) (rows : List (List Bool)) (others : List (List ℕ)) : Type 0 where
  pub header : List ℕ
  pub taken : List (List ℕ)
  pub cut : lines text ≡ header ∷ (taken ++ others)
  pub named : IsHeader (names_of inputs) order header
  pub each : AreRows (fields_of (widths_of inputs) order) (sum (widths_of inputs)) taken rows

-- behind a header and these rows, the next line is refused
pub record IsRefusedBehind (inputs : List DataInput) (text : List ℕ) (rows : List (List Bool)) (why : StimRefusal) : Type 0 where
  pub order : List ℕ
  pub line : List ℕ
  pub more : List (List ℕ)
  pub begins : BeginsWith inputs text order rows (line ∷ more)
  pub refuses : RefusesLine (length rows) (IsSomeRow (fields_of (widths_of inputs) order) (sum (widths_of inputs)) line) why

-- why a text is refused: it has no header, or a line behind rows is refused
abbrev pub IsRefused : List DataInput → List ℕ → StimRefusal → Type 0
IsRefused inputs text Header = HasNoHeader inputs (Some text)
IsRefused inputs text why = (rows : List (List Bool)) × IsRefusedBehind inputs text rows why
