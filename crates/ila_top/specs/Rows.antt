-- The rows of a stimulus that were taken, and why the line behind them is refused, where it is told.
use Rattle.std.specs.Prelude.{ℕ, ◌≤◌, Bool, List, ◌++◌, length, ⊤, Option, Some, None}
use Rattle.std.specs.Str.Lines.{lines}
use Rattle.ila_base.specs.declared.refusal.StimRefusal.{StimRefusal}
use Rattle.stim_read.specs.declared.inputs.DataInput.{DataInput}
use Rattle.stim_read.specs.Stimulus.{IsStimulus}
use Rattle.stim_read.specs.Reading.{most_rows}
use Rattle.stim_read.specs.ReadLaws.{IsReadFor}
use Rattle.stim_read.specs.Refused.{BeginsWith, IsRefusedBehind}
use Rattle.stim_read.specs.Streams.{Unbroken}

-- Each where the stimulus is told: it begins with these rows; it has these rows alone, not more than may be; it is refused behind
-- them; or they are all that were read whole: behind them stands a part of a line, without a newline, and then what the source has left.
abbrev pub BeginsIfTold : List DataInput → Option (List ℕ) → List (List Bool) → Type 0
BeginsIfTold inputs None rows = ⊤
BeginsIfTold inputs (Some text) rows = (order : List ℕ) × (others : List (List ℕ)) × BeginsWith inputs text order rows others

abbrev pub HasRowsIfTold : List DataInput → Option (List ℕ) → List (List Bool) → Type 0
HasRowsIfTold inputs None rows = ⊤
HasRowsIfTold inputs (Some text) rows = IsStimulus inputs text rows × (length rows ≤ most_rows)

abbrev pub RefusesIfTold : List DataInput → Option (List ℕ) → List (List Bool) → StimRefusal → Type 0
RefusesIfTold inputs None rows why = ⊤
RefusesIfTold inputs (Some text) rows why = IsRefusedBehind inputs text rows why

abbrev pub ReadsRowsIfTold : List DataInput → Option (List ℕ) → List (List Bool) → Option (List ℕ) → Type 0
ReadsRowsIfTold inputs None rows left = ⊤
ReadsRowsIfTold inputs (Some text) rows None = ⊥
ReadsRowsIfTold inputs (Some text) rows (Some left) =
    (order : List ℕ) × (part : List ℕ) × Unbroken part × BeginsWith inputs text order rows (lines (part ++ left))

-- Where the stimulus is told, no more was read of it than its header and so many rows need: before a last piece it has no more line
-- ends than rows.
abbrev pub ReadsNoFurther : Option (List ℕ) → ℕ → Option (List ℕ) → Type 0
ReadsNoFurther None rows left = ⊤
ReadsNoFurther (Some text) rows left = (unused : List ℕ) × IsReadFor text rows unused left
