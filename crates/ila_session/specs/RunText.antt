-- A text of a run: bytes for each clock, and what stands before the first of them.
use Rattle.std.specs.Prelude.{ℕ, zero, suc, ◌≤◌, Bool, List, [], ◌++◌, length, take, Option}
use Rattle.std.specs.List.{flat_map, range_with_len}
use Rattle.std.specs.Io.KnownBytes.{Appends}

-- what stands before the first clock, and the bytes of clock t, from the bits at each clock: those of a netlist's nets, or of a design
pub record RunText (B : Type 0) : Type 0 where
  pub head : List ℕ
  pub clock : (ℕ → B → Bool) → ℕ → List ℕ

-- the text of the first clocks
abbrev pub text_of : {B : Type 0} → RunText B → (ℕ → B → Bool) → ℕ → List ℕ
text_of text bit clocks = text.head ++ flat_map (text.clock bit) (range_with_len 0 clocks)

-- of a text of so many clocks, what comes before the last clock: the text of one clock less, and nothing where there is none
abbrev pub text_before : (ℕ → List ℕ) → ℕ → List ℕ
text_before text zero = []
text_before text (suc clocks) = text clocks

-- A front of the text of so many clocks was put behind what was written, with at least all that comes before the last clock.
pub record AppendsClocksFront (text : ℕ → List ℕ) (clocks : ℕ) (old new : Option (List ℕ)) : Type 0 where
  pub count : ℕ
  pub whole : length (text_before text clocks) ≤ count
  pub front : Appends old new (take count (text clocks))
