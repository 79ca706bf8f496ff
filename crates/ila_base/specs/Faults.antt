-- Counts of faults, and what a sink has of a piece: the words of the contracts on the outside.
use Rattle.std.specs.Prelude.{ℕ, ◌+◌, ◌-◌, ◌^◌, ◌≤◌, min, List, take, Option, Result, MatchResult}
use Rattle.std.specs.Io.KnownBytes.{Appends}

-- The count of faults rose, or stands at its last value.
abbrev pub Rose : ℕ → ℕ → Type 0
Rose before now = min (before + 1) (2 ^ 64 - 1) ≤ now

-- A front of the piece was appended to what is known of a sink.
abbrev pub AppendsFront : Option (List ℕ) → Option (List ℕ) → List ℕ → Type 0
AppendsFront old new piece = (n : ℕ) × Appends old new (take n piece)

-- All bytes were appended to what is known of a sink, or after a refusal a front of them.
abbrev pub Writes : {T E : Type 0} → Option (List ℕ) → Option (List ℕ) → Result T E → List ℕ → Type 0
Writes old new result bytes = MatchResult result (λ _. Appends old new bytes) (λ _. AppendsFront old new bytes)
