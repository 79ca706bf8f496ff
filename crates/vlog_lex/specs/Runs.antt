-- Runs of bytes, and the first place that passes a test.
use Rattle.std.specs.Prelude.{◌≡◌, ℕ, List, [], ◌∷◌, ◌++◌, Bool, true, false}

-- rest doesn't go on with a byte that passes the test
abbrev pub Stops : (ℕ → Bool) → List ℕ → Type 0
Stops test [] = Unit {0}
Stops test (b ∷ rest) = test b ≡ false

-- before rest, the bytes are the longest run of those that pass the test
abbrev pub IsRun : (ℕ → Bool) → List ℕ → List ℕ → Type 0
IsRun test [] rest = Stops test rest
IsRun test (b ∷ bytes) rest = (test b ≡ true) × IsRun test bytes rest

-- rest passes the test, and nothing does from a place before it on
abbrev pub IsFirst : (List ℕ → Bool) → List ℕ → List ℕ → Type 0
IsFirst test [] rest = test rest ≡ true
IsFirst test (b ∷ bytes) rest = (test (b ∷ bytes ++ rest) ≡ false) × IsFirst test bytes rest
