-- The lines of a stream: what a reader has read and not used yet, what it still can read, and the
-- first line of these bytes.
use Rattle.std.specs.Prelude.{◌≡◌, ◌≢◌, ℕ, ◌+◌, ◌-◌, ◌<◌, ◌≤◌, ◌⊎◌, Bool, true, false, List, [], ◌∷◌, ◌++◌, ◌==◌, length, take, drop, count_by, All, ⊤, Option, Some, None}
use Rattle.std.specs.Str.Lines.{lines}
use Rattle.std.specs.Io.KnownBytes.{prepend_known, IsAtEnd}
use Rattle.stim_read.specs.declared.line_reader.TheConstants.{PIECE}
use Rattle.stim_read.specs.declared.line_reader.Found.{Found}
use Rattle.stim_read.specs.declared.line_reader.Found.TheVariants.{Newline, Nothing, TooLong}

-- the code of a newline
abbrev pub newline : ℕ
newline = 10

-- bytes without a newline
abbrev pub Unbroken : List ℕ → Type 0
Unbroken bytes = All (λ byte. byte ≢ newline) bytes

-- the bytes of a buffer from a place up to another
abbrev pub between : List ℕ → ℕ → ℕ → List ℕ
between buffer at end = take (end - at) (drop at buffer)

-- What is still to come: the unused bytes and what the source has left, or the unused bytes alone
-- once the end was met.
abbrev pub rest_of : List ℕ → Bool → Option (List ℕ) → Option (List ℕ)
rest_of unused true left = Some unused
rest_of unused false left = prepend_known unused left

-- Where the end was met, the source has nothing left.
abbrev pub IsDrained : Bool → Option (List ℕ) → Type 0
IsDrained ended left = ended ≡ true → IsAtEnd left

-- Where the bytes are told, only a part of a line was read of them: bytes without a newline, before what is left.
abbrev pub ReadsPart : Option (List ℕ) → Option (List ℕ) → Type 0
ReadsPart None left = ⊤
ReadsPart (Some bytes) None = ⊥
ReadsPart (Some bytes) (Some left) = (part : List ℕ) × Unbroken part × (bytes ≡ part ++ left)

-- What a search for a newline found in bytes behind a begun line. They are moved to the line up to
-- the newline, or all of them, but for a line that then would have too many bytes.
abbrev pub Finds : Found → ℕ → List ℕ → List ℕ → List ℕ → List ℕ → Type 0
Finds Newline most line ahead grown behind =
    (piece : List ℕ) × Unbroken piece × (ahead ≡ piece ++ newline ∷ behind) × (grown ≡ line ++ piece)
Finds Nothing most line ahead grown behind = Unbroken ahead × (behind ≡ []) × (grown ≡ line ++ ahead)
Finds TooLong most line ahead grown behind =
    (piece : List ℕ) × (more : List ℕ) × Unbroken piece × (ahead ≡ piece ++ more) × (most < length line + length piece)

-- Where the rest is told, this is its first line, and the new rest has the others.
abbrev pub TakesLine : Option (List ℕ) → List ℕ → Option (List ℕ) → Type 0
TakesLine None line new = ⊤
TakesLine (Some rest) line None = ⊥
TakesLine (Some rest) line (Some new) = lines rest ≡ line ∷ lines new

-- Where the rest is told, it begins with more bytes than these without a newline.
abbrev pub HasLongLine : ℕ → Option (List ℕ) → Type 0
HasLongLine most None = ⊤
HasLongLine most (Some rest) = (piece : List ℕ) × (more : List ℕ) × Unbroken piece × (rest ≡ piece ++ more) × (most < length piece)

-- Bytes were read of a source behind those that were unused: only while these held no newline and were no more than a line may
-- have, and then one piece more.
pub record ReadsOn (most : ℕ) (unused bytes left : List ℕ) : Type 0 where
  pub front : List ℕ
  pub piece : List ℕ
  pub cut : bytes ≡ front ++ (piece ++ left)
  pub clean : Unbroken (unused ++ front)
  pub short : length (unused ++ front) ≤ most
  pub one : length piece ≤ PIECE

-- Where the bytes are told, nothing was read of them, or no more than is needed to find the end of a line.
abbrev pub ReadsAhead : ℕ → List ℕ → Option (List ℕ) → Option (List ℕ) → Type 0
ReadsAhead most unused None left = ⊤
ReadsAhead most unused (Some bytes) None = ⊥
ReadsAhead most unused (Some bytes) (Some left) = (left ≡ bytes) ⊎ ReadsOn most unused bytes left

-- how many line ends there are among bytes
abbrev pub line_ends : List ℕ → ℕ
line_ends bytes = count_by (λ byte. byte == newline) bytes

-- Where it is told what is left: of the line ends among the unused bytes and those left, all but so many are still there.
abbrev pub UsesEnds : ℕ → List ℕ → Option (List ℕ) → List ℕ → Option (List ℕ) → Type 0
UsesEnds count unused None behind left = ⊤
UsesEnds count unused (Some bytes) behind None = ⊤
UsesEnds count unused (Some bytes) behind (Some left) = line_ends unused + line_ends bytes ≤ count + (line_ends behind + line_ends left)
