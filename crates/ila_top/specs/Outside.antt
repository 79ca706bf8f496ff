-- What a command meets: the files of a shelf, a stimulus and a trace, at one moment; and what is said of the files where they are told.
use Rattle.std.specs.Prelude.{◌≡◌, ℕ, ◌<◌, ◌≤◌, List, [], ◌∷◌, length, ⊤, Option, Some, None, if◌then◌else◌}
use Rattle.std.specs.Str.{bytes_eq}
use Rattle.ila_base.specs.Files.{File, file_of}
use Rattle.ila_base.specs.declared.outside.Shelf as shelves
use Rattle.ila_base.specs.declared.outside.Sink as sinks
use Rattle.ila_base.specs.declared.outside.Source as sources

-- Stimulus and trace at one moment: both themselves, what is left of the one and what was written to the other, where they are told, and
-- the counts of their faults.
pub record Streams (S K : Type 0) : Type 0 where
  pub stimulus : S
  pub left : Option (List ℕ)
  pub read_faults : ℕ
  pub trace : K
  pub written : Option (List ℕ)
  pub write_faults : ℕ

-- The outside of a call at one moment: the files of the shelf, where they are told, the count of its faults, and the streams.
pub record Outside (S K : Type 0) : Type 0 where
  pub files : Option (List File)
  pub shelf_faults : ℕ
  pub streams : Streams S K

-- both as a stimulus and a trace tell it, and the outside as these and a shelf do
abbrev pub streams_of : {S K : Type 0} → sources.Ghosts S → sinks.Ghosts K → S → K → Streams S K
streams_of on_source on_sink stimulus trace = record {
  stimulus = stimulus;
  left = on_source.left stimulus;
  read_faults = on_source.faults stimulus;
  trace = trace;
  written = on_sink.written trace;
  write_faults = on_sink.faults trace;
}

abbrev pub outside_of : {H S K : Type 0} → shelves.Ghosts H → sources.Ghosts S → sinks.Ghosts K → H → S → K → Outside S K
outside_of on_shelf on_source on_sink shelf stimulus trace = record {
  files = on_shelf.files shelf;
  shelf_faults = on_shelf.faults shelf;
  streams = streams_of on_source on_sink stimulus trace;
}

-- Where the files are told, this one has these bytes, is not there, or is longer than allowed.
abbrev pub HoldsIfTold : Option (List File) → List ℕ → List ℕ → Type 0
HoldsIfTold None name bytes = ⊤
HoldsIfTold (Some files) name bytes = file_of files name ≡ Some bytes

abbrev pub LacksIfTold : Option (List File) → List ℕ → Type 0
LacksIfTold None name = ⊤
LacksIfTold (Some files) name = file_of files name ≡ None

abbrev pub LongerIfTold : Option (List File) → List ℕ → ℕ → Type 0
LongerIfTold None name most = ⊤
LongerIfTold (Some files) name most = (bytes : List ℕ) × (file_of files name ≡ Some bytes) × (most < length bytes)

-- A file that was stored: it holds these bytes, or nothing is known of it, since its store failed.
pub record Stored : Type 0 where
  pub name : List ℕ
  pub bytes : Option (List ℕ)

-- what was stored last under a name, if anything was, where the last store is the first of the list
abbrev pub stored_as : List Stored → List ℕ → Option Stored
stored_as [] name = None
stored_as (file ∷ files) name = if bytes_eq file.name name then Some file else stored_as files name

-- the file has what was stored, where that is known
abbrev pub IsStored : Option (List ℕ) → Option (List ℕ) → Type 0
IsStored None new = ⊤
IsStored (Some bytes) new = new ≡ Some bytes

-- what has become of a file, from what it was and what was stored under its name
abbrev pub IsLeft : Option (List ℕ) → Option Stored → Option (List ℕ) → Type 0
IsLeft old None new = new ≡ old
IsLeft old (Some file) new = IsStored file.bytes new

-- Where the files are told: those that were stored hold their bytes, and all others are as they were.
abbrev pub LeavesFiles : Option (List File) → List Stored → Option (List File) → Type 0
LeavesFiles None stores new = ⊤
LeavesFiles (Some old) stores None = ⊥
LeavesFiles (Some old) [] (Some new) = new ≡ old
LeavesFiles (Some old) (file ∷ stores) (Some new) = (name : List ℕ) → IsLeft (file_of old name) (stored_as (file ∷ stores) name) (file_of new name)

-- Stimulus and trace are the very same as before, and all files are as they were.
pub record IsUntouched {S K : Type 0} (before after : Outside S K) : Type 0 where
  pub files : LeavesFiles before.files [] after.files
  pub streams : after.streams ≡ before.streams

-- no count of faults has fallen
pub record IsLater {S K : Type 0} (before after : Outside S K) : Type 0 where
  pub shelf : before.shelf_faults ≤ after.shelf_faults
  pub reads : before.streams.read_faults ≤ after.streams.read_faults
  pub writes : before.streams.write_faults ≤ after.streams.write_faults
