-- The files of a shelf, as a list of pairs of name and bytes, and what a load and a store do to them.
use Rattle.std.specs.Prelude.{◌≡◌, ◌≢◌, ℕ, ◌<◌, List, [], ◌∷◌, ◌++◌, map, length, ⊤, Option, Some, None, Result, Ok, Err, if◌then◌else◌}
use Rattle.std.specs.Str.{bytes_eq}
use Rattle.std.specs.Global.{Vec}
use Rattle.ila_base.specs.declared.outside.LoadFault.{LoadFault}
use Rattle.ila_base.specs.declared.outside.LoadFault.TheVariants.{Failed, Missing, TooLong, NoMemory}

-- a name and the bytes of the file of that name
abbrev pub File : Type 0
File = List ℕ × List ℕ

-- the files that a list of names and vectors of bytes stands for
abbrev pub told : List (List ℕ × Vec ℕ) → List File
told files = map (λ file. (file.0, file.1.items)) files

-- the bytes of the file of this name, where there is one; of two with one name the first counts
abbrev pub file_of : List File → List ℕ → Option (List ℕ)
file_of [] name = None
file_of (file ∷ files) name = if bytes_eq file.0 name then Some file.1 else file_of files name

-- The files stand for a front without the name, a file of the name, and the rest.
pub record IsSplit (files : List File) (name : List ℕ) (at : ℕ) : Type 0 where
  pub front : List File
  pub bytes : List ℕ
  pub back : List File
  pub whole : files ≡ front ++ (name, bytes) ∷ back
  pub long : length front ≡ at
  pub absent : file_of front name ≡ None

-- The files are told, and there is one of this name with these bytes.
abbrev pub Holds : Option (List File) → List ℕ → List ℕ → Type 0
Holds None name bytes = ⊥
Holds (Some files) name bytes = file_of files name ≡ Some bytes

-- The files are told, and there is none of this name.
abbrev pub Lacks : Option (List File) → List ℕ → Type 0
Lacks None name = ⊥
Lacks (Some files) name = file_of files name ≡ None

-- Where the files are told, each is as it was.
abbrev pub KeepsFiles : Option (List File) → Option (List File) → Type 0
KeepsFiles None new = ⊤
KeepsFiles (Some old) None = ⊥
KeepsFiles (Some old) (Some new) = new ≡ old

-- Where the files are told, each file but the one of this name is as it was.
abbrev pub KeepsOthers : Option (List File) → Option (List File) → List ℕ → Type 0
KeepsOthers None new name = ⊤
KeepsOthers (Some old) None name = ⊥
KeepsOthers (Some old) (Some new) name = (other : List ℕ) → other ≢ name → file_of new other ≡ file_of old other

-- Where the files are told, the one of this name now has these bytes.
abbrev pub NowHolds : Option (List File) → Option (List File) → List ℕ → List ℕ → Type 0
NowHolds None new name bytes = ⊤
NowHolds (Some old) new name bytes = Holds new name bytes

-- What a load answers about the files: the bytes of the file, that there is none, or that there is
-- one with more bytes than were asked for at most. A fault and want of memory tell nothing of them.
abbrev pub Tells : List File → List ℕ → ℕ → Result (Vec ℕ) LoadFault → Type 0
Tells files name most (Ok bytes) = file_of files name ≡ Some bytes.items
Tells files name most (Err Missing) = file_of files name ≡ None
Tells files name most (Err (TooLong count)) = (bytes : List ℕ) × (file_of files name ≡ Some bytes) × (most < length bytes)
Tells files name most (Err Failed) = ⊤
Tells files name most (Err NoMemory) = ⊤

-- the same, where the files are told
abbrev pub TellsKnown : Option (List File) → List ℕ → ℕ → Result (Vec ℕ) LoadFault → Type 0
TellsKnown None name most result = ⊤
TellsKnown (Some files) name most result = Tells files name most result
