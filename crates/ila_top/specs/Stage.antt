-- What a command does before it touches stimulus, trace and files: a chain of stages. A stage says which value the files give, and with
-- which endings it refuses them; of two stages in a row the second goes on with what the first gives.
use Rattle.std.specs.Prelude.{◌≡◌, ℕ, ⊤, ◌⊎◌, List, Option, Some, None}
use Rattle.ila_base.specs.Faults.{Rose}
use Rattle.ila_base.specs.Files.{File}
use Rattle.ila_top.specs.declared.status.Status.{Status}
use Rattle.ila_top.specs.declared.status.Status.TheVariants.{ShelfFault, NoMemory}
use Rattle.ila_top.specs.declared.status.Ended.{Ended}
use Rattle.ila_top.specs.Same.{AreSame}

-- the files of a shelf, where they are told
abbrev pub Files : Type 0
Files = Option (List File)

-- which value the files give, and how the command ends where they are refused
pub record Stage (A : Type 0) : Type 1 where
  pub gives : Files → A → Type 0
  pub refuses : Files → Ended → Type 0

-- One stage and then another: it refuses what the first refuses, and behind what the first gives what the second refuses.
infixl 10 ◌>>=◌
abbrev pub ◌>>=◌ : {A B : Type 0} → Stage A → (A → Stage B) → Stage B
◌>>=◌ {A} {B} stage next = record {
  gives = λ files b. (a : A) × stage.gives files a × (next a).gives files b;
  refuses = λ files ended. stage.refuses files ended ⊎ ((a : A) × stage.gives files a × (next a).refuses files ended);
}

-- A stage is exact: of files that are told it gives at most one value, refuses them with at most one answer, and never does both.
pub record IsExact {A : Type 0} (stage : Stage A) : Type 0 where
  pub one_value : (files : List File) (a b : A) → stage.gives (Some files) a → stage.gives (Some files) b → a ≡ b
  pub one_refusal : (files : List File) (one other : Ended) → stage.refuses (Some files) one → stage.refuses (Some files) other → AreSame one.status other.status
  pub never_both : (files : List File) (a : A) (ended : Ended) → stage.gives (Some files) a → stage.refuses (Some files) ended → ⊥

-- an ending that speaks of no core
abbrev pub plain : Status → Ended
plain status = record { status = status; core = None }

-- How the code of a stage ends the command: the shelf failed, memory wasn't found, or the files are refused.
abbrev pub HaltsWith : (Ended → Type 0) → ℕ → ℕ → Ended → Status → Type 0
HaltsWith refuses before after ended ShelfFault = Rose before after × (ended.core ≡ None)
HaltsWith refuses before after ended NoMemory = ended.core ≡ None
HaltsWith refuses before after ended _ = refuses ended

abbrev pub Halts : (Ended → Type 0) → ℕ → ℕ → Ended → Type 0
Halts refuses before after ended = HaltsWith refuses before after ended ended.status
