-- Why a call answers as it does, and what it leaves: the clauses of the one call of the product. What stands below `comes` and
-- `complete` follows from the causes.
use Rattle.std.specs.Prelude.{◌≡◌, ℕ, Bool, List, [], Option, Some, None, unwrap_or, ◌⊎◌}
use Rattle.std.specs.Io.KnownBytes.{Appends}
use Rattle.ila_base.specs.Faults.{Rose, AppendsFront}
use Rattle.ila_top.specs.ErrorLine.{error_line}
use Rattle.ila_top.specs.Commands.{Asked, asked}
use Rattle.ila_top.specs.Commands.Asked.{Sim}
use Rattle.ila_top.specs.Outside.{Outside, IsUntouched}
use Rattle.ila_top.specs.Same.{AreSame, IsHindrance, IsDone}
use Rattle.ila_top.specs.Stage.{Files, plain}
use Rattle.ila_top.specs.Meaning.{Ends, Sentence, IsTold}
use Rattle.ila_top.specs.Simulating.{sim}
use Rattle.ila_top.specs.declared.status.Status.{Status}
use Rattle.ila_top.specs.declared.status.Status.TheVariants.{Done, Usage, Netlist, Project, Tsm, Resource, Settings, Stimulus, NoFile, ShelfFault, ReadFault, WriteFault, NoMemory}
use Rattle.ila_top.specs.declared.status.Ended.{Ended}

-- how what is asked for may end
abbrev pub EndsAs : {S K : Type 0} → Asked → Outside S K → Outside S K → Ended → Type 0
EndsAs (Sim words) before after ended = Ends (sim words) before after ended

-- what holds of the files and the stimulus for a status
abbrev pub SentenceOf : Asked → Files → Option (List ℕ) → Status → Type 0
SentenceOf (Sim words) files text status = Sentence (sim words) files text status

-- whether it reads the stimulus
abbrev pub reads : Asked → Bool
reads (Sim words) = (sim words).reads

-- Words of no command end in Usage, and touch nothing. Others end as their command may.
abbrev pub Answers : {S K : Type 0} → Option Asked → Outside S K → Outside S K → Ended → Type 0
Answers None before after ended = (ended ≡ plain Usage) × IsUntouched before after
Answers (Some what) before after ended = EndsAs what before after ended

-- The bytes given to the error sink are a front of the status's line, and the whole line where the sink's count of faults didn't rise.
abbrev pub IsReported : Option (List ℕ) → Option (List ℕ) → ℕ → ℕ → Ended → Type 0
IsReported old new faults_before faults_after ended =
    let line = error_line ended.status (unwrap_or ended.core []) in
    AppendsFront old new line × (Rose faults_before faults_after ⊎ Appends old new line)

-- the call ended so, with this status, and reported it
pub record IsAnswered {S K : Type 0} (words : Option Asked) (before after : Outside S K) (old new : Option (List ℕ)) (faults_before faults_after : ℕ) (status : Status) : Type 0 where
  pub core : Option (List ℕ)
  pub cause : Answers words before after (record { status = status; core = core })
  pub line : IsReported old new faults_before faults_after (record { status = status; core = core })

-- no sentence of a refusal holds, and no count of faults has risen
pub record IsClear {S K : Type 0} (what : Asked) (before after : Outside S K) : Type 0 where
  pub refusals : (status : Status) → SentenceOf what before.files before.streams.left status → IsDone status
  pub shelf : ¬ Rose before.shelf_faults after.shelf_faults
  pub reads : ¬ Rose before.streams.read_faults after.streams.read_faults
  pub writes : ¬ Rose before.streams.write_faults after.streams.write_faults

-- Where the files, and the stimulus where it is read, are told, the answer whose sentence holds comes, but for a hindrance.
abbrev pub Comes : {S K : Type 0} → Option Asked → Outside S K → Status → Type 0
Comes {S} {K} words before result = (what : Asked) (status : Status) → words ≡ Some what → IsTold (reads what) before
    → SentenceOf what before.files before.streams.left status → IsHindrance result ⊎ AreSame status result

-- Where no sentence of a refusal holds and no count has risen, it is done, or memory wasn't found.
abbrev pub IsComplete : {S K : Type 0} → Option Asked → Outside S K → Outside S K → Status → Type 0
IsComplete words before after result = (what : Asked) → words ≡ Some what → IsClear what before after → IsDone result

-- the exit status of the program
abbrev pub exit_code_of : Status → ℕ
exit_code_of Done = 0
exit_code_of Usage = 1
exit_code_of (Netlist _ _) = 2
exit_code_of (Project _) = 3
exit_code_of (Tsm _ _ _) = 4
exit_code_of (Resource _ _) = 5
exit_code_of (Settings _) = 6
exit_code_of (Stimulus _) = 7
exit_code_of ShelfFault = 8
exit_code_of ReadFault = 9
exit_code_of WriteFault = 10
exit_code_of NoMemory = 11
exit_code_of (NoFile _) = 12
