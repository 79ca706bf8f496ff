-- What a command means, whichever it is: its stages, what of the stimulus makes it end so, and what it does of the outside; how it may
-- end; and which answer comes.
use Rattle.std.specs.Prelude.{◌≡◌, ℕ, ⊤, ◌⊎◌, Bool, true, List, Option, Some, None}
use Rattle.ila_base.specs.Faults.{Rose}
use Rattle.ila_base.specs.Files.{File}
use Rattle.ila_top.specs.Outside.{Outside, IsUntouched}
use Rattle.ila_top.specs.Same.{AreSame, IsHindrance}
use Rattle.ila_top.specs.Stage.{Stage, Files, IsExact, Halts, plain}
use Rattle.ila_top.specs.declared.status.Status.{Status}
use Rattle.ila_top.specs.declared.status.Status.TheVariants.{ShelfFault, ReadFault, WriteFault, NoMemory}
use Rattle.ila_top.specs.declared.status.Ended.{Ended}

-- The stages that lead to its job; whether it reads the stimulus; of the job and the stimulus's text, with which status it ends; and
-- what it does of the outside, each status with its cause and its effects.
pub record Meaning (Job : Type 0) : Type 1 where
  pub stages : Stage Job
  pub reads : Bool
  pub ends : Job → Option (List ℕ) → Status → Type 0
  pub does : {S K : Type 0} → Job → Outside S K → Outside S K → Status → Type 0

-- How a command ends: in its stages, and then nothing was touched; or in doing its job.
pub data Ends {Job S K : Type 0} (meaning : Meaning Job) (before after : Outside S K) (ended : Ended) : Type 0 where
  halted : Halts (meaning.stages.refuses before.files) before.shelf_faults after.shelf_faults ended → IsUntouched before after → Ends meaning before after ended
  did : (job : Job) → meaning.stages.gives before.files job → meaning.does job before after ended.status → ended.core ≡ None → Ends meaning before after ended

-- What holds of the files and the stimulus for a status, without what the call did.
pub data Sentence {Job : Type 0} (meaning : Meaning Job) (files : Files) (text : Option (List ℕ)) (status : Status) : Type 0 where
  refused : (core : Option (List ℕ)) → meaning.stages.refuses files (record { status = status; core = core }) → Sentence meaning files text status
  ends : (job : Job) → meaning.stages.gives files job → meaning.ends job text status → Sentence meaning files text status

-- A hindrance that the call met: a count of faults rose, or memory wasn't found.
abbrev pub IsHindered : {S K : Type 0} → Outside S K → Outside S K → Status → Type 0
IsHindered before after ShelfFault = Rose before.shelf_faults after.shelf_faults
IsHindered before after ReadFault = Rose before.streams.read_faults after.streams.read_faults
IsHindered before after WriteFault = Rose before.streams.write_faults after.streams.write_faults
IsHindered before after NoMemory = ⊤
IsHindered before after _ = ⊥

-- a text that is told, where it is asked for
abbrev pub IsKnown : Bool → Option (List ℕ) → Type 0
IsKnown true None = ⊥
IsKnown asked text = ⊤

-- what a command needs to be told for its answer to be foreseen: the files, and the stimulus where it reads it
pub record IsTold {S K : Type 0} (reads : Bool) (before : Outside S K) : Type 0 where
  pub files : List File
  pub has_files : before.files ≡ Some files
  pub known : IsKnown reads before.streams.left

-- A meaning is exact: its stages are, and of files and a stimulus that are told its job ends with one status at most.
pub record IsExactMeaning {Job : Type 0} (meaning : Meaning Job) : Type 0 where
  pub stages : IsExact meaning.stages
  pub one_end : (files : List File) (text : Option (List ℕ)) (job : Job) (one other : Status) → meaning.stages.gives (Some files) job
      → IsKnown meaning.reads text → meaning.ends job text one → meaning.ends job text other → AreSame one other
