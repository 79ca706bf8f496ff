-- What holds of every command whose meaning is exact: at most one sentence holds, it comes, and where none holds the command is done.
use Rattle.std.proofs.Common.{◌≡◌, ℕ, List, Option, Some, None, ◌⊎◌, inl, inr, sym, ◌∙◌, ap, subst}
use Rattle.ila_base.specs.Faults.{Rose}
use Rattle.ila_base.specs.Files.{File}
use Rattle.ila_top.specs.declared.status.Status.{Status}
use Rattle.ila_top.specs.declared.status.Status.TheVariants.{Done, Usage, Netlist, Project, Tsm, Resource, Settings, Stimulus, NoFile, ShelfFault, ReadFault, WriteFault, NoMemory}
use Rattle.ila_top.specs.declared.status.Ended.{Ended}
use Rattle.ila_top.specs.Outside.{Outside}
use Rattle.ila_top.specs.Same.{AreSame, IsHindrance, IsDone}
use Rattle.ila_top.specs.Stage.{Files, Halts, HaltsWith}
use Rattle.ila_top.specs.Meaning.{Meaning, Ends, halted, did, Sentence, refused, ends, IsHindered, IsKnown, IsTold, IsExactMeaning}

module _ {Job : Type 0} (meaning : Meaning Job) (exact : IsExactMeaning meaning) where
  one_among : (files : List File) (text : Option (List ℕ)) → IsKnown meaning.reads text → (one other : Status)
      → Sentence meaning (Some files) text one → Sentence meaning (Some files) text other → AreSame one other
  one_among files text known one other (refused core first) (refused also second) =
      exact.stages.one_refusal files (record { status = one; core = core }) (record { status = other; core = also }) first second
  one_among files text known one other (refused core first) (ends job gives second) =
      absurd (exact.stages.never_both files job (record { status = one; core = core }) gives first)
  one_among files text known one other (ends job gives first) (refused core second) =
      absurd (exact.stages.never_both files job (record { status = other; core = core }) gives second)
  one_among files text known one other (ends job gives first) (ends also again second) =
      let same : also ≡ job = exact.stages.one_value files also job again gives in
      let E : Job → Type 0 = λ j. meaning.ends j text other in
      exact.one_end files text job one other gives known first (subst E same second)

  -- where the files and the stimulus are told, the sentence of one status holds at most
  pub one_sentence : {S K : Type 0} (before : Outside S K) → IsTold meaning.reads before → (one other : Status)
      → Sentence meaning before.files before.streams.left one → Sentence meaning before.files before.streams.left other → AreSame one other
  one_sentence before told one other first second =
      let F : Status → Files → Type 0 = λ status files. Sentence meaning files before.streams.left status in
      one_among told.files before.streams.left told.known one other (subst (F one) told.has_files first) (subst (F other) told.has_files second)

-- a hindrance that was met is one
pub hindrance_of : {S K : Type 0} (before after : Outside S K) (status : Status) → IsHindered before after status → IsHindrance status
hindrance_of before after ShelfFault met = tt
hindrance_of before after ReadFault met = tt
hindrance_of before after WriteFault met = tt
hindrance_of before after NoMemory met = tt
hindrance_of before after Done met = absurd met
hindrance_of before after Usage met = absurd met
hindrance_of before after (Netlist _ _) met = absurd met
hindrance_of before after (Project _) met = absurd met
hindrance_of before after (Tsm _ _ _) met = absurd met
hindrance_of before after (Resource _ _) met = absurd met
hindrance_of before after (Settings _) met = absurd met
hindrance_of before after (Stimulus _) met = absurd met
hindrance_of before after (NoFile _) met = absurd met

-- where no count has risen, the only hindrance is want of memory
pub only_memory : {S K : Type 0} (before after : Outside S K) (status : Status) → (Rose before.shelf_faults after.shelf_faults → ⊥)
    → (Rose before.streams.read_faults after.streams.read_faults → ⊥) → (Rose before.streams.write_faults after.streams.write_faults → ⊥)
    → IsHindered before after status → IsDone status
only_memory before after ShelfFault shelf reads writes met = absurd (shelf met)
only_memory before after ReadFault shelf reads writes met = absurd (reads met)
only_memory before after WriteFault shelf reads writes met = absurd (writes met)
only_memory before after NoMemory shelf reads writes met = tt
only_memory before after Done shelf reads writes met = tt
only_memory before after Usage shelf reads writes met = absurd met
only_memory before after (Netlist _ _) shelf reads writes met = absurd met
only_memory before after (Project _) shelf reads writes met = absurd met
only_memory before after (Tsm _ _ _) shelf reads writes met = absurd met
only_memory before after (Resource _ _) shelf reads writes met = absurd met
only_memory before after (Settings _) shelf reads writes met = absurd met
only_memory before after (Stimulus _) shelf reads writes met = absurd met
only_memory before after (NoFile _) shelf reads writes met = absurd met

-- What a job does has its cause in the files and the stimulus, or is a hindrance that it met.
abbrev pub IsCaused : {Job S K : Type 0} → Meaning Job → Outside S K → Outside S K → Type 0
IsCaused {Job} meaning before after = (job : Job) (status : Status) → meaning.does job before after status
    → IsHindered before after status ⊎ meaning.ends job before.streams.left status

module _ {Job S K : Type 0} (meaning : Meaning Job) (before after : Outside S K) (caused : IsCaused meaning before after) where
  of_halt : (status : Status) (core : Option (List ℕ)) → Halts (meaning.stages.refuses before.files) before.shelf_faults after.shelf_faults (record { status = status; core = core })
      → IsHindered before after status ⊎ Sentence meaning before.files before.streams.left status
  of_halt ShelfFault core halts = inl halts.0
  of_halt NoMemory core halts = inl tt
  of_halt Done core halts = inr (refused core halts)
  of_halt Usage core halts = inr (refused core halts)
  of_halt (Netlist r p) core halts = inr (refused core halts)
  of_halt (Project r) core halts = inr (refused core halts)
  of_halt (Tsm n r p) core halts = inr (refused core halts)
  of_halt (Resource n r) core halts = inr (refused core halts)
  of_halt (Settings r) core halts = inr (refused core halts)
  of_halt (Stimulus r) core halts = inr (refused core halts)
  of_halt (NoFile n) core halts = inr (refused core halts)
  of_halt ReadFault core halts = inr (refused core halts)
  of_halt WriteFault core halts = inr (refused core halts)

  of_end : (job : Job) (status : Status) → meaning.stages.gives before.files job → IsHindered before after status ⊎ meaning.ends job before.streams.left status
      → IsHindered before after status ⊎ Sentence meaning before.files before.streams.left status
  of_end job status gives (inl met) = inl met
  of_end job status gives (inr end) = inr (ends job gives end)

  pub sentence_of : (status : Status) (core : Option (List ℕ)) → Ends meaning before after (record { status = status; core = core })
      → IsHindered before after status ⊎ Sentence meaning before.files before.streams.left status
  sentence_of status core (halted halts untouched) = of_halt status core halts
  sentence_of status core (did job gives does none) = of_end job status gives (caused job status does)
