-- What `sim` does: it loads a netlist, and shows the outputs of its design over the stimulus.
use Rattle.std.specs.Prelude.{◌≡◌, ℕ, Bool, true, List, [], length, ⊤, ◌⊎◌, Option}
use Rattle.std.specs.Io.KnownBytes.{IsAtEnd}
use Rattle.ila_base.specs.Faults.{Rose}
use Rattle.ila_base.specs.declared.refusal.StimRefusal.{StimRefusal}
use Rattle.ila_base.specs.declared.refusal.StimRefusal.TheVariants as stim
use Rattle.net_core.specs.Netlist.{Netlist}
use Rattle.net_core.specs.WellFormed.{IsFlat}
use Rattle.vlog_check.specs.Checked.{IsChecked}
use Rattle.elab_design.specs.Design.{IsTop}
use Rattle.elab_design.specs.Elaborates.{Elaborates}
use Rattle.stim_read.specs.declared.inputs.DataInput.{DataInput}
use Rattle.stim_read.specs.Reading.{HasNoHeader}
use Rattle.stim_read.specs.Stimulus.{longest_line}
use Rattle.stim_read.specs.Streams.{ReadsPart, ReadsAhead}
use Rattle.design_text.specs.DesignText.{design_inputs, ShowsDesign, ShowsDesignFront}
use Rattle.ila_top.specs.Rows.{BeginsIfTold, HasRowsIfTold, RefusesIfTold, ReadsRowsIfTold, ReadsNoFurther}
use Rattle.ila_top.specs.Commands.{SimWords}
use Rattle.ila_top.specs.Outside.{Streams, Outside, LeavesFiles}
use Rattle.ila_top.specs.Stage.{Stage, ◌>>=◌}
use Rattle.ila_top.specs.Loading.{load}
use Rattle.ila_top.specs.Reading.{Topped, netlist}
use Rattle.ila_top.specs.Meaning.{Meaning}
use Rattle.ila_top.specs.declared.load.FileKind.TheVariants as kinds
use Rattle.ila_top.specs.declared.status.Status.{Status}
use Rattle.ila_top.specs.declared.status.Status.TheVariants.{Done, Stimulus, ReadFault, WriteFault, NoMemory}

-- the inputs of a design that the stimulus gives
abbrev pub inputs_of : Topped → List DataInput
inputs_of job = design_inputs job.top job.design.clock

-- the line that the stimulus is refused at: its header, or one behind rows
abbrev pub IsStimRefusal : List DataInput → Option (List ℕ) → StimRefusal → Type 0
IsStimRefusal inputs text stim.Header = HasNoHeader inputs text
IsStimRefusal inputs text why = (rows : List (List Bool)) × RefusesIfTold inputs text rows why

-- what of the stimulus makes a simulation end so: it has rows alone, or is refused
abbrev pub SimEnds : Topped → Option (List ℕ) → Status → Type 0
SimEnds job text Done = (rows : List (List Bool)) × HasRowsIfTold (inputs_of job) text rows
SimEnds job text (Stimulus why) = IsStimRefusal (inputs_of job) text why
SimEnds job text _ = ⊥

-- Of the stimulus no more was read than is needed to find the end of its first line.
abbrev pub ReadsHeader : List DataInput → Option (List ℕ) → Option (List ℕ) → Type 0
ReadsHeader inputs text left = ReadsAhead (longest_line inputs) [] text left

-- what reading the header of the stimulus may end in, where this was left of it
abbrev pub BeginAnswer : List DataInput → Option (List ℕ) → Option (List ℕ) → ℕ → ℕ → Status → Type 0
BeginAnswer inputs text left faults_before faults_after (Stimulus stim.Header) = HasNoHeader inputs text
BeginAnswer inputs text left faults_before faults_after ReadFault = Rose faults_before faults_after × ReadsPart text left
BeginAnswer inputs text left faults_before faults_after NoMemory = ⊤
BeginAnswer inputs text left faults_before faults_after _ = ⊥

-- All rows of the stimulus that were read whole were taken, and the outputs text of the design's one run over them was put behind the
-- trace.
pub record ShowsTaken {S K : Type 0} (job : Topped) (before after : Streams S K) : Type 0 where
  pub rows : List (List Bool)
  pub taken : ReadsRowsIfTold (inputs_of job) before.left rows after.left
  pub shown : ShowsDesign job.design rows before.written after.written

-- The trace is the very same as before, and of the stimulus at most the first line was read, and a piece behind it.
pub record OnlyBegins {S K : Type 0} (job : Topped) (before after : Streams S K) : Type 0 where
  pub trace : after.trace ≡ before.trace
  pub left : ReadsHeader (inputs_of job) before.left after.left

-- What simulating an accepted design ends in: each answer with its cause, what the trace has gained and what the stimulus has lost.
abbrev pub SimStreams : {S K : Type 0} → Topped → Streams S K → Streams S K → Status → Type 0
SimStreams job before after Done = (rows : List (List Bool)) × HasRowsIfTold (inputs_of job) before.left rows
    × ShowsDesign job.design rows before.written after.written × IsAtEnd after.left
SimStreams job before after (Stimulus stim.Header) = HasNoHeader (inputs_of job) before.left × OnlyBegins job before after
SimStreams job before after (Stimulus why) = (rows : List (List Bool)) × RefusesIfTold (inputs_of job) before.left rows why
    × ShowsDesign job.design rows before.written after.written
SimStreams job before after ReadFault = Rose before.read_faults after.read_faults
    × ((ReadsPart before.left after.left × OnlyBegins job before after) ⊎ ShowsTaken job before after)
SimStreams job before after WriteFault = Rose before.write_faults after.write_faults × ((rows : List (List Bool)) × BeginsIfTold (inputs_of job) before.left rows
    × ReadsNoFurther before.left (length rows) after.left × ShowsDesignFront job.design rows before.written after.written)
SimStreams job before after NoMemory = OnlyBegins job before after
SimStreams job before after _ = ⊥

-- It changes no file.
abbrev pub SimDoes : {S K : Type 0} → Topped → Outside S K → Outside S K → Status → Type 0
SimDoes job before after status = SimStreams job before.streams after.streams status × LeavesFiles before.files [] after.files

-- The netlist is loaded and read.
abbrev pub sim_stages : SimWords → Stage Topped
sim_stages words = do
  bytes ← load kinds.Netlist [] words.netlist
  netlist bytes words.top words.clock

-- the flat netlist of an accepted design, as the code has it
pub record HasFlat (job : Topped) (net : Netlist) : Type 0 where
  pub checked : IsChecked job.design.tree job.design.top
  pub is_top : IsTop job.design job.top
  pub flat : IsFlat net
  pub elaborates : Elaborates job.design net

-- what `sim` with these words means
abbrev pub sim : SimWords → Meaning Topped
sim words = record { stages = sim_stages words; reads = true; ends = SimEnds; does = SimDoes }
