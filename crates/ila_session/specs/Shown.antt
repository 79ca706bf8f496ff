-- What stands after the rows of a stimulus were simulated one after the other, and a text of the run was written.
use Rattle.std.specs.Prelude.{◌≡◌, ◌⊎◌, ℕ, Bool, false, List, [], length, Option, Some, None, Result, Ok, Err}
use Rattle.std.specs.Io.KnownBytes.{Appends, IsAtEnd}
use Rattle.ila_base.specs.Faults.{Rose}
use Rattle.ila_base.specs.declared.outside.Sink as sinks
use Rattle.ila_base.specs.declared.outside.Source as sources
use Rattle.ila_base.specs.declared.refusal.StimRefusal.{StimRefusal}
use Rattle.net_core.specs.declared.machine.Machine as machines
use Rattle.net_core.specs.Netlist.{Netlist}
use Rattle.net_core.specs.Run.{History, IsRun, StandsFor}
use Rattle.stim_read.specs.declared.inputs.DataInput.{DataInput}
use Rattle.stim_read.specs.Reading.{Reading, rest, Refuses}
use Rattle.stim_read.specs.Streams.{Unbroken, ReadsAhead}
use Rattle.stim_read.specs.RowLaws.{HasTaken}
use Rattle.stim_read.specs.ReadLaws.{IsReadFor}
use Rattle.ila_session.specs.declared.fault.SessionFault.{SessionFault}
use Rattle.ila_session.specs.declared.fault.SessionFault.TheVariants.{Stimulus, ReadFault, WriteFault, NoMemory}
use Rattle.ila_session.specs.RunText.{RunText, text_of, AppendsClocksFront}
use Rattle.ila_session.specs.Outputs.{outputs_of}

-- where before no row of a text was taken, these are now
abbrev pub TakesRows : Reading → Option (List ℕ) → List (List Bool) → Reading → Option (List ℕ) → Type 0
TakesRows before left rows after later = (inputs : List DataInput) (text : List ℕ) → HasTaken inputs text [] before left → HasTaken inputs text rows after later

-- The machine's bits and stored bits stand for the rows that were taken.
pub record ShowedRows (net : Netlist) (before : Reading) (left : Option (List ℕ)) (rows : List (List Bool)) (bit : ℕ → Bool) (content : ℕ → ℕ → Bool)
    (after : Reading) (later : Option (List ℕ)) : Type 0 where
  pub taken : TakesRows before left rows after later
  pub stands : StandsFor net bit content rows

-- where before no more of a text was read than its header needs, no more was read now than the last of these rows needs
abbrev pub ReadsRows : Reading → Option (List ℕ) → List (List Bool) → Reading → Option (List ℕ) → Type 0
ReadsRows before left rows after later = (text : List ℕ) → IsReadFor text 0 before.unused left → IsReadFor text (length rows) after.unused later

-- of the next line only a part was read: what was read and not used yet holds no newline, and the end wasn't met
abbrev pub ReadsOnlyPart : Reading → Type 0
ReadsOnlyPart reading = Unbroken reading.unused × (reading.ended ≡ false)

-- The next line was refused behind these rows, and what is left of the source then: no more was read of it than is needed to find the
-- end of that line.
pub record RefusesBehind (before : Reading) (left : Option (List ℕ)) (rows : List (List Bool)) (why : StimRefusal) (after : Option (List ℕ)) : Type 0 where
  pub reading : Reading
  pub later : Option (List ℕ)
  pub taken : TakesRows before left rows reading later
  pub refuses : Refuses reading (rest reading later) why
  pub ahead : ReadsAhead reading.most reading.unused later after

-- the reader had refused before, and no row was taken, or it had not, and refuses the line behind the rows now
abbrev pub IsRefusedAt : Reading → Option (List ℕ) → List (List Bool) → StimRefusal → Option (List ℕ) → Type 0
IsRefusedAt before left rows why after = ((before.refused ≡ Some why) × (rows ≡ []))
    ⊎ ((before.refused ≡ None) × RefusesBehind before left rows why after)

-- the text of the run over the rows was put behind what was written
abbrev pub Shows : RunText ℕ → Netlist → List (List Bool) → Option (List ℕ) → Option (List ℕ) → Type 0
Shows text net rows old new = (history : History) → IsRun net rows history → Appends old new (text_of text history.bit (length rows))

-- a front of it, with all before the last clock
abbrev pub ShowsFront : RunText ℕ → Netlist → List (List Bool) → Option (List ℕ) → Option (List ℕ) → Type 0
ShowsFront text net rows old new = (history : History) → IsRun net rows history → AppendsClocksFront (text_of text history.bit) (length rows) old new

-- so for the outputs text
abbrev pub ShowsRun : Netlist → List (List Bool) → Option (List ℕ) → Option (List ℕ) → Type 0
ShowsRun net = Shows (outputs_of net) net

abbrev pub ShowsRunFront : Netlist → List (List Bool) → Option (List ℕ) → Option (List ℕ) → Type 0
ShowsRunFront net = ShowsFront (outputs_of net) net

-- A session between two clocks: the machine's bits and stored bits, the reader of the stimulus, what its source has left, what was
-- written to the trace, and the counts of faults.
pub record Session : Type 0 where
  pub bit : ℕ → Bool
  pub content : ℕ → ℕ → Bool
  pub reading : Reading
  pub left : Option (List ℕ)
  pub read_faults : ℕ
  pub written : Option (List ℕ)
  pub write_faults : ℕ

-- as a machine, a source and a trace tell it
abbrev pub session_of : {M S K : Type 0} → machines.Ghosts M → sources.Ghosts S → sinks.Ghosts K → M → Reading → S → K → Session
session_of on_machine on_source on_sink machine reading source trace = record {
  bit = on_machine.bit machine;
  content = on_machine.content machine;
  reading = reading;
  left = on_source.left source;
  read_faults = on_source.faults source;
  written = on_sink.written trace;
  write_faults = on_sink.faults trace;
}

-- these rows were taken, and the machine stands for them
abbrev pub Showed : Netlist → Session → List (List Bool) → Session → Type 0
Showed net before rows after = ShowedRows net before.reading before.left rows after.bit after.content after.reading after.left

-- What a session ends in: the number of rows, once there is no more; a refused line behind them; or a fault. After each answer the
-- rows that were taken, and what of the text was written.
abbrev pub Ends : RunText ℕ → Netlist → Session → Session → Result ℕ SessionFault → Type 0
Ends text net before after (Ok clocks) = (rows : List (List Bool)) × (clocks ≡ length rows) × IsAtEnd (rest after.reading after.left)
    × Showed net before rows after × Shows text net rows before.written after.written
Ends text net before after (Err (Stimulus why)) = (rows : List (List Bool)) × IsRefusedAt before.reading before.left rows why after.left
    × StandsFor net after.bit after.content rows × Shows text net rows before.written after.written
Ends text net before after (Err ReadFault) = (rows : List (List Bool)) × Rose before.read_faults after.read_faults × ReadsOnlyPart after.reading
    × Showed net before rows after × Shows text net rows before.written after.written
Ends text net before after (Err WriteFault) = (rows : List (List Bool)) × Rose before.write_faults after.write_faults
    × Showed net before rows after × ShowsFront text net rows before.written after.written
    × ReadsRows before.reading before.left rows after.reading after.left
Ends text net before after (Err NoMemory) = ⊥
