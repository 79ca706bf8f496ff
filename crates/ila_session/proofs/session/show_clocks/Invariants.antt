use Rattle.std.proofs.Common.{◌≡◌, ◌-◌, ◌≤◌, Bool, List, [], length, Some}
use Rattle.ila_base.specs.declared.refusal.StimRefusal.{StimRefusal}
use Rattle.net_core.specs.Netlist.{input_nets}
use Rattle.net_core.specs.Run.{History, IsRun}
use Rattle.stim_read.specs.Reading.{most_rows}
use Rattle.stim_read.specs.Streams.{IsDrained}
use Rattle.ila_session.specs.Shown.{ShowedRows, ReadsRows, Shows}
use Rattle.ila_session.proofs.session.show_clocks.Given as goal

-- Some rows were taken, the machine stands for them, their text was written, and what writes it follows each run over them. Where the
-- reader had refused before, nothing was done.
abbrev pub invariant-loop-why : goal.invariant-loop-why
invariant-loop-why g l = record {
  rows : List (List Bool);
  count : l.clocks ≡ length rows;
  few : l.clocks ≤ l.stim.taken;
  same : g.M.Machine.netlist l.machine ≡ g.M.Machine.netlist l.initial.machine;
  open_yet : (why : StimRefusal) → l.stim.refused ≡ Some why → l.initial.stim.refused ≡ Some why;
  again : (why : StimRefusal) → l.initial.stim.refused ≡ Some why
      → (rows ≡ []) × (l.machine ≡ l.initial.machine) × (l.stim ≡ l.initial.stim) × (l.source ≡ l.initial.source) × (l.trace ≡ l.initial.trace);
  size : length l.stim.bits ≡ length (input_nets (g.M.Machine.netlist l.initial.machine));
  clock : g.T.ClockText.text l.text ≡ g.T.ClockText.text l.initial.text;
  serves : g.T.ClockText.serves l.text (g.M.Machine.netlist l.initial.machine);
  follows : (h : History) → IsRun (g.M.Machine.netlist l.initial.machine) rows h → g.T.ClockText.follows l.text h.bit (length rows);
  showed : ShowedRows (g.M.Machine.netlist l.initial.machine) l.initial.stim (g.S.Source.left l.initial.source) rows (g.M.Machine.bit l.machine) (g.M.Machine.content l.machine) l.stim (g.S.Source.left l.source);
  read : ReadsRows l.initial.stim (g.S.Source.left l.initial.source) rows l.stim (g.S.Source.left l.source);
  shown : Shows (record { head = []; clock = g.T.ClockText.text l.initial.text }) (g.M.Machine.netlist l.initial.machine) rows (g.K.Sink.written l.initial.trace) (g.K.Sink.written l.trace);
  drained : IsDrained l.initial.stim.ended (g.S.Source.left l.initial.source) → IsDrained l.stim.ended (g.S.Source.left l.source);
  read_later : g.S.Source.faults l.initial.source ≤ g.S.Source.faults l.source;
  write_later : g.K.Sink.faults l.initial.trace ≤ g.K.Sink.faults l.trace;
}

abbrev pub decreases-loop-why : goal.decreases-loop-why
decreases-loop-why g l = most_rows - l.stim.taken
