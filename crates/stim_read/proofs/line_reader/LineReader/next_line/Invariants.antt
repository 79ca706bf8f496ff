use Rattle.std.proofs.Common.{◌≡◌, ◌+◌, ◌-◌, ◌≤◌, ◌++◌, min, true, length}
use Rattle.std.specs.Io.KnownBytes.{Keeps}
use Rattle.stim_read.specs.Streams.{Unbroken, between, IsDrained}
use Rattle.stim_read.proofs.Whole.{whole}
use Rattle.stim_read.proofs.Ahead.{HasRead}
use Rattle.stim_read.proofs.line_reader.LineReader.next_line.Given as goal

-- nothing is lost, and no fault was uncounted; nothing was read where a newline stood ahead, or where
-- the end was met
abbrev pub invariant-loop-self : goal.invariant-loop-self
invariant-loop-self g l = record {
  kept : Keeps
      (whole l.initial.self.line.items (between l.initial.self.buffer.items l.initial.self.at l.initial.self.end) l.initial.self.ended (g.S.Source.left l.initial.source))
      (whole l.self.line.items (between l.self.buffer.items l.self.at l.self.end) l.self.ended (g.S.Source.left l.source));
  read : HasRead (l.initial.self.line.items ++ between l.initial.self.buffer.items l.initial.self.at l.initial.self.end) l.self.line.items (between l.self.buffer.items l.self.at l.self.end)
      (g.S.Source.left l.initial.source) (g.S.Source.left l.source);
  most : l.self.most ≡ l.initial.self.most;
  later : g.S.Source.faults l.initial.source ≤ g.S.Source.faults l.source;
  quiet : (Unbroken (between l.initial.self.buffer.items l.initial.self.at l.initial.self.end) → ⊥)
      → (l.source ≡ l.initial.source) × (between l.self.buffer.items l.self.at l.self.end ≡ between l.initial.self.buffer.items l.initial.self.at l.initial.self.end);
  ended : l.initial.self.ended ≡ true → (l.source ≡ l.initial.source) × (l.self.ended ≡ true);
  drained : IsDrained l.initial.self.ended (g.S.Source.left l.initial.source) → IsDrained l.self.ended (g.S.Source.left l.source);
}

abbrev pub decreases-loop-self : goal.decreases-loop-self
decreases-loop-self g l = (l.self.most - length l.self.line.items) + (2 - min 1 (l.self.end - l.self.at))
