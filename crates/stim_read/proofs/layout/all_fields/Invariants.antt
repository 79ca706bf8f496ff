use Rattle.std.proofs.Common.{◌≡◌, ℕ, ◌<◌, length, get_or, take}
use Rattle.std.specs.Prelude.{sum}
use Rattle.stim_read.specs.Stimulus.{widths_of, field_at}
use Rattle.stim_read.proofs.layout.all_fields.Given as goal

-- the fields so far stand one after the other
abbrev pub invariant-loop-input : goal.invariant-loop-input
invariant-loop-input l = record {
  long : length l.fields.items ≡ l.input-index;
  each : (k : ℕ) → k < l.input-index → get_or l.fields.items k (record { place = 0; width = 0 }) ≡ field_at (widths_of l.inputs) k;
  place : l.place ≡ sum (take l.input-index (widths_of l.inputs));
}
