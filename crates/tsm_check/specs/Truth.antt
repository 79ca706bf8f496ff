-- When a condition of a trigger program is true (UG908, trigger state machine language).
use Rattle.std.specs.Prelude.{ℕ, Bool, List, slice_index}
use Rattle.std.specs.List.{list_all, list_any}
use Rattle.ila_base.specs.declared.compare.Compare.{Compare}
use Rattle.ila_base.specs.Comparison.{differ, is_true, compares}
use Rattle.tsm_check.specs.declared.types.Cond.{Cond}
use Rattle.tsm_check.specs.declared.types.CounterTest.{CounterTest}
use Rattle.tsm_check.specs.declared.types.Formula.{Formula, fold-Formula}
use Rattle.tsm_check.specs.declared.types.Formula.TheOpen as layer

-- a test of a formula: a comparison of a probe, or of a counter
pub data Test : Type 0 where
  OfProbe : Compare → Test
  OfCounter : CounterTest → Test

-- whether a formula is true, where that is known of its parts
abbrev pub truth_at : (Test → Bool) → layer.Formula-F Bool → Bool
truth_at is (layer.Probe compare) = is (OfProbe compare)
truth_at is (layer.Counter test) = is (OfCounter test)
truth_at is (layer.All parts) = list_all (λ (part : Bool). part) parts
truth_at is (layer.Any parts) = list_any (λ (part : Bool). part) parts

-- A formula is true: a test where it is, All where each part is, Any where some part is.
abbrev pub truth : (Test → Bool) → Formula → Bool
truth is formula = fold-Formula Bool (truth_at is) formula

-- A test is true of the probes' values before and now, and of the counters. A counter is compared as a whole number.
abbrev pub is_met : List ℕ → List ℕ → List ℕ → Test → Bool
is_met before now counters (OfProbe compare) = is_true before now compare
is_met before now counters (OfCounter test) = compares test.op (slice_index counters test.counter) test.value

-- a condition is true: its formula is, or isn't where the condition is negated
abbrev pub cond_true : (Test → Bool) → Cond → Bool
cond_true is cond = differ cond.negated (truth is cond.formula)
