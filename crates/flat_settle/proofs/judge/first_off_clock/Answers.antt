use Rattle.std.proofs.Common.{◌≡◌, ◌↔◌, ℕ, List, Bool, true, false, MatchOption, sym, subst}
use Rattle.net_core.specs.declared.parts.Cell.{Cell}
use Rattle.net_graph.specs.Lists.{IsIn, is_marked}
use Rattle.flat_settle.specs.Refusals.{IsOnClockPin}
use Rattle.flat_settle.specs.Refusals as refusals
use Rattle.flat_settle.specs.Tables.{Appends, IsSomewhere, ClockHas, IsFirstWith}
use Rattle.flat_settle.proofs.DrivenLemmas.{only_of}
use Rattle.flat_settle.proofs.JudgeLemmas.{least_from, marks_tell}
use Rattle.flat_settle.proofs.judge.first_off_clock.Goals as goal
use Rattle.flat_settle.proofs.judge.first_off_clock.Goals.{After-as_slice-2}

listed : (c : After-as_slice-2) → (n : ℕ) → IsIn c.as_slice-2.result.now n ↔ IsOnClockPin c.args.kept.now.cells n
listed c = subst (λ (xs : List ℕ). (n : ℕ) → IsIn xs n ↔ IsOnClockPin c.args.kept.now.cells n) (sym c.as_slice-2.ensures)
    (only_of c.new-list.result c.push_clocks.new.list (IsSomewhere ClockHas c.args.kept.now.cells) c.new-list.ensures
    (subst (λ (cells : List Cell). Appends c.new-list.result c.push_clocks.new.list (IsSomewhere ClockHas cells)) c.as_slice.ensures c.in_ok-push_clocks.ensures))

pub marks_of-requires : goal.marks_of-requires
marks_of-requires c = λ n own. c.requires.marks.reads n (refusals.by_clock_pin ((listed c n).0 own))

pub returns : goal.returns
returns c =
    least_from c.in_ok-marks.marks.items c.args.clocked.now false (IsOnClockPin c.args.kept.now.cells) c.first_with.result
    (marks_tell c.in_ok-marks.marks.items c.as_slice-2.result.now (IsOnClockPin c.args.kept.now.cells) c.in_ok-marks.ensures.marked (listed (goal.at.returns c).After-as_slice-2))
    (subst (λ (marks : List Bool). MatchOption c.first_with.result ((n : ℕ) → is_marked marks n ≡ true → is_marked c.args.clocked.now n ≡ false → ⊥) (λ n. IsFirstWith marks c.args.clocked.now false n)) c.as_slice-3.ensures.value c.first_with.ensures)
