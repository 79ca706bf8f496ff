use Rattle.std.proofs.Common.{◌≡◌, ◌↔◌, ℕ, List, Bool, true, map, filter, IsTrue, ap, sym, ◌∙◌, subst}
use Rattle.net_core.specs.declared.parts.Cell.{Cell}
use Rattle.net_core.specs.Netlist.{net_count, parts_of}
use Rattle.net_core.specs.WellFormed.{IsWellFormed, HasRange}
use Rattle.net_graph.specs.Lists.{Each, is_marked}
use Rattle.flat_settle.specs.declared.judge.Kept.{Kept}
use Rattle.flat_settle.specs.declared.raw.RawCell.{RawCell}
use Rattle.flat_settle.specs.Raw.{flat_cell}
use Rattle.flat_settle.specs.Driven.{IsDriven, IsClocked, Leaves}
use Rattle.flat_settle.specs.Refusals.{HasConstantClock, HasNoFault, Settles}
use Rattle.flat_settle.specs.Judged.{HasMarks, IsJudgedFault, IsJudgedSound, IsFirstClockOf, clocked_parts}
use Rattle.flat_settle.specs.Tables.{stays}
use Rattle.flat_settle.proofs.KeepLemmas.{leaves}
use Rattle.flat_settle.proofs.FormedLemmas.{has_marks, fault_in, sound_in, formed, settles}
use Rattle.flat_settle.proofs.settled.settle_distinct.Goals as goal
use Rattle.flat_settle.proofs.settled.settle_distinct.Goals.{After-as_slice-5}

left : (c : After-as_slice-5) → List Cell
left c = map flat_cell (filter (stays c.as_slice-3.result.now) c.args.raw.cells)

kept_left : (c : After-as_slice-5) → Kept
kept_left c = record { groups = c.args.raw.groups; cells = left c; ports = c.args.raw.ports; clock = c.args.raw.clock }

kept_is : (c : After-as_slice-5) → c.in_ok-kept.kept ≡ kept_left c
unfolding left kept_left
kept_is c = c.in_ok-kept.ensures

drive : (c : After-as_slice-5) (marks : List Bool) → marks ≡ c.in_ok-driven.driven.items → (n : ℕ) → (is_marked marks n ≡ true) ↔ IsDriven c.args.raw n
drive c marks is = subst (λ (ms : List Bool). (n : ℕ) → (is_marked ms n ≡ true) ↔ IsDriven c.args.raw n) (sym is) c.in_ok-driven.ensures.marked

clock : (c : After-as_slice-5) (marks : List Bool) → marks ≡ c.in_ok-clocked.clocked.items → (n : ℕ) → (is_marked marks n ≡ true) ↔ IsClocked c.args.raw n
clock c marks is = subst (λ (ms : List Bool). (n : ℕ) → (is_marked ms n ≡ true) ↔ IsClocked c.args.raw n) (sym is) c.in_ok-clocked.ensures.marked

constants : (c : After-as_slice-5) → IsTrue c.has_constant_clock-constant.result ↔ HasConstantClock c.args.raw.cells
constants c = subst (λ (cells : List RawCell). IsTrue c.has_constant_clock-constant.result ↔ HasConstantClock cells) c.as_slice-2.ensures c.has_constant_clock-constant.ensures

leaves_left : (c : After-as_slice-5) → Leaves c.args.raw c.args.raw.cells (left c)
unfolding left
leaves_left c = leaves c.args.raw c.as_slice-3.result.now (drive c c.as_slice-3.result.now c.as_slice-3.ensures.value) c.args.raw.cells

count_is : (c : After-as_slice-5) → c.count_nets-count.result ≡ net_count c.args.raw.groups
count_is c = c.count_nets-count.ensures ∙ ap net_count c.as_slice.ensures

sound_left : (c : After-as_slice-5) → IsJudgedSound c.in_ok-kept.kept c.as_slice-4.result.now c.as_slice-5.result.now c.has_constant_clock-constant.result → HasNoFault c.args.raw (left c)
unfolding left kept_left
sound_left c sound =
    sound_in c.args.raw c.requires.unfolded c.requires.distinct (left c) (leaves_left c) c.as_slice-4.result.now c.as_slice-5.result.now c.has_constant_clock-constant.result
    (drive c c.as_slice-4.result.now c.as_slice-4.ensures.value) (clock c c.as_slice-5.result.now c.as_slice-5.ensures.value) (constants c)
    (subst (λ (kept : Kept). IsJudgedSound kept c.as_slice-4.result.now c.as_slice-5.result.now c.has_constant_clock-constant.result) (kept_is c) sound)

pub judge-requires-clause-marks : goal.judge-requires-clause-marks
unfolding left kept_left
judge-requires-clause-marks c =
    subst (λ (kept : Kept). HasMarks kept c.count_nets-count.result) (sym (kept_is c)) (has_marks c.args.raw c.requires.unfolded c.requires.distinct (left c) (leaves_left c) c.count_nets-count.result (count_is c))

pub judge-requires-clause-ranges : goal.judge-requires-clause-ranges
unfolding kept_left
judge-requires-clause-ranges c = subst (λ (kept : Kept). Each HasRange kept.groups) (sym (kept_is c)) c.requires.unfolded.ranges

pub build-requires : goal.build-requires
unfolding left kept_left
build-requires c = λ first is_first. (
    let before = (goal.at.build-requires c).After-as_slice-5 in
    subst (λ (kept : Kept). IsWellFormed (clocked_parts kept first)) (sym (kept_is before))
    (formed c.args.raw c.requires.unfolded c.requires.distinct (left before) (leaves_left before) c.as_slice-4.result.now c.as_slice-5.result.now c.has_constant_clock-constant.result
    (drive before c.as_slice-4.result.now c.as_slice-4.ensures.value) (clock before c.as_slice-5.result.now c.as_slice-5.ensures.value) (constants before)
    (sound_left before c.in-Ok.ensures.sound) first (subst (λ (kept : Kept). IsFirstClockOf kept first) (kept_is before) is_first)))

pub returns-in-Ok-clause-settled : goal.returns-in-Ok-clause-settled
unfolding left kept_left
returns-in-Ok-clause-settled c =
    let before = (goal.at.returns-in-Ok-clause-settled c).After-as_slice-5 in
    let first = c.in_ok-build-in-Ok.field-0.clock in
    let parts : parts_of c.in_ok-build-in-Ok.field-0 ≡ clocked_parts (kept_left before) first = c.in_ok-build-in-Ok.ensures.0 ∙ ap (λ (kept : Kept). clocked_parts kept first) (kept_is before) in
    subst (Settles c.args.raw) (sym parts)
    (settles c.args.raw c.requires.unfolded c.requires.distinct (left before) (leaves_left before) c.as_slice-4.result.now c.as_slice-5.result.now c.has_constant_clock-constant.result
    (drive before c.as_slice-4.result.now c.as_slice-4.ensures.value) (clock before c.as_slice-5.result.now c.as_slice-5.ensures.value) (constants before)
    (sound_left before c.in-Ok.ensures.sound) first (subst (λ (kept : Kept). IsFirstClockOf kept first) (kept_is before) c.in_ok-build-in-Ok.ensures.1))

pub returns-clause-refused : goal.returns-clause-refused
unfolding left kept_left
returns-clause-refused c =
    let before = (goal.at.returns-clause-refused c).After-as_slice-5 in
    fault_in c.args.raw c.requires.unfolded c.requires.distinct (left before) (leaves_left before) c.as_slice-4.result.now c.as_slice-5.result.now c.has_constant_clock-constant.result
    (drive before c.as_slice-4.result.now c.as_slice-4.ensures.value) (clock before c.as_slice-5.result.now c.as_slice-5.ensures.value) (constants before)
    c.in-Err.fault (subst (λ (kept : Kept). IsJudgedFault kept c.as_slice-4.result.now c.as_slice-5.result.now c.has_constant_clock-constant.result c.in-Err.fault) (kept_is before) c.in-Err.ensures.refused)
