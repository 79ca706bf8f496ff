use Rattle.std.proofs.Common.{◌≡◌, ◌↔◌, ℕ, List, Option, Bool, true, false, length, MatchOption, sym, subst}
use Rattle.net_core.specs.declared.parts.Cell.{Cell}
use Rattle.net_core.specs.declared.parts.Port.{Port}
use Rattle.net_core.specs.Netlist.{HasDriver}
use Rattle.net_graph.specs.Lists.{IsIn, is_marked}
use Rattle.net_core.specs.declared.drivers.Output.{Output}
use Rattle.flat_settle.specs.Refusals.{HasTwoSources}
use Rattle.flat_settle.specs.Judged.{kept_parts}
use Rattle.flat_settle.specs.Tables.{Appends, IsSomewhere, PortHas, SharedHas, IsFirstWith}
use Rattle.net_core.specs.Drivers.{AreDrivers}
use Rattle.flat_settle.proofs.DrivenLemmas.{only_of}
use Rattle.flat_settle.proofs.JudgeLemmas.{least_marked, marks_tell, shared_from, shared_to, two_driven}
use Rattle.flat_settle.proofs.judge.first_shared.Goals as goal
use Rattle.flat_settle.proofs.judge.first_shared.Goals.{After-as_slice-2, After-as_slice-3, After-as_slice-7}

inputs_listed : (c : After-as_slice-2) → (n : ℕ) → IsIn c.as_slice-2.result.now n ↔ IsSomewhere (PortHas c.args.kept.now.groups false) c.args.kept.now.ports n
inputs_listed c = subst (λ (xs : List ℕ). (n : ℕ) → IsIn xs n ↔ IsSomewhere (PortHas c.args.kept.now.groups false) c.args.kept.now.ports n) (sym c.as_slice-2.ensures)
    (only_of c.new-list.result c.push_ports.new.list (IsSomewhere (PortHas c.args.kept.now.groups false) c.args.kept.now.ports) c.new-list.ensures
    (subst (λ (ports : List Port). Appends c.new-list.result c.push_ports.new.list (IsSomewhere (PortHas c.args.kept.now.groups false) ports)) c.as_slice.ensures c.in_ok-push_ports.ensures))

pub marks_of-requires : goal.marks_of-requires
marks_of-requires c = λ n own. c.requires.ports false n ((inputs_listed c n).0 own)

pub driver_table-requires : goal.driver_table-requires
driver_table-requires c = λ n driver. c.requires.drivers n (subst (λ (cells : List Cell). HasDriver cells n) c.as_slice-3.ensures driver)

inputs_listed_later : (c : After-as_slice-7) → (n : ℕ) → IsIn c.as_slice-2.result.now n ↔ IsSomewhere (PortHas c.args.kept.now.groups false) c.args.kept.now.ports n
inputs_listed_later c = subst (λ (xs : List ℕ). (n : ℕ) → IsIn xs n ↔ IsSomewhere (PortHas c.args.kept.now.groups false) c.args.kept.now.ports n) (sym c.as_slice-2.ensures)
    (only_of c.new-list.result c.push_ports.new.list (IsSomewhere (PortHas c.args.kept.now.groups false) c.args.kept.now.ports) c.new-list.ensures
    (subst (λ (ports : List Port). Appends c.new-list.result c.push_ports.new.list (IsSomewhere (PortHas c.args.kept.now.groups false) ports)) c.as_slice.ensures c.in_ok-push_ports.ensures))

owned : (c : After-as_slice-7) → AreDrivers c.args.kept.now.cells (length c.args.kept.now.cells) c.in_ok-table.table.items
owned c = subst (λ (cells : List Cell). AreDrivers cells (length cells) c.in_ok-table.table.items) c.as_slice-3.ensures c.in_ok-table.ensures.named

inputs_told : (c : After-as_slice-7) → (n : ℕ) → (is_marked c.in_ok-inputs.inputs.items n ≡ true) ↔ IsSomewhere (PortHas c.args.kept.now.groups false) c.args.kept.now.ports n
inputs_told c = marks_tell c.in_ok-inputs.inputs.items c.as_slice-2.result.now (IsSomewhere (PortHas c.args.kept.now.groups false) c.args.kept.now.ports) c.in_ok-inputs.ensures.marked (inputs_listed_later c)

listed : (c : After-as_slice-7) → (n : ℕ) → IsIn c.as_slice-7.result.now n ↔ HasTwoSources (kept_parts c.args.kept.now) n
listed c = subst (λ (xs : List ℕ). (n : ℕ) → IsIn xs n ↔ HasTwoSources (kept_parts c.args.kept.now) n) (sym c.as_slice-7.ensures) (λ n. (
    let own = only_of c.new-shared.result c.push_shared.new.list (IsSomewhere (SharedHas c.in_ok-table.table.items c.in_ok-inputs.inputs.items) c.args.kept.now.cells) c.new-shared.ensures
    (subst (λ (table : List (Option Output)). Appends c.new-shared.result c.push_shared.new.list (IsSomewhere (SharedHas table c.in_ok-inputs.inputs.items) c.args.kept.now.cells)) c.as_slice-4.ensures.value
    (subst (λ (inputs : List Bool). Appends c.new-shared.result c.push_shared.new.list (IsSomewhere (SharedHas c.as_slice-4.result.now inputs) c.args.kept.now.cells)) c.as_slice-5.ensures.value
    (subst (λ (cells : List Cell). Appends c.new-shared.result c.push_shared.new.list (IsSomewhere (SharedHas c.as_slice-4.result.now c.as_slice-5.result.now) cells)) c.as_slice-6.ensures c.in_ok-push_shared.ensures))) n in (
      λ t. shared_from (kept_parts c.args.kept.now) c.in_ok-table.table.items c.in_ok-inputs.inputs.items (owned c) (inputs_told c) n (own.0 t),
      λ p. own.1 (shared_to (kept_parts c.args.kept.now) c.in_ok-table.table.items c.in_ok-inputs.inputs.items (owned c) (inputs_told c) n p),
    )))

pub marks_of-requires-2 : goal.marks_of-requires-2
marks_of-requires-2 c = λ n own. two_driven (kept_parts c.args.kept.now) c.args.count c.requires.drivers n ((listed c n).0 own)

pub returns : goal.returns
returns c =
    least_marked c.in_ok-marks.marks.items (HasTwoSources (kept_parts c.args.kept.now)) c.first_with.result
    (marks_tell c.in_ok-marks.marks.items c.as_slice-7.result.now (HasTwoSources (kept_parts c.args.kept.now)) c.in_ok-marks.ensures.marked (listed (goal.at.returns c).After-as_slice-7))
    (subst (λ (marks : List Bool). MatchOption c.first_with.result ((n : ℕ) → is_marked marks n ≡ true → is_marked c.in_ok-marks.marks.items n ≡ true → ⊥) (λ n. IsFirstWith marks c.in_ok-marks.marks.items true n)) c.as_slice-8.ensures.value
    (subst (λ (others : List Bool). MatchOption c.first_with.result ((n : ℕ) → is_marked c.as_slice-8.result.now n ≡ true → is_marked others n ≡ true → ⊥) (λ n. IsFirstWith c.as_slice-8.result.now others true n)) c.as_slice-9.ensures.value c.first_with.ensures))
