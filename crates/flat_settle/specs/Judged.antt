-- The sentences of the refusals by tables of the driven bits and of the clock set.
use Rattle.std.specs.Prelude.{◌≡◌, ℕ, ◌<◌, ◌^◌, Bool, true, false, List, MatchOption, filter_map, slice_get, ⊤, ◌⊎◌, codes}
use Rattle.net_core.specs.declared.parts.NetId.{NetId}
use Rattle.net_core.specs.declared.parts.Cell.{Cell}
use Rattle.net_core.specs.Netlist.{Parts, HasDriver}
use Rattle.flat_settle.specs.declared.raw.Unsettled.{Unsettled}
use Rattle.flat_settle.specs.declared.raw.Unsettled.TheVariants as faults
use Rattle.flat_settle.specs.declared.judge.Kept.{Kept}
use Rattle.flat_settle.specs.Refusals.{IsFirst, HasTwoSources, IsOnClockPin, IsRead, IsReadAsData, Never}
use Rattle.flat_settle.specs.Tables.{IsSomewhere, PortHas}
use Rattle.net_graph.specs.Lists.{is_marked}

abbrev pub kept_parts : Kept → Parts
kept_parts kept = record { groups = kept.groups; cells = kept.cells; ports = kept.ports; clock = kept.clock }

-- the net bits that pins and ports name have marks
pub record HasMarks (kept : Kept) (count : ℕ) : Type 0 where
  pub few : count < 2 ^ 32
  pub drivers : (n : ℕ) → HasDriver kept.cells n → n < count
  pub reads : (n : ℕ) → IsRead (kept_parts kept) n → n < count
  pub ports : (output : Bool) (n : ℕ) → IsSomewhere (PortHas kept.groups output) kept.ports n → n < count

abbrev pub IsReadUndriven : Kept → List Bool → ℕ → Type 0
IsReadUndriven kept driven n = IsRead (kept_parts kept) n × (is_marked driven n ≡ false)

abbrev pub IsOffClock : Kept → List Bool → ℕ → Type 0
IsOffClock kept clocked n = IsOnClockPin kept.cells n × (is_marked clocked n ≡ false)

abbrev pub IsReadClock : Kept → List Bool → ℕ → Type 0
IsReadClock kept clocked n = IsReadAsData (kept_parts kept) n × (is_marked clocked n ≡ true)

-- the refusals of clocks, where none of the others holds
abbrev pub IsClockFault : Kept → List Bool → Bool → Unsettled → Type 0
IsClockFault kept clocked constant (faults.Duplicate name) = ⊥
IsClockFault kept clocked constant (faults.ManyDrivers name) = ⊥
IsClockFault kept clocked constant (faults.Undriven name) = ⊥
IsClockFault kept clocked constant (faults.SecondClock name) = IsFirst kept.groups (IsOffClock kept clocked) name ⊎ (Never (IsOffClock kept clocked) × (constant ≡ true) × (name ≡ codes "C"))
IsClockFault kept clocked constant (faults.ClockAsData name) = Never (IsOffClock kept clocked) × (constant ≡ false) × IsFirst kept.groups (IsReadClock kept clocked) name
IsClockFault kept clocked constant faults.NoMemory = ⊤

pub record IsClockSound (kept : Kept) (clocked : List Bool) (constant : Bool) : Type 0 where
  pub clocks : Never (IsOffClock kept clocked)
  pub constants : constant ≡ false
  pub data_reads : Never (IsReadClock kept clocked)

-- the refusals in their order
abbrev pub IsJudgedFault : Kept → List Bool → List Bool → Bool → Unsettled → Type 0
IsJudgedFault kept driven clocked constant (faults.Duplicate name) = ⊥
IsJudgedFault kept driven clocked constant (faults.ManyDrivers name) = IsFirst kept.groups (HasTwoSources (kept_parts kept)) name
IsJudgedFault kept driven clocked constant (faults.Undriven name) = Never (HasTwoSources (kept_parts kept)) × IsFirst kept.groups (IsReadUndriven kept driven) name
IsJudgedFault kept driven clocked constant (faults.SecondClock name) = Never (HasTwoSources (kept_parts kept)) × Never (IsReadUndriven kept driven) × IsClockFault kept clocked constant (faults.SecondClock name)
IsJudgedFault kept driven clocked constant (faults.ClockAsData name) = Never (HasTwoSources (kept_parts kept)) × Never (IsReadUndriven kept driven) × IsClockFault kept clocked constant (faults.ClockAsData name)
IsJudgedFault kept driven clocked constant faults.NoMemory = ⊤

pub record IsJudgedSound (kept : Kept) (driven clocked : List Bool) (constant : Bool) : Type 0 where
  pub drivers : Never (HasTwoSources (kept_parts kept))
  pub reads : Never (IsReadUndriven kept driven)
  pub clocks : IsClockSound kept clocked constant

-- the clock of the first cell that has one, or the kept clock
abbrev pub IsFirstClockOf : Kept → NetId → Type 0
IsFirstClockOf kept clock = MatchOption (slice_get (filter_map (λ (cell : Cell). cell.clock) kept.cells) 0) (clock ≡ kept.clock) (λ net. clock ≡ net)

abbrev pub clocked_parts : Kept → NetId → Parts
clocked_parts kept clock = record { groups = kept.groups; cells = kept.cells; ports = kept.ports; clock = clock }
