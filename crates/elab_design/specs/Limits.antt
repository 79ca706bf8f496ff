-- How large a design is when it is unfolded, and why it is refused.
use Rattle.std.specs.Prelude.{◌≡◌, ℕ, ◌+◌, ◌<◌, ◌≤◌, min, List, [], ◌∷◌, length, sum_by, flat_map, Option, Some, None}
use Rattle.std.specs.Option.{option_map_or}
use Rattle.ila_base.specs.declared.refusal.NetRefusal.{NetRefusal}
use Rattle.ila_base.specs.declared.refusal.NetRefusal.TheVariants as refusals
use Rattle.ila_base.specs.declared.refusal.LimitKind.{LimitKind}
use Rattle.ila_base.specs.declared.refusal.LimitKind.TheVariants.{Depth, Cells, Pins, Nets, AllNames}
use Rattle.ila_base.specs.declared.fault.NetFault.{NetFault}
use Rattle.vlog_parse.specs.declared.tree.Module.{Module}
use Rattle.vlog_parse.specs.declared.tree.Dir.TheVariants.{Input}
use Rattle.vlog_parse.specs.ReadTree.{In}
use Rattle.vlog_check.specs.Scope.{direction_of, net_width}
use Rattle.vlog_check.specs.Checked.{nowhere}
use Rattle.flat_settle.specs.declared.raw.Raw.{Raw}
use Rattle.flat_settle.specs.declared.raw.Unsettled.{Unsettled}
use Rattle.flat_settle.specs.declared.raw.Unsettled.TheVariants as faults
use Rattle.flat_settle.specs.Refusals.{IsFaultOf}
use Rattle.elab_design.specs.Design.{Path, Design, IsTop, Leads}
use Rattle.elab_design.specs.DesignCells.{DesignCell}
use Rattle.elab_design.specs.Order.{DesignGroup, group_bits, FlatOrder}
use Rattle.elab_design.specs.Names.{design_identifiers}
use Rattle.elab_design.specs.Raw.{IsRawOf}

-- the clock is a one-bit input of the top
pub record HasClock (d : Design) : Type 0 where
  pub top : Module
  pub is_top : IsTop d top
  pub port : In top.ports d.clock
  pub input : direction_of top d.clock ≡ Some Input
  pub width : net_width top d.clock ≡ Some 1

-- Counts

-- the longest path to a module has so many instance names
pub record IsDeepest (d : Design) (n : ℕ) : Type 0 where
  pub path : Path
  pub there : Module
  pub leads : Leads d path there
  pub is : length path ≡ n
  pub longest : (other : Path) (m : Module) → Leads d other m → length other ≤ n

-- one for each input pin, each output pin, open ones too, and a clock pin
abbrev pub cell_pins : DesignCell → ℕ
cell_pins c = length c.ins + length c.outs + option_map_or (λ _. 1) c.clock 0

-- so many of a kind in these groups and cells: cells with all links, their pins, net bits, or the bytes of all identifiers
abbrev pub amount : LimitKind → List DesignGroup → List DesignCell → ℕ
amount Cells groups cells = length cells
amount Pins groups cells = sum_by cell_pins cells
amount Nets groups cells = length (flat_map group_bits groups)
amount AllNames groups cells = sum_by length (design_identifiers groups cells)
amount _ groups cells = 0

-- the design has so many of a kind
pub data Counts (d : Design) : LimitKind → ℕ → Type 0 where
  depth : (n : ℕ) → IsDeepest d n → Counts d Depth n
  unfolded : (kind : LimitKind) (groups : List DesignGroup) (cells : List DesignCell) → In (Cells ∷ Pins ∷ Nets ∷ AllNames ∷ []) kind → FlatOrder d groups cells
      → Counts d kind (amount kind groups cells)

-- the greatest count of each kind
abbrev pub greatest : LimitKind → ℕ
greatest Depth = 256
greatest Cells = 1048576
greatest Pins = 16777216
greatest Nets = 1048576
greatest AllNames = 67108864
greatest _ = 0

-- the kinds that are looked at before this one
abbrev pub earlier_kinds : LimitKind → List LimitKind
earlier_kinds Depth = []
earlier_kinds Cells = Depth ∷ []
earlier_kinds Pins = Depth ∷ Cells ∷ []
earlier_kinds Nets = Depth ∷ Cells ∷ Pins ∷ []
earlier_kinds AllNames = Depth ∷ Cells ∷ Pins ∷ Nets ∷ []
earlier_kinds _ = []

-- the design's counts of these kinds are within their limits
abbrev pub AreWithin : Design → List LimitKind → Type 0
AreWithin d limits = (kind : LimitKind) (n : ℕ) → In limits kind → Counts d kind n → n ≤ greatest kind

abbrev pub HasLimits : Design → Type 0
HasLimits d = AreWithin d (Depth ∷ Cells ∷ Pins ∷ Nets ∷ AllNames ∷ [])

-- a count that is larger than this is carried as this
abbrev pub carried : ℕ → ℕ
carried n = min n 1000000000000

-- Refusals

-- the refusal of a fault of the flat netlist
abbrev pub refusal_of : Unsettled → Option NetRefusal
refusal_of (faults.Duplicate name) = Some (refusals.Duplicate name)
refusal_of (faults.ManyDrivers name) = Some (refusals.ManyDrivers name)
refusal_of (faults.Undriven name) = Some (refusals.Undriven name)
refusal_of (faults.SecondClock name) = Some (refusals.SecondClock name)
refusal_of (faults.ClockAsData name) = Some (refusals.ClockAsData name)
refusal_of faults.NoMemory = None

-- Why a design isn't unfolded: the clock is no one-bit input of the top; or else a count is above its limit, and those before it are
-- not; or else the flat netlist can't be settled.
pub data IsElabFault (d : Design) (fault : NetFault) : Type 0 where
  no_clock : ¬ HasClock d → nowhere fault → fault.refusal ≡ refusals.TopOrClock d.clock → IsElabFault d fault
  above : (kind : LimitKind) (n : ℕ) → HasClock d → Counts d kind n → greatest kind < n → AreWithin d (earlier_kinds kind) → nowhere fault
      → fault.refusal ≡ refusals.Limit kind (carried n) → IsElabFault d fault
  unsettled : (raw : Raw) (why : Unsettled) → HasClock d → HasLimits d → IsRawOf d raw → IsFaultOf raw why → nowhere fault
      → refusal_of why ≡ Some fault.refusal → IsElabFault d fault
