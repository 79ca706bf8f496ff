-- How the tables of a raw netlist are made.
use Rattle.std.specs.Prelude.{◌≡◌, ℕ, ◌<◌, Bool, true, false, not, ◌||◌, List, [], length, slice_get, slice_index_or, Option, Some, None, ◌⊎◌, ◌↔◌, if◌then◌else◌}
use Rattle.net_core.specs.declared.kind.CellKind.{CellKind}
use Rattle.net_core.specs.declared.parts.NetId.{NetId}
use Rattle.net_core.specs.declared.parts.Pin.{Pin}
use Rattle.net_core.specs.declared.parts.Pin.TheVariants as pins
use Rattle.net_core.specs.declared.parts.Cell.{Cell}
use Rattle.net_core.specs.declared.parts.Group.{Group}
use Rattle.net_core.specs.declared.parts.Port.{Port}
use Rattle.net_core.specs.CellTable.{is_clock_buffer}
use Rattle.net_core.specs.Netlist.{Drives, port_nets}
use Rattle.net_graph.specs.Lists.{IsIn, is_marked}
use Rattle.net_core.specs.Drivers.{HasOutput}
use Rattle.net_core.specs.Tables.{IsOn}
use Rattle.flat_settle.specs.declared.raw.RawCell.{RawCell}
use Rattle.net_core.specs.declared.drivers.Output.{Output}
use Rattle.flat_settle.specs.Driven.{ReadsConstant}

-- Steps: for the driven bits along links, for the clock set along clock buffers

abbrev pub leads_on : Bool → RawCell → Bool
leads_on true cell = is_clock_buffer cell.kind
leads_on false cell = cell.link

-- the cell leads on from net m
pub record LeadsFrom (clock : Bool) (cell : RawCell) (m : ℕ) : Type 0 where
  pub leads : leads_on clock cell ≡ true
  pub from : slice_get cell.ins 0 ≡ Some (pins.Net (record { 0 = m }))

-- a cell leads from net m to net n
pub record IsStep (clock : Bool) (cells : List RawCell) (m n : ℕ) : Type 0 where
  pub c : ℕ
  pub cell : RawCell
  pub at : slice_get cells c ≡ Some cell
  pub leads : LeadsFrom clock cell m
  pub on : IsOn cell.outs n

-- the row of a net
abbrev pub row_of : List (List ℕ) → ℕ → List ℕ
row_of rows m = slice_index_or rows m []

-- the numbers for which P holds are put behind the list
pub record Appends (old new : List ℕ) (P : ℕ → Type 0) : Type 0 where
  pub each : (n : ℕ) → IsIn new n ↔ (IsIn old n ⊎ P n)

-- the rows have the steps of the cells
pub record AreSteps (clock : Bool) (cells : List RawCell) (bound count : ℕ) (rows : List (List ℕ)) : Type 0 where
  pub size : length rows ≡ count
  pub sound : (m n : ℕ) → IsIn (row_of rows m) n → IsStep clock cells m n
  pub complete : (m n : ℕ) (step : IsStep clock cells m n) → step.c < bound → IsIn (row_of rows m) n

-- what the steps of the cells make of the ends
pub data Spreads (clock : Bool) (cells : List RawCell) (ends : List ℕ) : ℕ → Type 0 where
  itself : (n : ℕ) → IsIn ends n → Spreads clock cells ends n
  along : (m n : ℕ) → IsStep clock cells m n → Spreads clock cells ends m → Spreads clock cells ends n

-- Items of a list that have a number

-- the item at a place has the number n
abbrev pub HasAt : {X : Type 0} → (ℕ → X → ℕ → Type 0) → List X → ℕ → ℕ → Type 0
HasAt {X} P xs k n = (x : X) × (slice_get xs k ≡ Some x) × P k x n

abbrev pub IsSomewhere : {X : Type 0} → (ℕ → X → ℕ → Type 0) → List X → ℕ → Type 0
IsSomewhere {X} P xs n = (k : ℕ) × (x : X) × (slice_get xs k ≡ Some x) × P k x n

-- A seed of the driven bits is on an output pin of a cell other than a link, or of a link with a constant

pub data IsSeedCell (cell : RawCell) : Type 0 where
  no_link : cell.link ≡ false → IsSeedCell cell
  constant : cell.link ≡ true → ReadsConstant cell → IsSeedCell cell

abbrev pub SeedHas : ℕ → RawCell → ℕ → Type 0
SeedHas c cell n = IsSeedCell cell × IsOn cell.outs n

-- a bit of a port on this side
abbrev pub PortHas : List Group → Bool → ℕ → Port → ℕ → Type 0
PortHas groups output p port n = (port.output ≡ output) × IsIn (port_nets groups port) n

-- whether a link or other cell stays, by the table of driven bits
abbrev pub pin_stays : List Bool → Option Pin → Bool
pin_stays driven (Some (pins.Net net)) = is_marked driven net.0
pin_stays driven _ = true

abbrev pub stays : List Bool → RawCell → Bool
stays driven cell = if cell.link then pin_stays driven (slice_get cell.ins 0) else true

-- Reads

-- the pin is on net n
abbrev pub PinHas : ℕ → Pin → ℕ → Type 0
PinHas i pin n = pin ≡ pins.Net (record { 0 = n })

-- whether the reads of a cell count: all do, or those of cells other than clock buffers
abbrev pub counts : Bool → CellKind → Bool
counts all kind = all || not (is_clock_buffer kind)

abbrev pub ReadHas : Bool → ℕ → Cell → ℕ → Type 0
ReadHas all c cell n = (counts all cell.kind ≡ true) × IsSomewhere PinHas cell.ins n

-- the clock pin is on net n
abbrev pub ClockHas : ℕ → Cell → ℕ → Type 0
ClockHas c cell n = cell.clock ≡ Some (record { 0 = n })

-- Net bits with two sources

-- output pin k of cell c is on net n, which is an input or has another pin in the table
abbrev pub SharedPinHas : List (Option Output) → List Bool → ℕ → ℕ → Option NetId → ℕ → Type 0
SharedPinHas table inputs c k out n = (out ≡ Some (record { 0 = n })) × ((is_marked inputs n ≡ true) ⊎ (¬ HasOutput table n (record { cell = c; pin = k })))

abbrev pub SharedHas : List (Option Output) → List Bool → ℕ → Cell → ℕ → Type 0
SharedHas table inputs c cell n = IsSomewhere (SharedPinHas table inputs c) cell.outs n

-- the first number with a mark in the one list and this mark in the other
pub record IsFirstWith (marks others : List Bool) (want : Bool) (n : ℕ) : Type 0 where
  pub marked : is_marked marks n ≡ true
  pub other : is_marked others n ≡ want
  pub first : (m : ℕ) → m < n → is_marked marks m ≡ true → is_marked others m ≡ want → ⊥

-- no number has P, or this one is the first that has it
abbrev pub IsLeastOf : (ℕ → Type 0) → Option ℕ → Type 0
IsLeastOf P None = (n : ℕ) → ¬ P n
IsLeastOf P (Some n) = P n × ((m : ℕ) → m < n → ¬ P m)
