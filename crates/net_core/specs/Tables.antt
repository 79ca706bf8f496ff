-- How the tables of a netlist are made.
use Rattle.std.specs.Prelude.{◌≡◌, ℕ, zero, suc, ◌<◌, Bool, true, false, List, length, slice_get, slice_index, slice_index_or, Option, Some, ◌⊎◌, ◌↔◌, All}
use Rattle.net_core.specs.declared.parts.NetId.{NetId}
use Rattle.net_core.specs.declared.parts.Pin.TheVariants as pins
use Rattle.net_core.specs.declared.parts.Cell.{Cell}
use Rattle.net_core.specs.declared.parts.Group.{Group}
use Rattle.net_core.specs.declared.parts.Port.{Port}
use Rattle.net_core.specs.CellTable.{is_clock_buffer}
use Rattle.net_core.specs.Drivers.{IsOutOn}
use Rattle.net_core.specs.Netlist.{Drives, Reads, HasDriver, IsIn, IsBuffered, port_nets}

-- some output pin of these is on net n
abbrev pub IsOn : List (Option NetId) → ℕ → Type 0
IsOn outs n = (k : ℕ) × IsOutOn outs k n

-- n is the number of one of the nets
abbrev pub IsAmongNets : List NetId → ℕ → Type 0
IsAmongNets nets n = (k : ℕ) × (slice_get nets k ≡ Some (record { 0 = n }))

-- the numbers of the marks that are set become those for which P holds too
pub record AddsMarks (old new : List Bool) (P : ℕ → Type 0) : Type 0 where
  pub size : length new ≡ length old
  pub marked : (n : ℕ) → (slice_index_or new n false ≡ true) ↔ ((slice_index_or old n false ≡ true) ⊎ P n)

-- a clock buffer reads net m and drives net n
pub record IsBufferFrom (cells : List Cell) (m n : ℕ) : Type 0 where
  pub c : ℕ
  pub cell : Cell
  pub k : ℕ
  pub buffer : is_clock_buffer cell.kind ≡ true
  pub reads : Reads cells c cell 0 m
  pub drives : Drives cells c cell k n

-- f applied so many times
unfoldable pub iterated : (ℕ → ℕ) → ℕ → ℕ → ℕ
iterated f zero n = n
iterated f (suc k) n = iterated f k (f n)

-- the bits of an input port
abbrev pub IsInputOf : List Group → Port → ℕ → Type 0
IsInputOf groups port n = (port.output ≡ false) × IsIn (port_nets groups port) n

-- the net that a clock buffer reads
pub record IsBufferInput (cell : Cell) (m : ℕ) : Type 0 where
  pub buffer : is_clock_buffer cell.kind ≡ true
  pub pin : slice_get cell.ins 0 ≡ Some (pins.Net (record { 0 = m }))

-- the numbers at the places for which P holds become the value, and the others stay
pub record Writes (old new : List ℕ) (P : ℕ → Type 0) (value : ℕ) : Type 0 where
  pub size : length new ≡ length old
  pub each : (n : ℕ) → n < length old → (P n × (slice_index new n ≡ value)) ⊎ (¬ P n × (slice_index new n ≡ slice_index old n))

-- each net has the net from which a clock buffer makes it, or itself where none does
pub record AreSources (cells : List Cell) (count : ℕ) (sources : List ℕ) : Type 0 where
  pub size : length sources ≡ count
  pub each : (n : ℕ) → n < count → ((m : ℕ) × IsBufferFrom cells m n × (slice_index sources n ≡ m)) ⊎ (((m : ℕ) → ¬ IsBufferFrom cells m n) × (slice_index sources n ≡ n))

-- each net has the net that `steps` sources back
pub record AreBack (sources : List ℕ) (steps : ℕ) (back : List ℕ) : Type 0 where
  pub size : length back ≡ length sources
  pub each : (n : ℕ) → n < length sources → slice_index back n ≡ iterated (slice_index sources) steps n
  pub within : All (λ source. source < length back) back

-- the table tells what clock buffers make of the net without a driver from which the clock comes
pub record IsClockTable (cells : List Cell) (count clock : ℕ) (table : List Bool) : Type 0 where
  pub size : length table ≡ count
  pub marked : (root : ℕ) → root < count → ¬ HasDriver cells root → IsBuffered cells root clock
      → (n : ℕ) → (slice_index_or table n false ≡ true) ↔ IsBuffered cells root n

-- the table tells which nets are bits of an input port or on an output pin
pub record IsDrivenTable (groups : List Group) (cells : List Cell) (ports : List Port) (count : ℕ) (table : List Bool) : Type 0 where
  pub size : length table ≡ count
  pub marked : (n : ℕ) → (slice_index_or table n false ≡ true) ↔ (((p : ℕ) × (port : Port) × (slice_get ports p ≡ Some port) × IsInputOf groups port n) ⊎ HasDriver cells n)
