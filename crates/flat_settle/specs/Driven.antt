-- Which net bits are driven, which carry the clock, and which cells are kept.
use Rattle.std.specs.Prelude.{◌≡◌, ℕ, true, false, List, [], ◌∷◌, slice_get, Some}
use Rattle.net_core.specs.declared.parts.Pin.TheVariants as pins
use Rattle.net_core.specs.declared.parts.Cell.{Cell}
use Rattle.net_core.specs.CellTable.{is_clock_buffer}
use Rattle.net_core.specs.Netlist.{input_bits}
use Rattle.net_graph.specs.Lists.{IsIn}
use Rattle.flat_settle.specs.declared.raw.RawCell.{RawCell}
use Rattle.flat_settle.specs.declared.raw.Raw.{Raw}
use Rattle.flat_settle.specs.Raw.{RawDrives, RawReads, flat_cell, with_cells}

-- the cell reads a constant
pub data ReadsConstant (cell : RawCell) : Type 0 where
  zero_pin : slice_get cell.ins 0 ≡ Some pins.Zero → ReadsConstant cell
  one_pin : slice_get cell.ins 0 ≡ Some pins.One → ReadsConstant cell

-- Driven net bits are the least set that has the bits of the top's inputs, the outputs of gates and other cells, and the target of
-- each link whose source is a constant or driven (IEEE 1364-2005, 4.2 and 6.1: a net's value is that of its drivers).
pub data IsDriven (raw : Raw) : ℕ → Type 0 where
  from_port : (n : ℕ) → IsIn (input_bits (with_cells raw [])) n → IsDriven raw n
  from_cell : (c : ℕ) (cell : RawCell) (k n : ℕ) → RawDrives raw.cells c cell k n → cell.link ≡ false → IsDriven raw n
  from_constant : (c : ℕ) (cell : RawCell) (k n : ℕ) → RawDrives raw.cells c cell k n → cell.link ≡ true → ReadsConstant cell → IsDriven raw n
  from_driven : (c : ℕ) (cell : RawCell) (k m n : ℕ) → RawDrives raw.cells c cell k n → cell.link ≡ true → RawReads raw.cells c cell 0 m → IsDriven raw m → IsDriven raw n

-- The clock set is the least set that has the clock port's bit and what IBUF, BUFG, buf and links, which are bufs, make of its bits.
pub data IsClocked (raw : Raw) : ℕ → Type 0 where
  clock_port : IsClocked raw raw.clock.0
  through : (c : ℕ) (cell : RawCell) (k m n : ℕ) → is_clock_buffer cell.kind ≡ true → RawReads raw.cells c cell 0 m → RawDrives raw.cells c cell k n → IsClocked raw m → IsClocked raw n

-- a link of a net bit that isn't driven is dropped
pub record IsDropped (raw : Raw) (cell : RawCell) : Type 0 where
  pub link : cell.link ≡ true
  pub source : ℕ
  pub from : slice_get cell.ins 0 ≡ Some (pins.Net (record { 0 = source }))
  pub undriven : ¬ IsDriven raw source

-- the cells that are left of these, in their order
pub data Leaves (raw : Raw) : List RawCell → List Cell → Type 0 where
  none : Leaves raw [] []
  kept : (cell : RawCell) (more : List RawCell) (cells : List Cell) → ¬ IsDropped raw cell → Leaves raw more cells → Leaves raw (cell ∷ more) (flat_cell cell ∷ cells)
  dropped : (cell : RawCell) (more : List RawCell) (cells : List Cell) → IsDropped raw cell → Leaves raw more cells → Leaves raw (cell ∷ more) cells
