-- What a run of a netlist is: the equations of the cells hold at every clock, and the stored bits follow the rules of the
-- cells from clock to clock. Nothing here is evaluated in an order.
use Rattle.std.specs.Prelude.{◌≡◌, ℕ, ◌+◌, ◌<◌, ◌≤◌, Bool, true, false, List, map, length, slice_get, Some}
use Rattle.net_core.specs.declared.parts.Pin.{Pin}
use Rattle.net_core.specs.declared.parts.Pin.TheVariants as pins
use Rattle.net_core.specs.declared.parts.Cell.{Cell}
use Rattle.net_core.specs.CellTable.{output, content_size, initial, next_content, is_memory}
use Rattle.net_core.specs.Netlist.{Netlist, IsData, input_nets}

-- The bit of each net at each clock, and the stored bits of each cell. What it says of nets without data, of clocks beyond the
-- rows and of bits that a cell has not means nothing.
pub record History : Type 0 where
  pub bit : ℕ → ℕ → Bool
  pub content : ℕ → ℕ → ℕ → Bool

-- what a pin reads, from the bits of the nets
abbrev pub pin_bit : (ℕ → Bool) → Pin → Bool
pin_bit bit (pins.Net net) = bit net.0
pin_bit bit pins.Zero = false
pin_bit bit pins.One = true

abbrev pub input_pins : (ℕ → Bool) → Cell → List Bool
input_pins bit cell = map (pin_bit bit) cell.ins

-- One cell, from the bits of the nets and its own stored bits

-- at one clock: each net of these that is on an output pin has the bit of the cell table
abbrev pub Settles : (ℕ → Type 0) → Cell → (ℕ → Bool) → (ℕ → Bool) → Type 0
Settles IsOfThese cell bit content = (k n : ℕ) → slice_get cell.outs k ≡ Some (Some (record { 0 = n })) → IsOfThese n
    → bit n ≡ output cell.kind (input_pins bit cell) content k

-- at clock 0: it stores its initial bits
abbrev pub Starts : Cell → (ℕ → Bool) → Type 0
Starts cell content = (i : ℕ) → i < content_size cell.kind → content i ≡ initial cell.kind i

-- the same, but a memory stores whatever it may
abbrev pub StartsButMemory : Cell → (ℕ → Bool) → Type 0
StartsButMemory cell content = is_memory cell.kind ≡ false → Starts cell content

-- from one clock to the next: its stored bits follow the cell table
abbrev pub MovesOn : Cell → (ℕ → Bool) → (ℕ → Bool) → (ℕ → Bool) → Type 0
MovesOn cell bit content next = (i : ℕ) → i < content_size cell.kind → next i ≡ next_content cell.kind (input_pins bit cell) content i

-- P holds of each cell and its number
abbrev pub EachCell : List Cell → (ℕ → Cell → Type 0) → Type 0
EachCell cells P = (c : ℕ) (cell : Cell) → slice_get cells c ≡ Some cell → P c cell

-- A netlist

-- at one clock: the inputs have the bits of the row, and the cells settle their data nets
pub record IsSettled (net : Netlist) (row : List Bool) (bit : ℕ → Bool) (content : ℕ → ℕ → Bool) : Type 0 where
  pub inputs : map bit (input_nets net) ≡ row
  pub outputs : EachCell net.cells (λ c cell. Settles (IsData net) cell bit (content c))

-- at clock 0
abbrev pub IsStart : Netlist → (ℕ → ℕ → Bool) → Type 0
IsStart net content = EachCell net.cells (λ c cell. Starts cell (content c))

-- from one clock to the next
abbrev pub IsNext : Netlist → (ℕ → Bool) → (ℕ → ℕ → Bool) → (ℕ → ℕ → Bool) → Type 0
IsNext net bit content next = EachCell net.cells (λ c cell. MovesOn cell bit (content c) (next c))

-- a run over a list of rows, one for each clock
pub record IsRun (net : Netlist) (rows : List (List Bool)) (history : History) : Type 0 where
  pub start : IsStart net (history.content 0)
  pub settled : (t : ℕ) (row : List Bool) → slice_get rows t ≡ Some row → IsSettled net row (history.bit t) (history.content t)
  pub next : (t : ℕ) → t < length rows → IsNext net (history.bit t) (history.content t) (history.content (t + 1))

-- the two give each data net the same bit
abbrev pub SameBits : Netlist → (ℕ → Bool) → (ℕ → Bool) → Type 0
SameBits net a b = (n : ℕ) → IsData net n → a n ≡ b n

-- the two give each cell the same stored bits
abbrev pub SameContent : Netlist → (ℕ → ℕ → Bool) → (ℕ → ℕ → Bool) → Type 0
SameContent net a b = (c : ℕ) (cell : Cell) (i : ℕ) → slice_get net.cells c ≡ Some cell → i < content_size cell.kind → a c i ≡ b c i

-- the same at each of so many clocks, and the stored bits at the one after them too
pub record SameHistory (net : Netlist) (clocks : ℕ) (a b : History) : Type 0 where
  pub bits : (t : ℕ) → t < clocks → SameBits net (a.bit t) (b.bit t)
  pub contents : (t : ℕ) → t ≤ clocks → SameContent net (a.content t) (b.content t)

-- exactly one run: the history is one, and each other is the same
pub record IsOneRun (net : Netlist) (rows : List (List Bool)) (history : History) : Type 0 where
  pub run : IsRun net rows history
  pub only : (other : History) → IsRun net rows other → SameHistory net (length rows) other history

-- bits of nets and stored bits *stand for* a list of rows: there is exactly one run over them, and it has these bits at its last
-- clock and these stored bits after it
pub record StandsFor (net : Netlist) (bit : ℕ → Bool) (content : ℕ → ℕ → Bool) (rows : List (List Bool)) : Type 0 where
  pub history : History
  pub one : IsOneRun net rows history
  pub bits : (t : ℕ) → t + 1 ≡ length rows → SameBits net bit (history.bit t)
  pub contents : SameContent net content (history.content (length rows))
