-- Which histories of a design are runs: equations between net bits, and rules of stored bits. There is no list of cells here, and no order.
use Rattle.std.specs.Prelude.{◌≡◌, ℕ, ◌+◌, ◌<◌, ◌≤◌, Bool, true, false, not, ◌&&◌, List, [], map, flat_map, filter, length, slice_get, Option, Some, None}
use Rattle.std.specs.Option.{option_map_or}
use Rattle.std.specs.Str.{bytes_eq}
use Rattle.net_core.specs.CellTable.{output, content_size, initial, next_content, is_clock_buffer}
use Rattle.vlog_parse.specs.declared.tree.Module.{Module}
use Rattle.vlog_parse.specs.ReadTree.{In}
use Rattle.vlog_check.specs.Scope.{module_of, direction_of, is_output}
use Rattle.elab_design.specs.Design.{Path, Bit, Source, Wire, Fixed, net_bits, Design, IsNetBit}
use Rattle.elab_design.specs.DesignCells.{DesignCell, link, HasCell}

-- the bits of the top's ports that are picked, in the order of its header
abbrev pub port_bits : Design → (Module → List ℕ → Bool) → List Bit
port_bits d picks = option_map_or (λ (m : Module). flat_map (net_bits m []) (filter (picks m) m.ports)) (module_of d.tree d.top) []

abbrev pub is_input_port : Module → List ℕ → Bool
is_input_port m port = not (is_output (direction_of m port))

-- the bits of the top's inputs, and of those but the clock
abbrev pub top_inputs : Design → List Bit
top_inputs d = port_bits d is_input_port

abbrev pub data_inputs : Design → List Bit
data_inputs d = port_bits d (λ m port. is_input_port m port && not (bytes_eq port d.clock))

abbrev pub clock_bits : Design → List Bit
clock_bits d = port_bits d (λ m port. bytes_eq port d.clock)

-- Driven net bits are the least set that has the bits of the top's inputs, the outputs of gates and cells, and what a link leads a
-- constant or a driven bit to (IEEE 1364-2005, 4.2, 6.1).
pub data Driven (d : Design) : Bit → Type 0 where
  from_port : (b : Bit) → In (top_inputs d) b → Driven d b
  from_cell : (c : DesignCell) (b : Bit) → HasCell d c → c.link ≡ false → In c.outs (Some b) → Driven d b
  from_constant : (path : Path) (v : Bool) (b : Bit) → HasCell d (link path (Fixed v) b) → Driven d b
  from_driven : (path : Path) (a b : Bit) → HasCell d (link path (Wire a) b) → Driven d a → Driven d b

-- The clock set is the least set that has the clock port's bit and what IBUF, BUFG, buf and links, which are bufs, make of its bits.
pub data InClock (d : Design) : Bit → Type 0 where
  clock_port : (b : Bit) → In (clock_bits d) b → InClock d b
  handed_on : (c : DesignCell) (a b : Bit) → HasCell d c → is_clock_buffer c.kind ≡ true → slice_get c.ins 0 ≡ Some (Wire a) → In c.outs (Some b) → InClock d a → InClock d b

-- a data bit is driven and not in the clock set
pub record IsDataBit (d : Design) (b : Bit) : Type 0 where
  pub driven : Driven d b
  pub no_clock : ¬ InClock d b

-- a link of a bit that isn't driven has no equation
abbrev pub IsKept : Design → DesignCell → Type 0
IsKept d c = (a : Bit) → c.link ≡ true → In c.ins (Wire a) → Driven d a

-- The bit of each net bit at each clock, and the stored bits of each named cell. What it says of bits without data and of what
-- isn't in the design means nothing.
pub record DesignHistory : Type 0 where
  pub bit : ℕ → Bit → Bool
  pub content : ℕ → Path → List ℕ → ℕ → Bool

abbrev pub source_bit : (Bit → Bool) → Source → Bool
source_bit bit (Wire b) = bit b
source_bit bit (Fixed v) = v

abbrev pub read_by : (Bit → Bool) → DesignCell → List Bool
read_by bit c = map (source_bit bit) c.ins

-- a cell without a name stores nothing
abbrev pub named_content : (List ℕ → ℕ → Bool) → Option (List ℕ) → ℕ → Bool
named_content content None i = false
named_content content (Some name) i = content name i

abbrev pub content_in : (Path → List ℕ → ℕ → Bool) → DesignCell → ℕ → Bool
content_in content c = named_content (content c.path) c.name

-- at one clock: the inputs have the bits of the row, and each data bit on an output pin has the bit of the cell table
pub record IsDesignSettled (d : Design) (row : List Bool) (bit : Bit → Bool) (content : Path → List ℕ → ℕ → Bool) : Type 0 where
  pub inputs : map bit (data_inputs d) ≡ row
  pub outputs : (c : DesignCell) (k : ℕ) (b : Bit) → HasCell d c → IsKept d c → slice_get c.outs k ≡ Some (Some b) → IsDataBit d b
      → bit b ≡ output c.kind (read_by bit c) (content_in content c) k

-- at clock 0 each cell stores its initial bits
abbrev pub IsDesignStart : Design → (Path → List ℕ → ℕ → Bool) → Type 0
IsDesignStart d content = (c : DesignCell) (i : ℕ) → HasCell d c → i < content_size c.kind → content_in content c i ≡ initial c.kind i

-- from one clock to the next the stored bits follow the cell table
abbrev pub IsDesignNext : Design → (Bit → Bool) → (Path → List ℕ → ℕ → Bool) → (Path → List ℕ → ℕ → Bool) → Type 0
IsDesignNext d bit content next = (c : DesignCell) (i : ℕ) → HasCell d c → i < content_size c.kind
    → content_in next c i ≡ next_content c.kind (read_by bit c) (content_in content c) i

-- a run over a list of rows, one for each clock
pub record IsDesignRun (d : Design) (rows : List (List Bool)) (h : DesignHistory) : Type 0 where
  pub start : IsDesignStart d (h.content 0)
  pub settled : (t : ℕ) (row : List Bool) → slice_get rows t ≡ Some row → IsDesignSettled d row (h.bit t) (h.content t)
  pub next : (t : ℕ) → t < length rows → IsDesignNext d (h.bit t) (h.content t) (h.content (t + 1))

-- the two give the same bits at so many clocks, and the same stored bits at the one after them too
pub record SameDesignHistory (d : Design) (clocks : ℕ) (one other : DesignHistory) : Type 0 where
  pub bits : (t : ℕ) (b : Bit) → t < clocks → IsNetBit d b → IsDataBit d b → one.bit t b ≡ other.bit t b
  pub contents : (t : ℕ) (c : DesignCell) (i : ℕ) → t ≤ clocks → HasCell d c → i < content_size c.kind → content_in (one.content t) c i ≡ content_in (other.content t) c i

-- exactly one run: the history is one, and each other is the same
pub record IsOneDesignRun (d : Design) (rows : List (List Bool)) (h : DesignHistory) : Type 0 where
  pub run : IsDesignRun d rows h
  pub only : (other : DesignHistory) → IsDesignRun d rows other → SameDesignHistory d (length rows) other h
