-- Bits by their places: place 0 is the constant 0, place 1 the constant 1, and place n + 2 net n.
use Rattle.std.specs.Prelude.{◌≡◌, ℕ, ◌+◌, ◌<◌, ◌≤◌, Bool, true, false, List, map, slice_index_or, ⊤}
use Rattle.ila_base.specs.declared.limits.TheConstants.{ADDRESS_BITS}
use Rattle.net_core.specs.declared.kind.CellKind.{CellKind}
use Rattle.net_core.specs.declared.kind.CellKind.TheVariants.{Lut, Carry4, Mem}
use Rattle.net_core.specs.declared.parts.Pin.{Pin}
use Rattle.net_core.specs.declared.parts.Pin.TheVariants as pins

-- the bit at a place
abbrev pub bit_at_place : List Bool → ℕ → Bool
bit_at_place values place = slice_index_or values place false

-- the bits at places
abbrev pub read_all : List Bool → List ℕ → List Bool
read_all values places = map (bit_at_place values) places

-- the place of what a pin reads
abbrev pub place_of : Pin → ℕ
place_of (pins.Net net) = net.0 + 2
place_of pins.Zero = 0
place_of pins.One = 1

abbrev pub places_of : List Pin → List ℕ
places_of ins = map place_of ins

-- the bit of each net
abbrev pub net_bit : List Bool → ℕ → Bool
net_bit values n = bit_at_place values (n + 2)

-- what the evaluation of an output asks: a LUT has at most six pins and a CARRY4 eight outputs
abbrev pub HasPins : CellKind → ℕ → ℕ → Type 0
HasPins (Lut n init) count out = count ≤ 6
HasPins Carry4 count out = out < 8
HasPins _ count out = ⊤

-- a memory, whose stored bits are rows
abbrev pub is_memory : CellKind → Bool
is_memory (Mem aw dw) = true
is_memory _ = false

-- what the writing of a memory asks of its pins
abbrev pub HasMemoryPins : CellKind → ℕ → Type 0
HasMemoryPins (Mem aw dw) count = (count ≡ 1 + aw + dw) × (aw ≤ ADDRESS_BITS) × (0 < dw)
HasMemoryPins _ count = ⊤
