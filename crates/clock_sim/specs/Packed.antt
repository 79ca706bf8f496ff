-- Bits packed 64 to a word, the first in a word's lowest bit.
use Rattle.std.specs.Prelude.{ℕ, ◌*◌, ◌/◌, ◌%◌, ◌≤◌, ◌==◌, Bool, List, length, map, slice_index}
use Rattle.std.specs.List.{range_with_len}
use Rattle.std.specs.Int.{bit_at}

-- bit i of the words
abbrev pub packed_bit : List ℕ → ℕ → Bool
packed_bit words i = bit_at (slice_index words (i / 64)) (i % 64) == 1

-- the first bits of the words
unfoldable pub packed_bits : List ℕ → ℕ → List Bool
packed_bits words count = map (packed_bit words) (range_with_len 0 count)

-- the words have place for so many bits
abbrev pub HasRoom : List ℕ → ℕ → Type 0
HasRoom words count = count ≤ 64 * length words
