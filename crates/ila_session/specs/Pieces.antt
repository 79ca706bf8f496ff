-- The line of a clock as it is kept while a netlist is simulated: a piece for each byte.
use Rattle.std.specs.Prelude.{◌≡◌, ℕ, ◌+◌, ◌-◌, ◌*◌, Bool, false, nat_lt, if◌then◌else◌, List, [], ◌∷◌, map, length, slice_get, Option, Some, None, ⊤}
use Rattle.std.specs.List.{range_with_len}
use Rattle.net_core.specs.declared.parts.NetId.{NetId}
use Rattle.net_core.specs.declared.parts.Port.{Port}
use Rattle.net_core.specs.Netlist.{Netlist, IsData}
use Rattle.stim_read.specs.Stimulus.{space, digits_of, padding_of}
use Rattle.ila_session.specs.declared.pieces.Digit.{Digit}
use Rattle.ila_session.specs.declared.pieces.Piece.{Piece}
use Rattle.ila_session.specs.declared.pieces.Piece.TheVariants as pieces
use Rattle.ila_session.specs.Outputs.{hex_digit, bit_value}

abbrev pub net_bit : (ℕ → Bool) → Option NetId → Bool
net_bit bit None = false
net_bit bit (Some net) = bit net.0

-- the byte of a piece, from the bits of the nets
abbrev pub digit_byte : (ℕ → Bool) → Digit → ℕ
digit_byte bit d =
    hex_digit (8 * bit_value (net_bit bit d.first) + 4 * bit_value (net_bit bit d.second) + 2 * bit_value (net_bit bit d.third) + bit_value (net_bit bit d.fourth))

abbrev pub piece_byte : (ℕ → Bool) → Piece → ℕ
piece_byte bit (pieces.Byte b) = b
piece_byte bit (pieces.Nets d) = digit_byte bit d

-- net j of a word that is filled up in front to whole digits
abbrev pub filled_net : List NetId → ℕ → Option NetId
filled_net nets j = if nat_lt j (padding_of (length nets)) then None else slice_get nets (j - padding_of (length nets))

-- the nets of digit k of a word
abbrev pub digit_at : List NetId → ℕ → Digit
digit_at nets k = record {
  first = filled_net nets (4 * k);
  second = filled_net nets (4 * k + 1);
  third = filled_net nets (4 * k + 2);
  fourth = filled_net nets (4 * k + 3);
}

abbrev pub word_pieces : List NetId → List Piece
word_pieces nets = map (λ k. pieces.Nets (digit_at nets k)) (range_with_len 0 (digits_of (length nets)))

abbrev pub space_pieces : ℕ → List Piece
space_pieces words = if nat_lt 0 words then pieces.Byte space ∷ [] else []

-- a net of the netlist with data, or none
abbrev pub IsDataNet : Netlist → Option NetId → Type 0
IsDataNet net None = ⊤
IsDataNet net (Some n) = IsData net n.0

abbrev pub HasDataNets : Netlist → Piece → Type 0
HasDataNets net (pieces.Byte b) = ⊤
HasDataNets net (pieces.Nets d) = IsDataNet net d.first × IsDataNet net d.second × IsDataNet net d.third × IsDataNet net d.fourth

-- the port is one of the netlist
abbrev pub IsPort : Netlist → Port → Type 0
IsPort net port = (k : ℕ) × (slice_get net.ports k ≡ Some port)
