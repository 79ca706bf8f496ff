-- The outputs text of a run: a line with the names of the output ports, and for each clock a line with their values.
use Rattle.std.specs.Prelude.{ℕ, ◌+◌, ◌-◌, ◌*◌, Bool, true, false, nat_lt, if◌then◌else◌, List, [], ◌∷◌, ◌++◌, map, filter, length, slice_index_or}
use Rattle.std.specs.List.{flat_map, join_with_byte, range_with_len}
use Rattle.net_core.specs.declared.parts.Port.{Port}
use Rattle.net_core.specs.Netlist.{Netlist, port_nets}
use Rattle.net_core.specs.Run.{History}
use Rattle.ila_session.specs.RunText.{RunText, text_of}
use Rattle.stim_read.specs.Ports.{port_name}
use Rattle.stim_read.specs.Stimulus.{space, digits_of, padding_of}
use Rattle.stim_read.specs.Streams.{newline}

-- the output ports, in port order
abbrev pub output_ports : Netlist → List Port
output_ports net = filter (λ (port : Port). port.output) net.ports

-- a lower-case hexadecimal digit
abbrev pub hex_digit : ℕ → ℕ
hex_digit n = if nat_lt n 10 then 48 + n else 87 + n

abbrev pub bit_value : Bool → ℕ
bit_value true = 1
bit_value false = 0

-- bit j of a word that is filled up in front with 0 to whole digits
abbrev pub filled_bit : List Bool → ℕ → Bool
filled_bit bits j = if nat_lt j (padding_of (length bits)) then false else slice_index_or bits (j - padding_of (length bits)) false

-- what digit k of the word stands for: the four bits from 4 k on, the highest first
abbrev pub digit_value_at : List Bool → ℕ → ℕ
digit_value_at bits k =
    8 * bit_value (filled_bit bits (4 * k)) + 4 * bit_value (filled_bit bits (4 * k + 1)) + 2 * bit_value (filled_bit bits (4 * k + 2)) + bit_value (filled_bit bits (4 * k + 3))

-- a value, its highest bit first, in as many digits as it needs
abbrev pub hex_word : List Bool → List ℕ
hex_word bits = map (λ k. hex_digit (digit_value_at bits k)) (range_with_len 0 (digits_of (length bits)))

-- words with one space between, and a newline
abbrev pub line_of : List (List ℕ) → List ℕ
line_of words = join_with_byte space words ++ newline ∷ []

abbrev pub header_line : Netlist → List ℕ
header_line net = line_of (map (port_name net) (output_ports net))

-- the value of a port at one clock, and those of the output ports
abbrev pub word_at : Netlist → (ℕ → Bool) → Port → List ℕ
word_at net bit port = hex_word (map bit (port_nets net.groups port))

abbrev pub clock_line : Netlist → (ℕ → Bool) → List ℕ
clock_line net bit = line_of (map (word_at net bit) (output_ports net))

-- the lines of the first clocks of a history
abbrev pub clock_lines : Netlist → History → ℕ → List ℕ
clock_lines net history clocks = flat_map (λ t. clock_line net (history.bit t)) (range_with_len 0 clocks)

-- the outputs text as a text of a run
abbrev pub outputs_of : Netlist → RunText ℕ
outputs_of net = record { head = header_line net; clock = λ bit t. clock_line net (bit t) }

abbrev pub outputs_text : Netlist → History → ℕ → List ℕ
outputs_text net history = text_of (outputs_of net) history.bit

-- what stands before one more word of a line: a space, if it isn't the first
abbrev pub space_before : ℕ → List ℕ
space_before words = if nat_lt 0 words then space ∷ [] else []
