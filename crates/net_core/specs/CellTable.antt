-- The cell table: what each kind of cell does, two-valued and one clock at a time. The gates are those of IEEE 1364-2005,
-- 7.2 and 7.3, and the primitives those of the Xilinx 7 series (UG953), with the pins in the order of `CellKind`.
--
--     input_widths, output_widths, IsAllowed     the pins and the parameters of a kind
--     output       the bit of an output pin, from the bits of the input pins and the content
--     depends      whether an output pin depends combinationally on an input pin
--     content_size, initial, next_content     the stored bits: how many, at clock 0, and at the next clock
--
-- A new kind is one line in each. All else speaks of kinds through these functions.
use Rattle.std.specs.Prelude.{◌≡◌, ℕ, zero, suc, ◌+◌, ◌-◌, ◌*◌, ◌/◌, ◌%◌, ◌^◌, ◌<◌, ◌≤◌, Bool, true, false, not, ◌&&◌, ◌||◌, ◌==◌, nat_lt, nat_le, if◌then◌else◌, List, [], ◌∷◌, take, drop, reverse, replicate, fold, sum, count_by, slice_index_or, Option, Some, None, MatchOption, ⊤}
use Rattle.std.specs.List.{list_all, list_any}
use Rattle.std.specs.Bool.{xor}
use Rattle.std.specs.Int.{bit_at}
use Rattle.net_core.specs.declared.kind.CellKind.{CellKind}
use Rattle.net_core.specs.declared.kind.CellKind.TheVariants.{Gate, Lut, Inv, Ibuf, Obuf, Bufg, Gnd, Vcc, Muxf7, Muxf8, Carry4, Fdre, Fdse, Fdce, Fdpe, Mem}
use Rattle.net_core.specs.declared.kind.GateCode.{GateCode}
use Rattle.net_core.specs.declared.kind.GateCode.TheVariants.{And, Nand, Or, Nor, Xor, Xnor, Buf, Not}

-- The pins of a kind, as the widths of its ports in order. `None` is the rest of a gate's terminals: one or more, of one bit each.
abbrev pub input_widths : CellKind → Option (List ℕ)
input_widths (Gate Buf) = Some (1 ∷ [])
input_widths (Gate Not) = Some (1 ∷ [])
input_widths (Gate _) = None
input_widths (Lut n init) = Some (replicate n 1)
input_widths Inv = Some (1 ∷ [])
input_widths Ibuf = Some (1 ∷ [])
input_widths Obuf = Some (1 ∷ [])
input_widths Bufg = Some (1 ∷ [])
input_widths Gnd = Some []
input_widths Vcc = Some []
input_widths Muxf7 = Some (1 ∷ 1 ∷ 1 ∷ [])
input_widths Muxf8 = Some (1 ∷ 1 ∷ 1 ∷ [])
input_widths Carry4 = Some (1 ∷ 1 ∷ 4 ∷ 4 ∷ [])
input_widths (Fdre init) = Some (1 ∷ 1 ∷ 1 ∷ [])
input_widths (Fdse init) = Some (1 ∷ 1 ∷ 1 ∷ [])
input_widths (Fdce init) = Some (1 ∷ 1 ∷ 1 ∷ [])
input_widths (Fdpe init) = Some (1 ∷ 1 ∷ 1 ∷ [])
input_widths (Mem aw dw) = Some (1 ∷ aw ∷ dw ∷ [])

abbrev pub output_widths : CellKind → Option (List ℕ)
output_widths (Gate Buf) = None
output_widths (Gate Not) = None
output_widths (Gate _) = Some (1 ∷ [])
output_widths (Lut n init) = Some (1 ∷ [])
output_widths Inv = Some (1 ∷ [])
output_widths Ibuf = Some (1 ∷ [])
output_widths Obuf = Some (1 ∷ [])
output_widths Bufg = Some (1 ∷ [])
output_widths Gnd = Some (1 ∷ [])
output_widths Vcc = Some (1 ∷ [])
output_widths Muxf7 = Some (1 ∷ [])
output_widths Muxf8 = Some (1 ∷ [])
output_widths Carry4 = Some (4 ∷ 4 ∷ [])
output_widths (Fdre init) = Some (1 ∷ [])
output_widths (Fdse init) = Some (1 ∷ [])
output_widths (Fdce init) = Some (1 ∷ [])
output_widths (Fdpe init) = Some (1 ∷ [])
output_widths (Mem aw dw) = Some []

-- pins of these widths are so many in all
abbrev pub IsPinCount : Option (List ℕ) → ℕ → Type 0
IsPinCount widths count = MatchOption widths (0 < count) (λ ports. count ≡ sum ports)

-- the parameters that a kind allows
abbrev pub IsAllowed : CellKind → Type 0
IsAllowed (Lut n init) = (0 < n) × (n ≤ 6) × (init < 2 ^ (2 ^ n))
IsAllowed (Mem aw dw) = (0 < aw) × (aw ≤ 17) × (0 < dw) × (dw ≤ 1024)
IsAllowed _ = ⊤

-- The bit of input pin i. There is no pin past the end, and it reads as 0.
abbrev pub pin : List Bool → ℕ → Bool
pin ins i = slice_index_or ins i false

-- the number that the bits are in binary, the leftmost the highest
abbrev pub binary : List Bool → ℕ
binary bits = fold (λ value bit. 2 * value + (if bit then 1 else 0)) 0 bits

-- IEEE 1364-2005, 7.2 and 7.3. `xor` is 1 where an odd number of its inputs is.
abbrev pub gate_output : GateCode → List Bool → Bool
gate_output And ins = list_all (λ bit. bit) ins
gate_output Nand ins = not (list_all (λ bit. bit) ins)
gate_output Or ins = list_any (λ bit. bit) ins
gate_output Nor ins = not (list_any (λ bit. bit) ins)
gate_output Xor ins = count_by (λ bit. bit) ins % 2 == 1
gate_output Xnor ins = not (count_by (λ bit. bit) ins % 2 == 1)
gate_output Buf ins = pin ins 0
gate_output Not ins = not (pin ins 0)

-- CARRY4. The pins are CI, CYINIT, DI[3:0], S[3:0], so DI[i] is pin 5 - i and S[i] is pin 9 - i.
abbrev pub carry_select : List Bool → ℕ → Bool
carry_select ins i = pin ins (9 - i)

abbrev pub carry_data : List Bool → ℕ → Bool
carry_data ins i = pin ins (5 - i)

-- the carry into stage i: CI or CYINIT, and then CO[i - 1], which is the carry before where S[i - 1] is 1, else DI[i - 1]
abbrev pub carry : List Bool → ℕ → Bool
carry ins zero = pin ins 0 || pin ins 1
carry ins (suc i) = if carry_select ins i then carry ins i else carry_data ins i

-- The outputs are CO[3:0], O[3:0], so CO[i] is output 3 - i and O[i] is output 7 - i. O[i] is S[i] xor the carry into stage i.
abbrev pub carry_output : List Bool → ℕ → Bool
carry_output ins k = if nat_lt k 4 then carry ins (4 - k) else xor (carry_select ins (7 - k)) (carry ins (7 - k))

-- The bit of output pin k, from the bits of the input pins and the stored bits.
abbrev pub output : CellKind → List Bool → (ℕ → Bool) → ℕ → Bool
output (Gate code) ins content k = gate_output code ins
output (Lut n init) ins content k = bit_at init (binary (reverse ins)) == 1
output Inv ins content k = not (pin ins 0)
output Ibuf ins content k = pin ins 0
output Obuf ins content k = pin ins 0
output Bufg ins content k = pin ins 0
output Gnd ins content k = false
output Vcc ins content k = true
output Muxf7 ins content k = if pin ins 2 then pin ins 1 else pin ins 0
output Muxf8 ins content k = if pin ins 2 then pin ins 1 else pin ins 0
output Carry4 ins content k = carry_output ins k
output (Fdre init) ins content k = content 0
output (Fdse init) ins content k = content 0
output (Fdce init) ins content k = if pin ins 1 then false else content 0
output (Fdpe init) ins content k = if pin ins 2 then true else content 0
output (Mem aw dw) ins content k = false

-- CO[i] depends on CI, CYINIT, S[0..=i] and DI[0..=i]; O[i] on CI, CYINIT, S[0..=i] and DI[0..i].
abbrev pub carry_depends : ℕ → ℕ → Bool
carry_depends k i =
    if nat_lt i 2 then true
    else if nat_lt i 6 then (if nat_lt k 4 then nat_le (5 - i) (3 - k) else nat_lt (5 - i) (7 - k))
    else nat_le (9 - i) (if nat_lt k 4 then 3 - k else 7 - k)

-- Whether output pin k depends combinationally on input pin i. Of the registers only FDCE and FDPE have such a pin, CLR and PRE.
abbrev pub depends : CellKind → ℕ → ℕ → Bool
depends (Gate code) k i = true
depends (Lut n init) k i = true
depends Inv k i = true
depends Ibuf k i = true
depends Obuf k i = true
depends Bufg k i = true
depends Gnd k i = true
depends Vcc k i = true
depends Muxf7 k i = true
depends Muxf8 k i = true
depends Carry4 k i = carry_depends k i
depends (Fdre init) k i = false
depends (Fdse init) k i = false
depends (Fdce init) k i = i == 1
depends (Fdpe init) k i = i == 2
depends (Mem aw dw) k i = false

-- How many bits a cell stores. Bit b of row r of a memory has the number `r * dw + b`.
abbrev pub content_size : CellKind → ℕ
content_size (Fdre init) = 1
content_size (Fdse init) = 1
content_size (Fdce init) = 1
content_size (Fdpe init) = 1
content_size (Mem aw dw) = 2 ^ aw * dw
content_size _ = 0

-- the stored bits at clock 0
abbrev pub initial : CellKind → ℕ → Bool
initial (Fdre init) i = init
initial (Fdse init) i = init
initial (Fdce init) i = init
initial (Fdpe init) i = init
initial _ i = false

-- The stored bits at the next clock: FDRE with CE, D, R; FDSE with CE, D, S; FDCE with CE, CLR, D; FDPE with CE, D, PRE;
-- ILAMEM with WE, A[aw-1:0], D[dw-1:0], whose row A becomes D where WE is 1.
abbrev pub next_content : CellKind → List Bool → (ℕ → Bool) → ℕ → Bool
next_content (Fdre init) ins content i = if pin ins 2 then false else if pin ins 0 then pin ins 1 else content i
next_content (Fdse init) ins content i = if pin ins 2 then true else if pin ins 0 then pin ins 1 else content i
next_content (Fdce init) ins content i = if pin ins 1 then false else if pin ins 0 then pin ins 2 else content i
next_content (Fdpe init) ins content i = if pin ins 2 then true else if pin ins 0 then pin ins 1 else content i
next_content (Mem aw dw) ins content i =
    if pin ins 0 && (i / dw == binary (take aw (drop 1 ins))) then pin ins (aw + dw - i % dw) else content i
next_content _ ins content i = content i

-- a cell that stores bits, and so has a clock pin
abbrev pub is_storage : CellKind → Bool
is_storage kind = nat_lt 0 (content_size kind)

-- ILAMEM
abbrev pub is_memory : CellKind → Bool
is_memory (Mem aw dw) = true
is_memory _ = false

-- a gate may have no name
abbrev pub is_gate : CellKind → Bool
is_gate (Gate _) = true
is_gate _ = false

-- the kinds that lead the clock on: IBUF, BUFG and the gate buf
abbrev pub is_clock_buffer : CellKind → Bool
is_clock_buffer (Gate Buf) = true
is_clock_buffer Ibuf = true
is_clock_buffer Bufg = true
is_clock_buffer _ = false
