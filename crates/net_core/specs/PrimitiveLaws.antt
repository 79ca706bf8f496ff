-- The cell table by names and that by the numbers of pins are one: widths agree, and what a kind does with a pin is what its name
-- says (UG953). So no two names can change places.
use Rattle.std.specs.Prelude.{◌≡◌, ℕ, ◌+◌, ◌-◌, ◌/◌, ◌%◌, ◌<◌, Bool, false, true, ◌&&◌, ◌||◌, ◌==◌, if◌then◌else◌, List, [], ◌∷◌, take, drop, codes, Some}
use Rattle.std.specs.Str.{bytes_eq}
use Rattle.net_core.specs.declared.kind.CellKind.TheVariants as kinds
use Rattle.net_core.specs.declared.primitive.Primitive.{Primitive}
use Rattle.net_core.specs.declared.primitive.Primitive.TheVariants.{Muxf7, Muxf8, Carry4, Fdre, Fdse, Fdce, Fdpe, Mem}
use Rattle.net_core.specs.CellTable.{input_widths, output_widths, pin, binary, carry, carry_select, carry_data, output, next_content}
use Rattle.net_core.specs.Primitives.{PortRow, inputs, outputs, bits_sized, widths, kind_with}

-- the ports have the widths of the kind, in the order of pins
abbrev pub WidthsAgree : Type 0
WidthsAgree = (cell : Primitive) (init : ℕ) (bit : Bool) (aw dw : ℕ)
    → (input_widths (kind_with cell init bit aw dw) ≡ Some (widths aw dw (inputs cell)))
    × (output_widths (kind_with cell init bit aw dw) ≡ Some (widths aw dw (outputs cell)))

-- the number of the first pin of the port with this name
abbrev pub first_pin : ℕ → ℕ → List PortRow → List ℕ → ℕ
first_pin aw dw [] name = 0
first_pin aw dw (row ∷ rows) name = if bytes_eq row.name name then 0 else bits_sized aw dw row.size + first_pin aw dw rows name

abbrev pub input_place : Primitive → List ℕ → ℕ
input_place cell name = first_pin 0 0 (inputs cell) name

-- the bit of the input of this name
abbrev pub read : Primitive → List Bool → List ℕ → Bool
read cell ins name = pin ins (input_place cell name)

-- a register: what overrules it has first say, then the clock enable
abbrev pub registered : Bool → Bool → Bool → Bool → Bool → Bool
registered overrules value enable fresh now = if overrules then value else if enable then fresh else now

pub record RulesByName : Type 0 where
  pub muxf7 : (ins : List Bool) (content : ℕ → Bool) (k : ℕ)
      → output kinds.Muxf7 ins content k ≡ (if read Muxf7 ins (codes "S") then read Muxf7 ins (codes "I1") else read Muxf7 ins (codes "I0"))
  pub muxf8 : (ins : List Bool) (content : ℕ → Bool) (k : ℕ)
      → output kinds.Muxf8 ins content k ≡ (if read Muxf8 ins (codes "S") then read Muxf8 ins (codes "I1") else read Muxf8 ins (codes "I0"))
  pub carry_in : (ins : List Bool) → carry ins 0 ≡ (read Carry4 ins (codes "CI") || read Carry4 ins (codes "CYINIT"))
  pub carry_s : (ins : List Bool) (i : ℕ) → i < 4 → carry_select ins i ≡ pin ins (input_place Carry4 (codes "S") + (3 - i))
  pub carry_di : (ins : List Bool) (i : ℕ) → i < 4 → carry_data ins i ≡ pin ins (input_place Carry4 (codes "DI") + (3 - i))
  pub fdre : (init : Bool) (ins : List Bool) (content : ℕ → Bool) (i : ℕ)
      → next_content (kinds.Fdre init) ins content i ≡ registered (read Fdre ins (codes "R")) false (read Fdre ins (codes "CE")) (read Fdre ins (codes "D")) (content i)
  pub fdse : (init : Bool) (ins : List Bool) (content : ℕ → Bool) (i : ℕ)
      → next_content (kinds.Fdse init) ins content i ≡ registered (read Fdse ins (codes "S")) true (read Fdse ins (codes "CE")) (read Fdse ins (codes "D")) (content i)
  pub fdce : (init : Bool) (ins : List Bool) (content : ℕ → Bool) (i : ℕ)
      → next_content (kinds.Fdce init) ins content i ≡ registered (read Fdce ins (codes "CLR")) false (read Fdce ins (codes "CE")) (read Fdce ins (codes "D")) (content i)
  pub fdpe : (init : Bool) (ins : List Bool) (content : ℕ → Bool) (i : ℕ)
      → next_content (kinds.Fdpe init) ins content i ≡ registered (read Fdpe ins (codes "PRE")) true (read Fdpe ins (codes "CE")) (read Fdpe ins (codes "D")) (content i)
  pub fdce_output : (init : Bool) (ins : List Bool) (content : ℕ → Bool) (k : ℕ)
      → output (kinds.Fdce init) ins content k ≡ (if read Fdce ins (codes "CLR") then false else content 0)
  pub fdpe_output : (init : Bool) (ins : List Bool) (content : ℕ → Bool) (k : ℕ)
      → output (kinds.Fdpe init) ins content k ≡ (if read Fdpe ins (codes "PRE") then true else content 0)
  -- bit b of row r of a memory has the number r * dw + b, and D its leftmost bit first
  pub memory : (aw dw : ℕ) (ins : List Bool) (content : ℕ → Bool) (i : ℕ) → i % dw < dw
      → next_content (kinds.Mem aw dw) ins content i
      ≡ (if pin ins (first_pin aw dw (inputs Mem) (codes "WE")) && (i / dw == binary (take aw (drop (first_pin aw dw (inputs Mem) (codes "A")) ins)))
      then pin ins (first_pin aw dw (inputs Mem) (codes "D") + (dw - 1 - i % dw)) else content i)
