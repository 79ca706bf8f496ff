-- The cell table by names: the primitives of the Xilinx 7 series (UG953) and ILAMEM, the sample memory of a core, with the names,
-- roles and widths of their ports, in the order of pins, and the names of their parameters.
use Rattle.std.specs.Prelude.{ℕ, Bool, true, false, List, [], ◌∷◌, codes, filter, map}
use Rattle.net_core.specs.declared.kind.CellKind.{CellKind}
use Rattle.net_core.specs.declared.kind.CellKind.TheVariants as kinds
use Rattle.net_core.specs.declared.primitive.Primitive.{Primitive}
use Rattle.net_core.specs.declared.primitive.Primitive.TheVariants.{Lut1, Lut2, Lut3, Lut4, Lut5, Lut6, Inv, Ibuf, Obuf, Bufg, Gnd, Vcc, Muxf7, Muxf8, Carry4, Fdre, Fdse, Fdce, Fdpe, Mem}
use Rattle.net_core.specs.declared.primitive.CellPort.{CellPort}
use Rattle.net_core.specs.declared.primitive.Role.{Role}
use Rattle.net_core.specs.declared.primitive.Role.TheVariants.{Input, Clock, Output}
use Rattle.net_core.specs.declared.primitive.PortSize.{PortSize}
use Rattle.net_core.specs.declared.primitive.PortSize.TheVariants.{One, Four, Address, Data}

-- the primitives by name
abbrev pub primitives : List (List ℕ × Primitive)
primitives =
    (codes "LUT1", Lut1) ∷ (codes "LUT2", Lut2) ∷ (codes "LUT3", Lut3) ∷ (codes "LUT4", Lut4) ∷ (codes "LUT5", Lut5) ∷ (codes "LUT6", Lut6)
    ∷ (codes "INV", Inv) ∷ (codes "IBUF", Ibuf) ∷ (codes "OBUF", Obuf) ∷ (codes "BUFG", Bufg) ∷ (codes "GND", Gnd) ∷ (codes "VCC", Vcc)
    ∷ (codes "MUXF7", Muxf7) ∷ (codes "MUXF8", Muxf8) ∷ (codes "CARRY4", Carry4)
    ∷ (codes "FDRE", Fdre) ∷ (codes "FDSE", Fdse) ∷ (codes "FDCE", Fdce) ∷ (codes "FDPE", Fdpe) ∷ (codes "ILAMEM", Mem) ∷ []

-- a port: its name, its role, and how many pins it has
pub record PortRow : Type 0 where
  pub name : List ℕ
  pub role : Role
  pub size : PortSize

abbrev pub port_row : CellPort → PortRow
port_row port = record { name = port.name.now; role = port.role; size = port.size }

abbrev pub input : List ℕ → PortRow
input name = record { name = name; role = Input; size = One }

abbrev pub clock : List ℕ → PortRow
clock name = record { name = name; role = Clock; size = One }

abbrev pub output : List ℕ → PortRow
output name = record { name = name; role = Output; size = One }

abbrev pub wide : List ℕ → Role → PortSize → PortRow
wide name role size = record { name = name; role = role; size = size }

-- the ports of a primitive: its inputs, its clock and its outputs
abbrev pub ports : Primitive → List PortRow
ports Lut1 = input (codes "I0") ∷ output (codes "O") ∷ []
ports Lut2 = input (codes "I0") ∷ input (codes "I1") ∷ output (codes "O") ∷ []
ports Lut3 = input (codes "I0") ∷ input (codes "I1") ∷ input (codes "I2") ∷ output (codes "O") ∷ []
ports Lut4 = input (codes "I0") ∷ input (codes "I1") ∷ input (codes "I2") ∷ input (codes "I3") ∷ output (codes "O") ∷ []
ports Lut5 = input (codes "I0") ∷ input (codes "I1") ∷ input (codes "I2") ∷ input (codes "I3") ∷ input (codes "I4") ∷ output (codes "O") ∷ []
ports Lut6 = input (codes "I0") ∷ input (codes "I1") ∷ input (codes "I2") ∷ input (codes "I3") ∷ input (codes "I4") ∷ input (codes "I5") ∷ output (codes "O") ∷ []
ports Inv = input (codes "I") ∷ output (codes "O") ∷ []
ports Ibuf = input (codes "I") ∷ output (codes "O") ∷ []
ports Obuf = input (codes "I") ∷ output (codes "O") ∷ []
ports Bufg = input (codes "I") ∷ output (codes "O") ∷ []
ports Gnd = output (codes "G") ∷ []
ports Vcc = output (codes "P") ∷ []
ports Muxf7 = input (codes "I0") ∷ input (codes "I1") ∷ input (codes "S") ∷ output (codes "O") ∷ []
ports Muxf8 = input (codes "I0") ∷ input (codes "I1") ∷ input (codes "S") ∷ output (codes "O") ∷ []
ports Carry4 = input (codes "CI") ∷ input (codes "CYINIT") ∷ wide (codes "DI") Input Four ∷ wide (codes "S") Input Four ∷ wide (codes "CO") Output Four ∷ wide (codes "O") Output Four ∷ []
ports Fdre = input (codes "CE") ∷ input (codes "D") ∷ input (codes "R") ∷ clock (codes "C") ∷ output (codes "Q") ∷ []
ports Fdse = input (codes "CE") ∷ input (codes "D") ∷ input (codes "S") ∷ clock (codes "C") ∷ output (codes "Q") ∷ []
ports Fdce = input (codes "CE") ∷ input (codes "CLR") ∷ input (codes "D") ∷ clock (codes "C") ∷ output (codes "Q") ∷ []
ports Fdpe = input (codes "CE") ∷ input (codes "D") ∷ input (codes "PRE") ∷ clock (codes "C") ∷ output (codes "Q") ∷ []
ports Mem = input (codes "WE") ∷ wide (codes "A") Input Address ∷ wide (codes "D") Input Data ∷ clock (codes "C") ∷ []

-- the names of the parameters of its kind
abbrev pub parameters : Primitive → List (List ℕ)
parameters Lut1 = codes "INIT" ∷ []
parameters Lut2 = codes "INIT" ∷ []
parameters Lut3 = codes "INIT" ∷ []
parameters Lut4 = codes "INIT" ∷ []
parameters Lut5 = codes "INIT" ∷ []
parameters Lut6 = codes "INIT" ∷ []
parameters Fdre = codes "INIT" ∷ []
parameters Fdse = codes "INIT" ∷ []
parameters Fdce = codes "INIT" ∷ []
parameters Fdpe = codes "INIT" ∷ []
parameters Mem = codes "AW" ∷ codes "DW" ∷ []
parameters _ = []

-- the kind of a primitive with this INIT, of a LUT or of a register, AW and DW
abbrev pub kind_with : Primitive → ℕ → Bool → ℕ → ℕ → CellKind
kind_with Lut1 init bit aw dw = kinds.Lut 1 init
kind_with Lut2 init bit aw dw = kinds.Lut 2 init
kind_with Lut3 init bit aw dw = kinds.Lut 3 init
kind_with Lut4 init bit aw dw = kinds.Lut 4 init
kind_with Lut5 init bit aw dw = kinds.Lut 5 init
kind_with Lut6 init bit aw dw = kinds.Lut 6 init
kind_with Inv init bit aw dw = kinds.Inv
kind_with Ibuf init bit aw dw = kinds.Ibuf
kind_with Obuf init bit aw dw = kinds.Obuf
kind_with Bufg init bit aw dw = kinds.Bufg
kind_with Gnd init bit aw dw = kinds.Gnd
kind_with Vcc init bit aw dw = kinds.Vcc
kind_with Muxf7 init bit aw dw = kinds.Muxf7
kind_with Muxf8 init bit aw dw = kinds.Muxf8
kind_with Carry4 init bit aw dw = kinds.Carry4
kind_with Fdre init bit aw dw = kinds.Fdre bit
kind_with Fdse init bit aw dw = kinds.Fdse bit
kind_with Fdce init bit aw dw = kinds.Fdce bit
kind_with Fdpe init bit aw dw = kinds.Fdpe bit
kind_with Mem init bit aw dw = kinds.Mem aw dw

-- Roles and widths

abbrev pub is_input_role : Role → Bool
is_input_role Input = true
is_input_role Clock = false
is_input_role Output = false

abbrev pub is_output_role : Role → Bool
is_output_role Input = false
is_output_role Clock = false
is_output_role Output = true

abbrev pub inputs : Primitive → List PortRow
inputs cell = filter (λ row. is_input_role row.role) (ports cell)

abbrev pub outputs : Primitive → List PortRow
outputs cell = filter (λ row. is_output_role row.role) (ports cell)

-- how many pins a port has, with this AW and DW
abbrev pub bits_sized : ℕ → ℕ → PortSize → ℕ
bits_sized aw dw One = 1
bits_sized aw dw Four = 4
bits_sized aw dw Address = aw
bits_sized aw dw Data = dw

abbrev pub widths : ℕ → ℕ → List PortRow → List ℕ
widths aw dw rows = map (λ (row : PortRow). bits_sized aw dw row.size) rows
