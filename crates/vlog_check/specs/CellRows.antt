-- The table by names and that by kinds have the same pins.
use Rattle.std.specs.Prelude.{◌≡◌, ℕ, Bool, true, false, not, ◌&&◌, map, filter, codes, Some}
use Rattle.std.specs.Str.{bytes_eq}
use Rattle.net_core.specs.declared.kind.CellKind.{CellKind}
use Rattle.net_core.specs.declared.kind.CellKind.TheVariants as kinds
use Rattle.net_core.specs.CellTable.{input_widths, output_widths}
use Rattle.vlog_parse.specs.declared.tree.Dir.{Dir}
use Rattle.vlog_parse.specs.declared.tree.Dir.TheVariants.{Input, Output}
use Rattle.vlog_check.specs.declared.primitive.Primitive.{Primitive}
use Rattle.vlog_check.specs.declared.primitive.Primitive.TheVariants.{Lut1, Lut2, Lut3, Lut4, Lut5, Lut6, Inv, Ibuf, Obuf, Bufg, Gnd, Vcc, Muxf7, Muxf8, Carry4, Fdre, Fdse, Fdce, Fdpe, Mem}
use Rattle.vlog_check.specs.declared.primitive.Size.{Size}
use Rattle.vlog_check.specs.declared.primitive.Size.TheVariants.{One, Four, Address, Data}
use Rattle.vlog_check.specs.Cells.{PinRow, pins}

-- the kind of a cell with this INIT, AW and DW
abbrev pub kind_with : Primitive → ℕ → Bool → ℕ → ℕ → CellKind
kind_with Lut1 init bit aw dw = kinds.Lut 1 init
kind_with Lut2 init bit aw dw = kinds.Lut 2 init
kind_with Lut3 init bit aw dw = kinds.Lut 3 init
kind_with Lut4 init bit aw dw = kinds.Lut 4 init
kind_with Lut5 init bit aw dw = kinds.Lut 5 init
kind_with Lut6 init bit aw dw = kinds.Lut 6 init
kind_with Inv init bit aw dw = kinds.Inv
kind_with Ibuf init bit aw dw = kinds.Ibuf
kind_with Obuf init bit aw dw = kinds.Obuf
kind_with Bufg init bit aw dw = kinds.Bufg
kind_with Gnd init bit aw dw = kinds.Gnd
kind_with Vcc init bit aw dw = kinds.Vcc
kind_with Muxf7 init bit aw dw = kinds.Muxf7
kind_with Muxf8 init bit aw dw = kinds.Muxf8
kind_with Carry4 init bit aw dw = kinds.Carry4
kind_with Fdre init bit aw dw = kinds.Fdre bit
kind_with Fdse init bit aw dw = kinds.Fdse bit
kind_with Fdce init bit aw dw = kinds.Fdce bit
kind_with Fdpe init bit aw dw = kinds.Fdpe bit
kind_with Mem init bit aw dw = kinds.Mem aw dw

-- an input other than the clock, and an output
abbrev pub is_in : Dir → Bool
is_in Input = true
is_in Output = false

abbrev pub is_data_input : PinRow → Bool
is_data_input row = is_in row.way && not (bytes_eq row.name (codes "C"))

abbrev pub is_data_output : PinRow → Bool
is_data_output row = not (is_in row.way)

-- how many bits a pin has, with this AW and DW
abbrev pub bits_sized : ℕ → ℕ → Size → ℕ
bits_sized aw dw One = 1
bits_sized aw dw Four = 4
bits_sized aw dw Address = aw
bits_sized aw dw Data = dw

abbrev pub bits_with : ℕ → ℕ → PinRow → ℕ
bits_with aw dw row = bits_sized aw dw row.size

-- both tables have the same inputs but the clock, and the same outputs, in the same order
abbrev pub RowsAgree : Type 0
RowsAgree = (cell : Primitive) (init : ℕ) (bit : Bool) (aw dw : ℕ)
    → (input_widths (kind_with cell init bit aw dw) ≡ Some (map (bits_with aw dw) (filter is_data_input (pins cell))))
    × (output_widths (kind_with cell init bit aw dw) ≡ Some (map (bits_with aw dw) (filter is_data_output (pins cell))))
