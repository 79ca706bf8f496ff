-- The cells of a design: each gate, each instance of a cell, each assigned bit and each linked bit of a port, at each path.
use Rattle.std.specs.Prelude.{◌≡◌, ℕ, ◌-◌, Bool, true, false, ◌&&◌, ◌==◌, if◌then◌else◌, List, [], ◌∷◌, map, flat_map, filter, find, replicate, take, drop, length, slice_get, codes, Option, Some, None, option_and_then}
use Rattle.std.specs.Option.{option_map_or, unwrap_or}
use Rattle.std.specs.Str.{bytes_eq}
use Rattle.net_core.specs.declared.kind.CellKind.{CellKind}
use Rattle.net_core.specs.declared.kind.CellKind.TheVariants as kinds
use Rattle.net_core.specs.declared.kind.GateCode.{GateCode}
use Rattle.net_core.specs.declared.kind.GateCode.TheVariants as codes_of
use Rattle.vlog_parse.specs.declared.tree.Module.{Module}
use Rattle.vlog_parse.specs.declared.tree.Item.TheVariants as items
use Rattle.vlog_parse.specs.declared.tree.Gate.{Gate}
use Rattle.vlog_parse.specs.declared.tree.GateKind.{GateKind}
use Rattle.vlog_parse.specs.declared.tree.GateKind.TheVariants as words
use Rattle.vlog_parse.specs.declared.tree.Inst.{Inst}
use Rattle.vlog_parse.specs.declared.tree.Value.{Value}
use Rattle.vlog_parse.specs.declared.tree.Expr.{Expr}
use Rattle.vlog_parse.specs.ReadTree.{In}
use Rattle.vlog_check.specs.declared.primitive.Primitive.{Primitive}
use Rattle.vlog_check.specs.declared.primitive.Primitive.TheVariants.{Fdse, Fdpe}
use Rattle.vlog_check.specs.Cells.{PinRow, pins, number_in}
use Rattle.vlog_check.specs.CellRows.{kind_with, is_in, is_data_input, is_data_output, bits_with}
use Rattle.vlog_check.specs.Scope.{value_of, kind_of, OfCell, OfModule, connected, direction_of, is_output}
use Rattle.elab_design.specs.Design.{Path, Bit, Source, Wire, Fixed, sources, net_bits, Design, Leads}

-- A cell of a design: its kind, and what its pins are on. A link is an assigned bit or a linked bit of a port.
pub record DesignCell : Type 0 where
  pub kind : CellKind
  pub link : Bool
  pub path : Path
  pub name : Option (List ℕ)
  pub ins : List Source
  pub outs : List (Option Bit)
  pub clock : Option Source

-- what an output pin is on
abbrev pub target : Source → Option Bit
target (Wire b) = Some b
target (Fixed v) = None

-- a bit that another bit or a constant leads to
abbrev pub link : Path → Source → Bit → DesignCell
link path from to = record { kind = kinds.Gate codes_of.Buf; link = true; path = path; name = None; ins = from ∷ []; outs = Some to ∷ []; clock = None }

-- Gates (IEEE 1364-2005, 7.2, 7.3)

abbrev pub gate_code : GateKind → GateCode
gate_code words.And = codes_of.And
gate_code words.Nand = codes_of.Nand
gate_code words.Or = codes_of.Or
gate_code words.Nor = codes_of.Nor
gate_code words.Xor = codes_of.Xor
gate_code words.Xnor = codes_of.Xnor
gate_code words.Buf = codes_of.Buf
gate_code words.Not = codes_of.Not

-- of the terminals of buf and not the last one is the input, of those of the others the first one is the output
abbrev pub is_last_input : GateKind → Bool
is_last_input words.Buf = true
is_last_input words.Not = true
is_last_input _ = false

abbrev pub gate_ins : GateKind → List Source → List Source
gate_ins kind terminals = if is_last_input kind then drop (length terminals - 1) terminals else drop 1 terminals

abbrev pub gate_outs : GateKind → List Source → List Source
gate_outs kind terminals = if is_last_input kind then take (length terminals - 1) terminals else take 1 terminals

abbrev pub terminals_of : Module → Path → Gate → List Source
terminals_of m path g = flat_map (sources m path) g.args

abbrev pub gate_cell : Module → Path → Gate → DesignCell
gate_cell m path g = record {
  kind = kinds.Gate (gate_code g.kind);
  link = false;
  path = path;
  name = g.name;
  ins = gate_ins g.kind (terminals_of m path g);
  outs = map target (gate_outs g.kind (terminals_of m path g));
  clock = None;
}

-- Instances of cells (12.1.2, 12.3.6), whose pins and parameters are those of the 7 series (UG953)

-- the number that the first parameter of a name has, or else this one (12.2.2.2)
abbrev pub parameter : List (List ℕ × Value) → List ℕ → ℕ → ℕ
parameter params name missing = unwrap_or (option_and_then number_in (value_of params name)) missing

-- the INIT of a cell without such a parameter
abbrev pub own_init : Primitive → ℕ
own_init Fdse = 1
own_init Fdpe = 1
own_init _ = 0

abbrev pub init_of : Primitive → List (List ℕ × Value) → ℕ
init_of cell params = parameter params (codes "INIT") (own_init cell)

abbrev pub cell_kind : Primitive → List (List ℕ × Value) → CellKind
cell_kind cell params = kind_with cell (init_of cell params) (init_of cell params == 1) (parameter params (codes "AW") 0) (parameter params (codes "DW") 0)

-- what a pin of a cell is connected to. A cell is connected by the names of its pins, so the place 0 says nothing.
abbrev pub pin_expr : Inst → PinRow → Option Expr
pin_expr inst row = connected inst.conns 0 row.name

abbrev pub pin_sources : Module → Path → Inst → PinRow → List Source
pin_sources m path inst row = option_map_or (sources m path) (pin_expr inst row) []

-- an open output has as many open pins as it has bits
abbrev pub pin_targets : Module → Path → Inst → PinRow → List (Option Bit)
pin_targets m path inst row = option_map_or (λ e. map target (sources m path e)) (pin_expr inst row) (replicate (bits_with 0 0 row) None)

abbrev pub is_clock_pin : PinRow → Bool
is_clock_pin row = is_in row.way && bytes_eq row.name (codes "C")

abbrev pub leaf_cell : Module → Path → Inst → Primitive → DesignCell
leaf_cell m path inst cell = record {
  kind = cell_kind cell inst.params;
  link = false;
  path = path;
  name = Some inst.name;
  ins = flat_map (pin_sources m path inst) (filter is_data_input (pins cell));
  outs = flat_map (pin_targets m path inst) (filter is_data_output (pins cell));
  clock = option_and_then (λ row. slice_get (pin_sources m path inst row) 0) (find is_clock_pin (pins cell));
}

-- The cells of a design. Bit k of an assign's value leads to bit k of its target (6.1). Bit k of what an input of a module is
-- connected to leads to bit k of that port, and bit k of an output to bit k of what it is connected to (12.3.9).
pub data HasCell (d : Design) : DesignCell → Type 0 where
  gate : (path : Path) (m : Module) (g : Gate) → Leads d path m → In m.items (items.Gate g) → HasCell d (gate_cell m path g)
  leaf : (path : Path) (m : Module) (inst : Inst) (cell : Primitive) → Leads d path m → In m.items (items.Inst inst) → kind_of d.tree inst ≡ Some (OfCell cell)
      → HasCell d (leaf_cell m path inst cell)
  assigned : (path : Path) (m : Module) (to from : Expr) (k : ℕ) (s : Source) (b : Bit) → Leads d path m → In m.items (items.Assign to from)
      → slice_get (sources m path from) k ≡ Some s → slice_get (sources m path to) k ≡ Some (Wire b) → HasCell d (link path s b)
  goes_in : (path : Path) (m n : Module) (inst : Inst) (at : ℕ) (port : List ℕ) (e : Expr) (k : ℕ) (s : Source) (b : Bit)
      → Leads d path m → In m.items (items.Inst inst) → kind_of d.tree inst ≡ Some (OfModule n) → slice_get n.ports at ≡ Some port
      → is_output (direction_of n port) ≡ false → connected inst.conns at port ≡ Some e
      → slice_get (sources m path e) k ≡ Some s → slice_get (net_bits n (inst.name ∷ path) port) k ≡ Some b → HasCell d (link path s b)
  goes_out : (path : Path) (m n : Module) (inst : Inst) (at : ℕ) (port : List ℕ) (e : Expr) (k : ℕ) (a b : Bit)
      → Leads d path m → In m.items (items.Inst inst) → kind_of d.tree inst ≡ Some (OfModule n) → slice_get n.ports at ≡ Some port
      → is_output (direction_of n port) ≡ true → connected inst.conns at port ≡ Some e
      → slice_get (net_bits n (inst.name ∷ path) port) k ≡ Some a → slice_get (sources m path e) k ≡ Some (Wire b) → HasCell d (link path (Wire a) b)
