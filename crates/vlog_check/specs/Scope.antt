-- What a name stands for: look-ups in the text order, in which the first mention counts. All of them answer for every name.
use Rattle.std.specs.Prelude.{ℕ, ◌+◌, ◌-◌, nat_lt, nat_le, Bool, true, false, ◌&&◌, ◌||◌, is_some, List, [], ◌∷◌, ◌++◌, map, find, filter_map, sum_by, length, slice_get, codes, decimal, Option, Some, None, option_and_then, if◌then◌else◌}
use Rattle.std.specs.List.{list_any, list_all}
use Rattle.std.specs.Map.{lookup}
use Rattle.std.specs.Option.{option_map, option_map_or}
use Rattle.std.specs.Str.{bytes_eq}
use Rattle.ila_base.specs.declared.place.Place.{Place}
use Rattle.vlog_parse.specs.declared.tree.Tree.{Tree}
use Rattle.vlog_parse.specs.declared.tree.Module.{Module}
use Rattle.vlog_parse.specs.declared.tree.Item.{Item}
use Rattle.vlog_parse.specs.declared.tree.Item.TheVariants as items
use Rattle.vlog_parse.specs.declared.tree.Dir.{Dir}
use Rattle.vlog_parse.specs.declared.tree.Dir.TheVariants.{Input, Output}
use Rattle.vlog_parse.specs.declared.tree.Range.{Range}
use Rattle.vlog_parse.specs.declared.tree.Inst.{Inst}
use Rattle.vlog_parse.specs.declared.tree.Conns.{Conns}
use Rattle.vlog_parse.specs.declared.tree.Conns.TheVariants.{ByName, ByPlace}
use Rattle.vlog_parse.specs.declared.tree.Expr.{Expr}
use Rattle.vlog_parse.specs.Leaves.{Leaf, Net, Bit, Part, Fixed, leaves, leaf_place}
use Rattle.vlog_check.specs.declared.kind.Pin.{Pin}
use Rattle.vlog_check.specs.declared.names.Port.{Port}
use Rattle.vlog_check.specs.declared.primitive.Primitive.{Primitive}
use Rattle.vlog_check.specs.Cells.{PinRow, cells, pins, bits_of}

-- what a list says of a name: the first entry counts
abbrev pub value_of : {V : Type 0} → List (List ℕ × V) → List ℕ → Option V
value_of entries name = lookup (bytes_eq name) entries

-- Names in a list

-- names with their numbers
abbrev pub numbered_from : ℕ → List (List ℕ) → List (List ℕ × ℕ)
numbered_from k [] = []
numbered_from k (name ∷ names) = (name, k) ∷ numbered_from (k + 1) names

-- the number of the first of the names that is this one
abbrev pub number_among : List (List ℕ) → List ℕ → Option ℕ
number_among names name = value_of (numbered_from 0 names) name

abbrev pub is_among : List (List ℕ) → List ℕ → Bool
is_among names name = is_some (number_among names name)

-- Modules

abbrev pub module_names : List Module → List (List ℕ)
module_names modules = map (λ (m : Module). m.name) modules

-- the number of the first module of a name
abbrev pub module_number : Tree → List ℕ → Option ℕ
module_number tree name = number_among (module_names tree.modules) name

abbrev pub module_of : Tree → List ℕ → Option Module
module_of tree name = option_and_then (slice_get tree.modules) (module_number tree name)

-- Declarations, gates and instances

-- what an item declares
abbrev pub declared_by : Item → Option (List ℕ × Option Range)
declared_by (items.Net d) = Some (d.name, d.range)
declared_by (items.Assign target value) = None
declared_by (items.Gate g) = None
declared_by (items.Inst i) = None

-- what an item declares by a direction
abbrev pub directed_by : Item → Option (List ℕ × Port)
directed_by (items.Net d) = option_map (λ dir. (d.name, record { dir = dir; range = d.range })) d.dir
directed_by (items.Assign target value) = None
directed_by (items.Gate g) = None
directed_by (items.Inst i) = None

-- what an item declares by `wire`
abbrev pub wired_by : Item → Option (List ℕ × Option Range)
wired_by (items.Net d) = if is_some d.dir then None else Some (d.name, d.range)
wired_by (items.Assign target value) = None
wired_by (items.Gate g) = None
wired_by (items.Inst i) = None

-- the name of a gate or an instance, with its place
abbrev pub placed_by : Item → Option (List ℕ × Place)
placed_by (items.Net d) = None
placed_by (items.Assign target value) = None
placed_by (items.Gate g) = option_map (λ name. (name, g.place)) g.name
placed_by (items.Inst i) = Some (i.name, i.place)

abbrev pub declared : List Item → List (List ℕ × Option Range)
declared given = filter_map declared_by given

abbrev pub directed : List Item → List (List ℕ × Port)
directed given = filter_map directed_by given

abbrev pub wired : List Item → List (List ℕ × Option Range)
wired given = filter_map wired_by given

abbrev pub placed : List Item → List (List ℕ × Place)
placed given = filter_map placed_by given

-- the range of a net, `Some None` for a scalar: that of its first declaration
abbrev pub range_of : Module → List ℕ → Option (Option Range)
range_of m name = value_of (declared m.items) name

-- the direction of a port: that of its first declaration by a direction
abbrev pub direction_of : Module → List ℕ → Option Dir
direction_of m name = option_map (λ (port : Port). port.dir) (value_of (directed m.items) name)

-- whether the name stands in the header
abbrev pub is_port : Module → List ℕ → Bool
is_port m name = is_among m.ports name

-- Widths (IEEE 1364-2005, 4.3, 5.2.1)

abbrev pub distance : ℕ → ℕ → ℕ
distance a b = (a - b) + (b - a)

abbrev pub range_width : Option Range → ℕ
range_width None = 1
range_width (Some r) = distance r.left r.right + 1

-- how many bits a net has, where it is declared
abbrev pub net_width : Module → List ℕ → Option ℕ
net_width m name = option_map range_width (range_of m name)

-- An index lies within a range from left to right, whether the range goes up or down. A scalar has none.
abbrev pub has_index : Option Range → ℕ → Bool
has_index None i = false
has_index (Some r) i = (nat_le r.right i && nat_le i r.left) || (nat_le r.left i && nat_le i r.right)

-- so does a part, in the direction of the range
abbrev pub has_part : Option Range → ℕ → ℕ → Bool
has_part None left right = false
has_part (Some r) left right =
    (nat_le r.right right && nat_le right left && nat_le left r.left) || (nat_le r.left left && nat_le left right && nat_le right r.right)

-- the bits of a leaf of an expression
abbrev pub leaf_width : Module → Leaf → ℕ
leaf_width m (Net name place) = option_map_or range_width (range_of m name) 0
leaf_width m (Bit name index place) = 1
leaf_width m (Part name left right place) = distance left right + 1
leaf_width m (Fixed word place) = word.width

abbrev pub width_of : Module → Expr → ℕ
width_of m e = sum_by (leaf_width m) (leaves e)

-- whether a leaf is declared in the module: its name, and its bit or part
abbrev pub is_declared : Module → Leaf → Bool
is_declared m (Net name place) = is_some (range_of m name)
is_declared m (Bit name index place) = option_map_or (λ range. has_index range index) (range_of m name) false
is_declared m (Part name left right place) = option_map_or (λ range. has_part range left right) (range_of m name) false
is_declared m (Fixed word place) = true

-- whether all of an expression is declared
abbrev pub is_sound : Module → Expr → Bool
is_sound m e = list_all (is_declared m) (leaves e)

abbrev pub is_fixed : Leaf → Bool
is_fixed (Net name place) = false
is_fixed (Bit name index place) = false
is_fixed (Part name left right place) = false
is_fixed (Fixed word place) = true

abbrev pub has_constant : Expr → Bool
has_constant e = list_any is_fixed (leaves e)

-- the place of an expression: that of its first name or constant
abbrev pub first_place : List Leaf → Place
first_place [] = record { line = 0; col = 0 }
first_place (leaf ∷ more) = leaf_place leaf

abbrev pub place_of : Expr → Place
place_of e = first_place (leaves e)

-- how a leaf is written
abbrev pub leaf_text : Leaf → List ℕ
leaf_text (Net name place) = name
leaf_text (Bit name index place) = name ++ codes "[" ++ decimal index ++ codes "]"
leaf_text (Part name left right place) = name ++ codes "[" ++ decimal left ++ codes ":" ++ decimal right ++ codes "]"
leaf_text (Fixed word place) = []

-- Instances (IEEE 1364-2005, 12.1.2, 12.3.5, 12.3.6)

-- the cell of a name
abbrev pub cell_of : List ℕ → Option Primitive
cell_of name = value_of cells name

-- what an instance is of
pub data Kind : Type 0 where
  OfCell : Primitive → Kind
  OfModule : Module → Kind

abbrev pub cell_first : Option Primitive → Option Module → Option Kind
cell_first (Some cell) m = Some (OfCell cell)
cell_first None None = None
cell_first None (Some m) = Some (OfModule m)

-- what an instance is of: a cell counts before a module of its name, and of modules the first one
abbrev pub kind_of : Tree → Inst → Option Kind
kind_of tree i = cell_first (cell_of i.module) (module_of tree i.module)

-- the pins of what an instance is of, in order
abbrev pub pin_names : Kind → List (List ℕ)
pin_names (OfCell cell) = map (λ (row : PinRow). row.name) (pins cell)
pin_names (OfModule m) = m.ports

-- the pin of a name of an instance's cell or module
abbrev pub pin_of : Inst → Kind → List ℕ → Option Pin
pin_of i (OfCell cell) name = option_map (λ (row : PinRow). record { way = Some row.way; width = bits_of i.params row.size }) (find (λ (row : PinRow). bytes_eq name row.name) (pins cell))
pin_of i (OfModule m) name = if is_port m name then Some (record { way = direction_of m name; width = net_width m name }) else None

abbrev pub is_input : Option Dir → Bool
is_input None = false
is_input (Some Input) = true
is_input (Some Output) = false

abbrev pub is_output : Option Dir → Bool
is_output None = false
is_output (Some Input) = false
is_output (Some Output) = true

-- whether a connection is written for a pin, which is the one with this number
abbrev pub is_given : Conns → ℕ → List ℕ → Bool
is_given (ByName given) k pin = is_some (value_of given pin)
is_given (ByPlace given) k pin = nat_lt k (length given)

-- the expression that a pin is connected to
abbrev pub connected : Conns → ℕ → List ℕ → Option Expr
connected (ByName given) k pin = option_and_then (λ e. e) (value_of given pin)
connected (ByPlace given) k pin = slice_get given k
