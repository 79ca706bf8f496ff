-- Where the bits of a module's nets stand among all of them, and which numbers of net bits agree with that.
use Rattle.std.specs.Prelude.{◌≡◌, ℕ, ◌+◌, ◌-◌, take, drop, length, Bool, true, false, List, [], ◌∷◌, ◌++◌, map, slice_get, Option, Some, None, if◌then◌else◌}
use Rattle.std.specs.List.{range_with_len}
use Rattle.std.specs.Option.{option_map}
use Rattle.std.specs.Str.{bytes_eq}
use Rattle.net_core.specs.declared.parts.Pin.{Pin}
use Rattle.net_core.specs.declared.parts.Pin.TheVariants as pins
use Rattle.net_core.specs.declared.parts.NetId.{NetId}
use Rattle.net_core.specs.declared.parts.Group.{Group}
use Rattle.net_core.specs.declared.kind.CellKind.TheVariants as kinds
use Rattle.net_core.specs.declared.kind.GateCode.TheVariants as codes_of
use Rattle.flat_settle.specs.declared.raw.RawCell.{RawCell}
use Rattle.vlog_parse.specs.declared.tree.Module.{Module}
use Rattle.vlog_parse.specs.declared.tree.Range.{Range}
use Rattle.vlog_parse.specs.declared.tree.Expr.{Expr}
use Rattle.vlog_parse.specs.declared.tree.GateKind.{GateKind}
use Rattle.vlog_parse.specs.ReadTree.{In}
use Rattle.vlog_check.specs.Scope.{value_of, range_width, is_sound}
use Rattle.elab_design.specs.Design.{Path, Bit, bit_of, indices}
use Rattle.elab_design.specs.DesignCells.{is_last_input}
use Rattle.elab_design.specs.Raw.{net_id, pair_of}
use Rattle.elab_design.specs.Names.{flat_name}
use Rattle.elab_scope.specs.Nets.{named_nets}
use Rattle.elab_unfold.specs.declared.places.Net.{Net}
use Rattle.elab_unfold.specs.declared.places.Places.{Places}

abbrev pub NetRow : Type 0
NetRow = List ℕ × Option Range

abbrev pub row_width : NetRow → ℕ
row_width net = range_width net.1

-- how many bits these nets have
abbrev pub rows_width : List NetRow → ℕ
rows_width [] = 0
rows_width (net ∷ nets) = row_width net + rows_width nets

-- the range of the first net of a name, and how many bits those before it have, and some more
abbrev pub net_from : ℕ → List NetRow → List ℕ → Option Net
net_from first [] name = None
net_from first (net ∷ nets) name = if bytes_eq name net.0 then Some (record { range = net.1; first = first }) else net_from (first + row_width net) nets name

abbrev pub net_of : Module → List ℕ → Option Net
net_of m name = net_from 0 (named_nets m) name

-- how many bits the nets of a module have
abbrev pub own_width : Module → ℕ
own_width m = rows_width (named_nets m)

-- the table has the places of a module's nets
abbrev pub ArePlaces : Places → Type 0
ArePlaces places = (name : List ℕ) → value_of places.nets name ≡ net_of (places.holder.now) name

-- the numbers of the bits of a module's nets at a path rise from this one on
pub record Fits (m : Module) (path : Path) (base : ℕ) (number : Bit → ℕ) : Type 0 where
  pub at : (name : List ℕ) (net : Net) (k i : ℕ) → net_of m name ≡ Some net → slice_get (indices net.range) k ≡ Some i → number (bit_of path name i) ≡ base + net.first + k

-- all of each of these expressions is declared
abbrev pub AreSound : Module → List Expr → Type 0
AreSound m es = (e : Expr) → In es e → is_sound m e ≡ true

-- Pins

abbrev pub net_pin : ℕ → Pin
net_pin n = pins.Net (net_id n)

abbrev pub bit_pin : Bool → Pin
bit_pin false = pins.Zero
bit_pin true = pins.One

-- Groups

-- a group whose bits have rising numbers
abbrev pub group_from : List ℕ → ℕ → NetRow → Group
group_from prefix first net = record { name = prefix ++ net.0; range = option_map pair_of net.1; bits = map net_id (range_with_len first (row_width net)) }

abbrev pub groups_from : List ℕ → ℕ → List NetRow → List Group
groups_from prefix first [] = []
groups_from prefix first (net ∷ nets) = group_from prefix first net ∷ groups_from prefix (first + row_width net) nets

-- the names of the instances on a path, each with a slash behind it
abbrev pub prefix_of : Path → List ℕ
prefix_of path = flat_name path []

-- Links

-- the net that a pin is on
abbrev pub pin_net : Pin → Option NetId
pin_net (pins.Net net) = Some net
pin_net pins.Zero = None
pin_net pins.One = None

abbrev pub link_cell : Pin → NetId → RawCell
link_cell from to = record { link = true; kind = kinds.Gate codes_of.Buf; name = None; ins = from ∷ []; outs = Some to ∷ []; clock = None }

abbrev pub link_where : Pin → Option NetId → List RawCell
link_where from None = []
link_where from (Some net) = link_cell from net ∷ []

-- a link from each pin to the net in its place
abbrev pub link_cells : List Pin → List Pin → List RawCell
link_cells [] targets = []
link_cells (from ∷ sources) [] = []
link_cells (from ∷ sources) (to ∷ targets) = link_where from (pin_net to) ++ link_cells sources targets

-- The nets of a port from the inside, and the links of a port: those of an output lead from inside to outside

abbrev pub net_end : Option Net → ℕ
net_end None = 0
net_end (Some net) = net.first + range_width net.range

abbrev pub inside_pins : ℕ → Option Net → List Pin
inside_pins next None = []
inside_pins next (Some net) = map net_pin (range_with_len (next + net.first) (range_width net.range))

abbrev pub border_cells : Bool → List Pin → List Pin → List RawCell
border_cells true outside inside = link_cells inside outside
border_cells false outside inside = link_cells outside inside

-- Gates: of the pins of buf and not the last one is the input, of those of the others the first one is the output

abbrev pub gate_ins : GateKind → List Pin → List Pin
gate_ins kind terminals = if is_last_input kind then drop (length terminals - 1) terminals else drop 1 terminals

abbrev pub gate_outs : GateKind → List Pin → List Pin
gate_outs kind terminals = if is_last_input kind then take (length terminals - 1) terminals else take 1 terminals
