-- What the modules of a hierarchy have with all that is below them, module by module.
use Rattle.std.specs.Prelude.{◌≡◌, ℕ, ◌+◌, ◌*◌, max, codes, List, [], ◌∷◌, map, length, slice_get, sum_by, Option, Some, None, ◌⊎◌}
use Rattle.std.specs.Option.{option_map_or}
use Rattle.ila_base.specs.declared.refusal.LimitKind.{LimitKind}
use Rattle.ila_base.specs.declared.refusal.LimitKind.TheVariants.{Depth, Cells, Pins, Nets, AllNames}
use Rattle.vlog_parse.specs.declared.tree.Tree.{Tree}
use Rattle.vlog_parse.specs.declared.tree.Module.{Module}
use Rattle.vlog_parse.specs.declared.tree.Range.{Range}
use Rattle.vlog_parse.specs.declared.tree.Item.{Item}
use Rattle.vlog_parse.specs.declared.tree.Item.TheVariants as items
use Rattle.vlog_parse.specs.declared.tree.Gate.{Gate}
use Rattle.vlog_parse.specs.declared.tree.Inst.{Inst}
use Rattle.vlog_parse.specs.declared.tree.Conns.{Conns}
use Rattle.vlog_parse.specs.ReadTree.{connected_exprs}
use Rattle.vlog_check.specs.declared.primitive.Primitive.{Primitive}
use Rattle.vlog_check.specs.Cells.{pins}
use Rattle.vlog_check.specs.CellRows.{bits_with}
use Rattle.vlog_check.specs.Checked.{IsBelow}
use Rattle.vlog_check.specs.Scope.{range_width, width_of}
use Rattle.elab_design.specs.DesignCells.{parameter}
use Rattle.elab_design.specs.Limits.{carried}
use Rattle.elab_scope.specs.declared.numbers.Part.{Part}
use Rattle.elab_scope.specs.declared.numbers.Part.TheVariants as parts
use Rattle.elab_scope.specs.Modules.{part_of}
use Rattle.elab_scope.specs.Nets.{named_nets}
use Rattle.elab_count.specs.declared.amounts.Count.{Count}

-- Counts, which in themselves have no bound

abbrev pub nothing : Count
nothing = record { depth = 0; cells = 0; pins = 0; nets = 0; names = 0; bytes = 0 }

-- two counts beside one another: the deeper one tells the depth
abbrev pub together : Count → Count → Count
together a b = record { depth = max a.depth b.depth; cells = a.cells + b.cells; pins = a.pins + b.pins; nets = a.nets + b.nets; names = a.names + b.names; bytes = a.bytes + b.bytes }

abbrev pub all_together : List Count → Count
all_together [] = nothing
all_together (count ∷ counts) = together count (all_together counts)

-- the count as it is carried
abbrev pub capped : Count → Count
capped c = record { depth = carried c.depth; cells = carried c.cells; pins = carried c.pins; nets = carried c.nets; names = carried c.names; bytes = carried c.bytes }

-- so many cells, with so many pins in all
abbrev pub cells_count : ℕ → ℕ → Count
cells_count cells pins = record nothing { cells = cells; pins = pins }

-- a link has two pins
abbrev pub links_count : ℕ → Count
links_count bits = cells_count bits (2 * bits)

-- with an identifier of so many bytes
abbrev pub with_name : ℕ → Count → Count
with_name bytes c = record c { names = c.names + 1; bytes = c.bytes + bytes }

-- the number of a kind that has a limit
abbrev pub count_of : LimitKind → Count → ℕ
count_of Depth c = c.depth
count_of Cells c = c.cells
count_of Pins c = c.pins
count_of Nets c = c.nets
count_of AllNames c = c.bytes
count_of _ c = 0

-- the count of a module seen from outside an instance with a name of so many bytes: it stands with a slash before each identifier
abbrev pub behind : ℕ → Count → Count
behind bytes c = record c { depth = c.depth + 1; bytes = c.bytes + c.names * (bytes + 1) }

-- The items of a module

abbrev pub net_count : List ℕ × Option Range → Count
net_count net = record nothing { nets = range_width net.1; names = 1; bytes = length net.0 }

abbrev pub gate_count : Gate → Count
gate_count g = option_map_or (λ (name : List ℕ). with_name (length name) (cells_count 1 (length g.args))) g.name (cells_count 1 (length g.args))

abbrev pub leaf_pins : Primitive → Inst → ℕ
leaf_pins cell inst = sum_by (bits_with (parameter inst.params (codes "AW") 0) (parameter inst.params (codes "DW") 0)) (pins cell)

abbrev pub leaf_count : Primitive → Inst → Count
leaf_count cell inst = with_name (length inst.name) (cells_count 1 (leaf_pins cell inst))

-- what the table says of a module
abbrev pub count_at : List (Option Count) → ℕ → Count
count_at table n = option_map_or (λ (entry : Option Count). option_map_or (λ (c : Count). c) entry nothing) (slice_get table n) nothing

abbrev pub conns_width : Module → Conns → ℕ
conns_width m conns = sum_by (width_of m) (connected_exprs conns)

abbrev pub part_count : List (Option Count) → Module → Inst → Option Part → Count
part_count table m inst None = nothing
part_count table m inst (Some (parts.Cell cell)) = leaf_count cell inst
part_count table m inst (Some (parts.Module n)) = together (links_count (conns_width m inst.conns)) (behind (length inst.name) (count_at table n))

abbrev pub item_count : Tree → List (Option Count) → Module → Item → Count
item_count tree table m (items.Net d) = nothing
item_count tree table m (items.Assign target value) = links_count (width_of m target)
item_count tree table m (items.Gate g) = gate_count g
item_count tree table m (items.Inst inst) = part_count table m inst (part_of tree inst)

-- a module's nets and items, where the modules of its instances are in the table
abbrev pub module_count : Tree → List (Option Count) → Module → Count
module_count tree table m = together (all_together (map net_count (named_nets m))) (all_together (map (item_count tree table m) m.items))

-- the module is the top or below it
abbrev pub IsPart : Tree → ℕ → ℕ → Type 0
IsPart tree top n = (n ≡ top) ⊎ IsBelow tree top n

-- The table has the counts of the top and of the modules below it alone: each is that of the module's nets and items, up to the greatest number.
pub record AreCounts (tree : Tree) (top : ℕ) (table : List (Option Count)) : Type 0 where
  pub size : length table ≡ length tree.modules
  pub each : (n : ℕ) (m : Module) → IsPart tree top n → slice_get tree.modules n ≡ Some m → slice_get table n ≡ Some (Some (capped (module_count tree table m)))
  pub only : (n : ℕ) (c : Count) → slice_get table n ≡ Some (Some c) → IsPart tree top n
