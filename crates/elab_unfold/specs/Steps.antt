-- Which items of a module unfold to something, by the counts of the modules of their instances.
use Rattle.std.specs.Prelude.{◌≡◌, ℕ, ◌<◌, Bool, true, false, ◌||◌, nat_lt, List, map, filter, filter_map, slice_get, Option, Some, None}
use Rattle.std.specs.Option.{option_map}
use Rattle.vlog_parse.specs.declared.tree.Dir.{Dir}
use Rattle.vlog_parse.specs.declared.tree.Tree.{Tree}
use Rattle.vlog_parse.specs.declared.tree.Module.{Module}
use Rattle.vlog_parse.specs.declared.tree.Item.{Item}
use Rattle.vlog_parse.specs.declared.tree.Item.TheVariants as items
use Rattle.elab_scope.specs.Modules.{part_of}
use Rattle.elab_count.specs.declared.amounts.Count.{Count}
use Rattle.elab_scope.specs.declared.numbers.Part.{Part}
use Rattle.elab_scope.specs.declared.numbers.Part.TheVariants as parts
use Rattle.elab_count.specs.Counting.{count_at}
use Rattle.elab_scope.specs.Nets.{named_nets}
use Rattle.elab_unfold.specs.declared.shape.Own.TheVariants as owns
use Rattle.elab_unfold.specs.declared.shape.Step.{Step}
use Rattle.elab_unfold.specs.declared.shape.Step.TheVariants as steps
use Rattle.elab_unfold.specs.declared.shape.Shape.{Shape}
use Rattle.elab_unfold.specs.Places.{ArePlaces}
use Rattle.elab_unfold.specs.Shapes.{item_of, ArePorts}

-- the directions that items declare
abbrev pub direction_in : Item → Option (List ℕ × Dir)
direction_in (items.Net d) = option_map (λ dir. (d.name, dir)) d.dir
direction_in (items.Assign target value) = None
direction_in (items.Gate g) = None
direction_in (items.Inst i) = None

abbrev pub directions_of : List Item → List (List ℕ × Dir)
directions_of given = filter_map direction_in given

-- there is a net or a cell
abbrev pub has_some : Count → Bool
has_some c = nat_lt 0 c.nets || nat_lt 0 c.cells

abbrev pub is_live_part : List (Option Count) → Option Part → Bool
is_live_part table None = false
is_live_part table (Some (parts.Cell cell)) = true
is_live_part table (Some (parts.Module n)) = has_some (count_at table n)

abbrev pub is_live : Tree → List (Option Count) → Item → Bool
is_live tree table (items.Net d) = false
is_live tree table (items.Assign target value) = true
is_live tree table (items.Gate g) = true
is_live tree table (items.Inst inst) = is_live_part table (part_of tree inst)

-- a step of an instance has what it is of
abbrev pub IsOf : Tree → Step → Type 0
IsOf tree (steps.Own (owns.Assign target value)) = Unit {0}
IsOf tree (steps.Own (owns.Gate gate)) = Unit {0}
IsOf tree (steps.Own (owns.Leaf cell inst)) = part_of tree inst.now ≡ Some (parts.Cell cell)
IsOf tree (steps.Inside number inst) = part_of tree inst.now ≡ Some (parts.Module number)

-- the step is that of the item
pub record IsStepOf (tree : Tree) (table : List (Option Count)) (item : Item) (step : Step) : Type 0 where
  pub same : item_of step ≡ item
  pub live : is_live tree table item ≡ true
  pub kind : IsOf tree step

-- the steps are those of the items that unfold to something, in order
pub record AreSteps (tree : Tree) (table : List (Option Count)) (given : List Item) (found : List Step) : Type 0 where
  pub listed : map item_of found ≡ filter (is_live tree table) given
  pub each : (k : ℕ) (step : Step) → slice_get found k ≡ Some step → IsOf tree step

-- what is kept of a module with this count
pub record IsReadShape (tree : Tree) (table : List (Option Count)) (m : Module) (c : Count) (shape : Shape) : Type 0 where
  pub holder : shape.places.holder.now ≡ m
  pub places : ArePlaces shape.places
  pub order : map (λ net. (net.0.now, net.1)) shape.order.now ≡ named_nets m
  pub ports : ArePorts shape
  pub steps : AreSteps tree table m.items shape.steps.items
  pub size : shape.size ≡ c.nets
  pub depth : shape.depth ≡ c.depth

-- what is kept of the first modules that have counts is right
abbrev pub AreShapes : Tree → List (Option Count) → ℕ → List Shape → Type 0
AreShapes tree table bound shapes = (n : ℕ) (m : Module) (c : Count) → n < bound → slice_get tree.modules n ≡ Some m → slice_get table n ≡ Some (Some c)
    → (shape : Shape) × (slice_get shapes n ≡ Some shape) × IsReadShape tree table m c shape
