-- What is kept of the modules of a checked hierarchy while they are unfolded.
use Rattle.std.specs.Prelude.{◌≡◌, ℕ, ◌+◌, ◌<◌, ◌^◌, Bool, true, false, is_some, List, [], ◌∷◌, map, filter, slice_get, codes, Option, Some}
use Rattle.std.specs.Option.{option_map_or}
use Rattle.vlog_parse.specs.declared.tree.Tree.{Tree}
use Rattle.vlog_parse.specs.declared.tree.Module.{Module}
use Rattle.vlog_parse.specs.declared.tree.Item.{Item}
use Rattle.vlog_parse.specs.declared.tree.Item.TheVariants as items
use Rattle.vlog_parse.specs.declared.tree.Inst.{Inst}
use Rattle.vlog_parse.specs.declared.tree.Value.{Value}
use Rattle.vlog_parse.specs.ReadTree.{In, item_exprs}
use Rattle.vlog_check.specs.declared.primitive.Primitive.{Primitive}
use Rattle.vlog_check.specs.Cells.{init_limit, is_memory}
use Rattle.vlog_check.specs.Scope.{kind_of, OfCell, OfModule, direction_of, is_output}
use Rattle.elab_design.specs.Design.{Path, Design}
use Rattle.elab_design.specs.DesignCells.{DesignCell, parameter, init_of}
use Rattle.elab_design.specs.Order.{DesignGroup, InnerGroups, Unfolds}
use Rattle.elab_scope.specs.Nets.{named_nets}
use Rattle.elab_count.specs.Counting.{IsPart}
use Rattle.elab_unfold.specs.declared.places.Net.{Net}
use Rattle.elab_unfold.specs.declared.shape.Own.{Own}
use Rattle.elab_unfold.specs.declared.shape.Own.TheVariants as owns
use Rattle.elab_unfold.specs.declared.shape.Step.{Step}
use Rattle.elab_unfold.specs.declared.shape.Step.TheVariants as steps
use Rattle.elab_unfold.specs.declared.shape.PortNet.{PortNet}
use Rattle.elab_unfold.specs.declared.shape.Shape.{Shape}
use Rattle.elab_unfold.specs.declared.shape.Plan.{Plan}
use Rattle.elab_unfold.specs.Places.{net_of, own_width, ArePlaces, AreSound}

-- the numbers of a cell's parameters fit where they are kept
pub record AreSmall (cell : Primitive) (params : List (List ℕ × Value)) : Type 0 where
  pub init : is_some (init_limit cell) ≡ true → init_of cell params < 2 ^ 64
  pub address : is_memory cell ≡ true → parameter params (codes "AW") 0 < 2 ^ 8
  pub data_bits : is_memory cell ≡ true → parameter params (codes "DW") 0 < 2 ^ 16

-- Ports

abbrev pub port_seen : PortNet → List ℕ × Bool × Option Net
port_seen port = (port.name.now, port.output, port.net)

abbrev pub port_entry : Module → List ℕ → List ℕ × Bool × Option Net
port_entry m name = (name, is_output (direction_of m name), net_of m name)

abbrev pub ArePorts : Shape → Type 0
ArePorts shape = map port_seen shape.ports.items ≡ map (port_entry (shape.places.holder.now)) (shape.places.holder.now).ports

-- Steps

-- the item that a step is of
abbrev pub own_item : Own → Item
own_item (owns.Assign target value) = items.Assign target.now value.now
own_item (owns.Gate gate) = items.Gate gate.now
own_item (owns.Leaf cell inst) = items.Inst inst.now

abbrev pub item_of : Step → Item
item_of (steps.Own own) = own_item own
item_of (steps.Inside number inst) = items.Inst inst.now

-- what is known of an item of a module that unfolds to cells alone
abbrev pub IsOwn : Tree → Module → Own → Type 0
IsOwn tree m (owns.Assign target value) = AreSound m (item_exprs (items.Assign target.now value.now))
IsOwn tree m (owns.Gate gate) = AreSound m (item_exprs (items.Gate gate.now))
IsOwn tree m (owns.Leaf cell inst) = AreSound m (item_exprs (items.Inst inst.now)) × (kind_of tree inst.now ≡ Some (OfCell cell)) × AreSmall cell (inst.now).params

abbrev pub shape_depth : Plan → ℕ → ℕ
shape_depth plan n = option_map_or (λ (shape : Shape). shape.depth) (slice_get plan.shapes.items n) 0

abbrev pub shape_size : Plan → ℕ → ℕ
shape_size plan n = option_map_or (λ (shape : Shape). shape.size) (slice_get plan.shapes.items n) 0

-- what is known of an instance in a module, which is of the module with a number
pub record IsInside (plan : Plan) (m : Module) (depth number : ℕ) (inst : Inst) : Type 0 where
  pub inner : Module
  pub at : slice_get plan.tree.now.modules number ≡ Some inner
  pub kind : kind_of plan.tree.now inst ≡ Some (OfModule inner)
  pub part : IsPart plan.tree.now plan.top number
  pub less : shape_depth plan number < depth
  pub sound : AreSound m (item_exprs (items.Inst inst))

abbrev pub IsStep : Plan → Module → ℕ → Step → Type 0
IsStep plan m depth (steps.Own own) = IsOwn plan.tree.now m own
IsStep plan m depth (steps.Inside number inst) = IsInside plan m depth number inst.now

-- how many net bits the instances among these steps have
abbrev pub step_size : Plan → Step → ℕ
step_size plan (steps.Own own) = 0
step_size plan (steps.Inside number inst) = shape_size plan number

abbrev pub steps_size : Plan → List Step → ℕ
steps_size plan [] = 0
steps_size plan (step ∷ more) = step_size plan step + steps_size plan more

abbrev pub design_of : Plan → Design
design_of plan = record { tree = plan.tree.now; top = plan.name.now; clock = plan.clock.now }

-- the item unfolds to nothing, wherever it stands
pub record IsDead (d : Design) (m : Module) (item : Item) : Type 0 where
  pub groups : (path : Path) (more : List Item) (found : List DesignGroup) → InnerGroups d path more found → InnerGroups d path (item ∷ more) found
  pub cells : (path : Path) (more : List Item) (found : List DesignCell) → Unfolds d m path more found → Unfolds d m path (item ∷ more) found

-- what is kept of a module is right
pub record IsShape (plan : Plan) (m : Module) (shape : Shape) : Type 0 where
  pub holder : shape.places.holder.now ≡ m
  pub places : ArePlaces shape.places
  pub order : map (λ net. (net.0.now, net.1)) shape.order.now ≡ named_nets m
  pub ports : ArePorts shape
  pub live : Item → Bool
  pub listed : map item_of shape.steps.items ≡ filter live m.items
  pub dead : (item : Item) → In m.items item → live item ≡ false → IsDead (design_of plan) m item
  pub each : (k : ℕ) (step : Step) → slice_get shape.steps.items k ≡ Some step → IsStep plan m shape.depth step
  pub sum : shape.size ≡ own_width m + steps_size plan shape.steps.items

-- there is a module with this number, and what is kept of it is right
pub record IsKept (plan : Plan) (n : ℕ) : Type 0 where
  pub itself : Module
  pub shape : Shape
  pub at : slice_get plan.tree.now.modules n ≡ Some itself
  pub shape_at : slice_get plan.shapes.items n ≡ Some shape
  pub right : IsShape plan itself shape

-- so for the top and all modules below it
abbrev pub IsPlan : Plan → Type 0
IsPlan plan = (n : ℕ) → IsPart plan.tree.now plan.top n → IsKept plan n

-- what is kept is right for the module with this number
pub record IsRight (plan : Plan) (n : ℕ) (shape : Shape) : Type 0 where
  pub at : slice_get plan.tree.now.modules n ≡ Some (shape.places.holder.now)
  pub right : IsShape plan (shape.places.holder.now) shape
