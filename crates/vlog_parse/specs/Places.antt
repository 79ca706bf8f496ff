-- The places of a tree's modules, items, names and constants.
use Rattle.std.specs.Prelude.{◌≡◌, ℕ, zero, suc, ◌<◌, List, length, slice_get, Option, Some, None, option_and_then}
use Rattle.ila_base.specs.declared.place.Place.{Place}
use Rattle.vlog_parse.specs.declared.tree.Tree.{Tree}
use Rattle.vlog_parse.specs.declared.tree.Module.{Module}
use Rattle.vlog_parse.specs.declared.tree.Item.{Item}
use Rattle.vlog_parse.specs.declared.tree.Item.TheVariants.{Net, Assign, Gate, Inst}
use Rattle.vlog_parse.specs.declared.tree.Conns.{Conns}
use Rattle.vlog_parse.specs.declared.tree.Conns.TheVariants.{ByName, ByPlace}
use Rattle.vlog_parse.specs.declared.tree.Expr.{Expr}
use Rattle.vlog_parse.specs.Leaves.{Leaf, leaves, leaf_place}

-- the place of an item's own name, or of a gate's bracket where it has none
abbrev pub item_place : Item → Option Place
item_place (Net d) = Some d.place
item_place (Assign target value) = None
item_place (Gate g) = Some g.place
item_place (Inst i) = Some i.place

-- the expression of a connection
abbrev pub conn_expr : Conns → ℕ → Option Expr
conn_expr (ByName given) e = option_and_then (λ (c : List ℕ × Option Expr). c.1) (slice_get given e)
conn_expr (ByPlace given) e = slice_get given e

-- the target and the value of an assign, by number
abbrev pub side : Expr → Expr → ℕ → Option Expr
side target value zero = Some target
side target value (suc zero) = Some value
side target value (suc (suc e)) = None

-- an item's expression of a number: target and value, terminals, or connections
abbrev pub expr_at : Item → ℕ → Option Expr
expr_at (Net d) e = None
expr_at (Assign target value) e = side target value e
expr_at (Gate g) e = slice_get g.args e
expr_at (Inst i) e = conn_expr i.conns e

-- where in a tree: a module, an item of a module, or a leaf of an item's expression, by their numbers
pub data Site : Type 0 where
  AtModule : ℕ → Site
  AtItem : ℕ → ℕ → Site
  AtLeaf : ℕ → ℕ → ℕ → ℕ → Site

-- what stands there has this place
pub data StandsAt (tree : Tree) : Site → Place → Type 0 where
  module_name : (k : ℕ) (m : Module) → slice_get tree.modules k ≡ Some m → StandsAt tree (AtModule k) m.place
  item_name : (k i : ℕ) (m : Module) (item : Item) (place : Place) → slice_get tree.modules k ≡ Some m → slice_get m.items i ≡ Some item → item_place item ≡ Some place → StandsAt tree (AtItem k i) place
  leaf : (k i e l : ℕ) (m : Module) (item : Item) (expr : Expr) (own : Leaf) → slice_get tree.modules k ≡ Some m → slice_get m.items i ≡ Some item → expr_at item e ≡ Some expr
      → slice_get (leaves expr) l ≡ Some own → StandsAt tree (AtLeaf k i e l) (leaf_place own)

-- Each module, item and leaf has a place that nothing else has, as in a text no two tokens have one place, and each expression has a
-- leaf. The laws of one finding and one refusal take this of a tree.
pub record HasOwnPlaces (tree : Tree) : Type 0 where
  pub own : (s t : Site) (place : Place) → StandsAt tree s place → StandsAt tree t place → s ≡ t
  pub some : (k i e : ℕ) (m : Module) (item : Item) (expr : Expr) → slice_get tree.modules k ≡ Some m → slice_get m.items i ≡ Some item → expr_at item e ≡ Some expr → 0 < length (leaves expr)
