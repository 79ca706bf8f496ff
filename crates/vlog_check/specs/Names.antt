-- What is kept of a module's names, and of an expression that was read.
use Rattle.std.specs.Prelude.{Bool, ◌≡◌, ℕ, min, ◌+◌, ◌-◌, ◌*◌, ◌&&◌, ◌||◌, ◌^◌, ◌≤◌, List, [], ◌∷◌, length, sum_by, slice_get, Option, Some, None, true, false, ◌==◌, ◌<◌}
use Rattle.std.specs.List.{list_all, list_any}
use Rattle.std.specs.Option.{option_or, option_map_or}
use Rattle.ila_base.specs.declared.place.Place.{Place}
use Rattle.vlog_parse.specs.declared.tree.Module.{Module}
use Rattle.vlog_parse.specs.declared.tree.Expr.{Expr}
use Rattle.vlog_parse.specs.Leaves.{Leaf, leaves, leaf_place}
use Rattle.vlog_parse.specs.declared.tree.Item.{Item}
use Rattle.vlog_check.specs.declared.names.Names.{Names}
use Rattle.vlog_check.specs.declared.names.Past.{Past}
use Rattle.vlog_check.specs.declared.expr.Reading.{Reading}
use Rattle.vlog_check.specs.Found.{IsLeastFinding, FindsAmong, earlier}
use Rattle.vlog_check.specs.Scope.{is_input, direction_of, value_of, number_among, declared, directed, wired, placed, range_of, leaf_width, width_of, is_declared, is_fixed}
use Rattle.vlog_check.specs.FindingWidths.{FindsLeaf}

-- the table has the number of each of the names
abbrev pub IsNumbering : List (List ℕ × ℕ) → List (List ℕ) → Type 0
IsNumbering table names = (name : List ℕ) → value_of table name ≡ number_among names name

-- the tables say what the items say
pub record IsPast (past : Past) (given : List Item) : Type 0 where
  pub ranges : (name : List ℕ) → value_of past.ranges name ≡ value_of (declared given) name
  pub directed_ports : (name : List ℕ) → value_of past.directed name ≡ value_of (directed given) name
  pub wires : (name : List ℕ) → value_of past.wired name ≡ value_of (wired given) name
  pub places : (name : List ℕ) → value_of past.placed name ≡ value_of (placed given) name

-- whether the name is that of an input, and this is its first place in the header
abbrev pub is_input_at : Module → ℕ → List ℕ → Bool
is_input_at m k name = is_input (direction_of m name) && option_map_or (λ first. first == k) (number_among m.ports name) false

-- the places are those of the header's inputs, and rise
pub record AreInputs (m : Module) (places : List ℕ) : Type 0 where
  pub sound : (j k : ℕ) → slice_get places j ≡ Some k → (name : List ℕ) × (slice_get m.ports k ≡ Some name) × (is_input_at m k name ≡ true)
  pub complete : (k : ℕ) (name : List ℕ) → slice_get m.ports k ≡ Some name → is_input_at m k name ≡ true → (j : ℕ) × (slice_get places j ≡ Some k)
  pub rising : (i j k l : ℕ) → i < j → slice_get places i ≡ Some k → slice_get places j ≡ Some l → k < l

-- the tables answer as the module's text does
pub record IsNames (names : Names) : Type 0 where
  pub ports : (name : List ℕ) → value_of names.ports name ≡ number_among names.module.now.ports name
  pub ranges : (name : List ℕ) → value_of names.ranges name ≡ range_of names.module.now name
  pub directed_ports : (name : List ℕ) → value_of names.directed name ≡ value_of (directed names.module.now.items) name
  pub input_places : AreInputs names.module.now names.inputs.items

-- the place of the first leaf, if there is one
abbrev pub head_place : List Leaf → Option Place
head_place [] = None
head_place (leaf ∷ more) = Some (leaf_place leaf)

-- what is kept of these leaves of a module: the first place, the width as far as it is below 2 to the 64, whether all are declared, whether one is a constant, and
-- the first that isn't declared
pub record IsReading (m : Module) (run : List Leaf) (r : Reading) : Type 0 where
  pub first : r.place ≡ head_place run
  pub bits : r.width ≡ min (sum_by (leaf_width m) run) (2 ^ 64 - 1)
  pub bound : sum_by (leaf_width m) run ≤ 2 ^ 32 * length run
  pub all : r.sound ≡ list_all (is_declared m) run
  pub any : r.fixed ≡ list_any is_fixed run
  pub least : IsLeastFinding (FindsAmong (λ k leaf f. FindsLeaf m leaf f) run) r.found

-- what is kept of two runs of leaves, one behind the other
abbrev pub joined : Reading → Reading → Reading
joined a b = record { place = option_or a.place b.place; width = min (a.width + b.width) (2 ^ 64 - 1); sound = a.sound && b.sound; fixed = a.fixed || b.fixed; found = earlier a.found b.found }

-- what is kept of an expression of a module
pub record IsRead (m : Module) (e : Expr) (r : Reading) : Type 0 where
  pub reading : IsReading m (leaves e) r
  pub width : r.width ≡ width_of m e

-- each of the expressions has no more leaves than a text has bytes
abbrev pub AreFew : List Expr → Type 0
AreFew es = (k : ℕ) (e : Expr) → slice_get es k ≡ Some e → length (leaves e) ≤ 67108864
