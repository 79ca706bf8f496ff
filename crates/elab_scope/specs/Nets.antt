-- The nets of a module with their ranges, in order of first mention.
use Rattle.std.specs.Prelude.{◌≡◌, ℕ, Bool, not, if◌then◌else◌, List, [], ◌∷◌, map, filter_map, is_some, length, slice_get, Option, Some}
use Rattle.std.specs.Borrow.{Bor}
use Rattle.std.specs.Option.{option_map}
use Rattle.vlog_parse.specs.declared.tree.Module.{Module}
use Rattle.vlog_parse.specs.declared.tree.Item.{Item}
use Rattle.vlog_parse.specs.declared.tree.Range.{Range}
use Rattle.vlog_check.specs.Scope.{value_of, is_among, range_of, declared}
use Rattle.elab_design.specs.Order.{first_mentions, net_names}
use Rattle.elab_scope.specs.declared.nets.Declared.{Declared}
use Rattle.elab_scope.specs.declared.nets.Nets.{Nets}
use Rattle.elab_scope.specs.declared.nets.Reading.{Reading}

-- names with ranges as they are kept
abbrev pub rows_seen : List (Bor (List ℕ) × Option Range) → List (List ℕ × Option Range)
rows_seen rows = map (λ (row : Bor (List ℕ) × Option Range). (row.0.now, row.1)) rows

-- a name with the range of its net, where it is declared
abbrev pub net_named : Module → List ℕ → Option (List ℕ × Option Range)
net_named m name = option_map (λ range. (name, range)) (range_of m name)

-- the nets of these names
abbrev pub nets_named : Module → List (List ℕ) → List (List ℕ × Option Range)
nets_named m names = filter_map (net_named m) names

abbrev pub named_nets : Module → List (List ℕ × Option Range)
named_nets m = nets_named m (net_names m)

-- the declarations of names that don't stand before, each the first of its name
abbrev pub first_declarations : List (List ℕ) → List (List ℕ × Option Range) → List (List ℕ × Option Range)
first_declarations before [] = []
first_declarations before (d ∷ more) = if is_among before d.0 then first_declarations before more else d ∷ first_declarations (d.0 ∷ before) more

-- what is kept of what items declare
pub record AreDeclared (items : List Item) (d : Declared) : Type 0 where
  pub ranges : (name : List ℕ) → value_of d.ranges name ≡ value_of (declared items) name
  pub firsts : rows_seen d.firsts.items ≡ first_declarations [] (declared items)

-- the name doesn't stand in the header
abbrev pub is_other : List (List ℕ × Bool) → List ℕ × Option Range → Bool
is_other header row = not (is_some (value_of header row.0))

pub record AreNets (m : Module) (nets : Nets) : Type 0 where
  pub ranges : (name : List ℕ) → value_of nets.ranges name ≡ range_of m name
  pub order : rows_seen nets.order.items ≡ named_nets m

-- the nets of each of the modules
pub record AreNetsOfAll (modules : List Module) (all : List Nets) : Type 0 where
  pub size : length all ≡ length modules
  pub each : (n : ℕ) (m : Module) (nets : Nets) → slice_get modules n ≡ Some m → slice_get all n ≡ Some nets → AreNets m nets

-- what is kept of a module's nets where these names were mentioned
pub record IsMentioned (m : Module) (names : List (List ℕ)) (r : Reading) : Type 0 where
  pub ranges : (name : List ℕ) → value_of r.ranges name ≡ range_of m name
  pub seen : (name : List ℕ) → is_some (value_of r.seen name) ≡ is_among names name
  pub order : rows_seen r.order.items ≡ nets_named m (first_mentions [] names)
