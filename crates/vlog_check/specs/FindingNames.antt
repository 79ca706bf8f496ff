-- Findings on the names of a module: names that stand twice, and ports without a direction or outside the header.
use Rattle.std.specs.Prelude.{ℕ, ◌+◌, ◌==◌, Bool, true, false, not, ◌&&◌, ◌||◌, is_some, is_none, List, [], ◌∷◌, take, codes, Option, Some, None, MatchOption, if◌then◌else◌}
use Rattle.std.specs.List.{list_any}
use Rattle.std.specs.Str.{bytes_eq}
use Rattle.ila_base.specs.declared.place.Place.{Place}
use Rattle.ila_base.specs.declared.refusal.NetRefusal.TheVariants.{Duplicate, Undeclared}
use Rattle.vlog_parse.specs.declared.tree.Module.{Module}
use Rattle.vlog_parse.specs.declared.tree.Item.{Item}
use Rattle.vlog_parse.specs.declared.tree.Item.TheVariants.{Net, Assign, Gate, Inst}
use Rattle.vlog_parse.specs.declared.tree.Decl.{Decl}
use Rattle.vlog_parse.specs.declared.tree.Range.{Range}
use Rattle.vlog_check.specs.declared.found.Detail.TheVariants.{Alone}
use Rattle.vlog_check.specs.declared.found.Found.{Found}
use Rattle.vlog_check.specs.declared.names.Port.{Port}
use Rattle.vlog_check.specs.Found.{FindsIf}
use Rattle.vlog_check.specs.Scope.{value_of, is_among, module_names, declared, directed, wired, placed, direction_of, is_port, cell_of}

-- the finding at a place that stands alone there
abbrev pub at_place : Place → List ℕ → Found
at_place place name = record { place = place; subject = 0; detail = Alone; refusal = Duplicate name }

-- Modules

-- the words of gates (IEEE 1364-2005, 7.2, 7.3)
abbrev pub gate_words : List (List ℕ)
gate_words = codes "and" ∷ codes "nand" ∷ codes "or" ∷ codes "nor" ∷ codes "xor" ∷ codes "xnor" ∷ codes "buf" ∷ codes "not" ∷ []

-- whether a name can't be that of a module behind others: one of them has it, or it is a cell's or a gate's
abbrev pub is_taken : List Module → List ℕ → Bool
is_taken past name = is_among (module_names past) name || is_some (cell_of name) || list_any (bytes_eq name) gate_words

-- a module's name stands for something else already
abbrev pub FindsModule : List Module → ℕ → Module → Found → Type 0
FindsModule modules k m f = FindsIf (is_taken (take k modules) m.name) (at_place m.place m.name) f

-- Header

-- a name stands in the header before
abbrev pub FindsSecondPort : Module → ℕ → List ℕ → Found → Type 0
FindsSecondPort m k name f = FindsIf (is_among (take k m.ports) name) (record { place = m.place; subject = k + 1; detail = Alone; refusal = Duplicate name }) f

-- a name of the header has no direction
abbrev pub FindsNoDirection : Module → ℕ → List ℕ → Found → Type 0
FindsNoDirection m k name f = FindsIf (is_none (direction_of m name)) (record { place = m.place; subject = k + 1; detail = Alone; refusal = Undeclared name }) f

-- Items

abbrev pub same_range : Option Range → Option Range → Bool
same_range None None = true
same_range None (Some r) = false
same_range (Some q) None = false
same_range (Some q) (Some r) = (q.left == r.left) && (q.right == r.right)

-- whether a declaration is in the way of another one of its name, which is made in the other way, by `wire` or by a direction:
-- it isn't where the name is that of a port and the ranges are equal
abbrev pub is_in_way : Bool → Option (Option Range) → Option Range → Bool
is_in_way port None range = false
is_in_way port (Some other) range = not (port && same_range other range)

abbrev pub port_range : Option Port → Option (Option Range)
port_range None = None
port_range (Some p) = Some p.range

-- whether a declaration can't stand behind these items: a gate or an instance has its name, or it is declared in the same way,
-- or in the other way and that is in its way
abbrev pub is_declared_again : Module → List Item → Decl → Bool
is_declared_again m past d =
    is_some (value_of (placed past) d.name)
    || (if is_some d.dir then
    is_some (value_of (directed past) d.name) || is_in_way (is_port m d.name) (value_of (wired past) d.name) d.range
    else is_some (value_of (wired past) d.name) || is_in_way (is_port m d.name) (port_range (value_of (directed past) d.name)) d.range)

-- whether a gate's or an instance's name can't stand behind these items
abbrev pub is_placed_again : Module → List Item → List ℕ → Bool
is_placed_again m past name = is_port m name || is_some (value_of (declared past) name) || is_some (value_of (placed past) name)

-- an item's name is given twice
abbrev pub FindsSecond : Module → ℕ → Item → Found → Type 0
FindsSecond m k (Net d) f = FindsIf (is_declared_again m (take k m.items) d) (at_place d.place d.name) f
FindsSecond m k (Assign target value) f = ⊥
FindsSecond m k (Gate g) f = MatchOption g.name ⊥ (λ name. FindsIf (is_placed_again m (take k m.items) name) (at_place g.place name) f)
FindsSecond m k (Inst i) f = FindsIf (is_placed_again m (take k m.items) i.name) (at_place i.place i.name) f

-- a name that is declared with a direction isn't in the header
abbrev pub FindsOutside : Module → Item → Found → Type 0
FindsOutside m (Net d) f = FindsIf (is_some d.dir && not (is_port m d.name)) (record { place = d.place; subject = 0; detail = Alone; refusal = Undeclared d.name }) f
FindsOutside m (Assign target value) f = ⊥
FindsOutside m (Gate g) f = ⊥
FindsOutside m (Inst i) f = ⊥
