-- The leaves of an expression: names, selects and constants, from the most significant on (IEEE 1364-2005, 5.1.14, 5.2.1).
use Rattle.std.specs.Prelude.{ℕ, List, [], ◌∷◌}
use Rattle.std.specs.List.{flat_map}
use Rattle.ila_base.specs.declared.place.Place.{Place}
use Rattle.ila_base.specs.declared.place.Word.{Word}
use Rattle.vlog_parse.specs.declared.tree.Expr.{Expr, fold-Expr}
use Rattle.vlog_parse.specs.declared.tree.Expr.TheOpen as layer

-- a net by its name, one bit of it, a part of it, or a constant, with its place
pub data Leaf : Type 0 where
  Net : List ℕ → Place → Leaf
  Bit : List ℕ → ℕ → Place → Leaf
  Part : List ℕ → ℕ → ℕ → Place → Leaf
  Fixed : Word → Place → Leaf

-- the leaves of an expression, where those of the parts of a concatenation are known
abbrev pub leaves_at : layer.Expr-F (List Leaf) → List Leaf
leaves_at (layer.Whole name place) = Net name place ∷ []
leaves_at (layer.Bit name index place) = Bit name index place ∷ []
leaves_at (layer.Part name left right place) = Part name left right place ∷ []
leaves_at (layer.Const word place) = Fixed word place ∷ []
leaves_at (layer.Concat parts) = flat_map (λ (part : List Leaf). part) parts

-- the leaves of an expression, the most significant first
abbrev pub leaves : Expr → List Leaf
leaves e = fold-Expr (List Leaf) leaves_at e

abbrev pub leaf_place : Leaf → Place
leaf_place (Net name place) = place
leaf_place (Bit name index place) = place
leaf_place (Part name left right place) = place
leaf_place (Fixed word place) = place
