-- The leaves of each kind of expression.
use Rattle.std.specs.Prelude.{◌≡◌, refl, ℕ, List, [], ◌∷◌, ◌++◌, map}
use Rattle.std.specs.List.{flat_map}
use Rattle.std.proofs.Common.{sym, ◌∙◌, ap}
use Rattle.ila_base.specs.declared.place.Place.{Place}
use Rattle.ila_base.specs.declared.place.Word.{Word}
use Rattle.vlog_parse.specs.declared.tree.Expr.{Expr, fold-roll-Expr}
use Rattle.vlog_parse.specs.declared.tree.Expr.TheVariants.{Whole, Bit, Part, Const, Concat, rolls-Whole, rolls-Bit, rolls-Part, rolls-Const, rolls-Concat}
use Rattle.vlog_parse.specs.declared.tree.Expr.TheOpen as layer
use Rattle.vlog_parse.specs.Leaves.{Leaf, Net as NetLeaf, Bit as BitLeaf, Part as PartLeaf, Fixed as FixedLeaf, leaves, leaves_at}

pub leaves-Whole : (name : List ℕ) (place : Place) → leaves (Whole name place) ≡ NetLeaf name place ∷ []
leaves-Whole name place = ap leaves (sym (rolls-Whole name place)) ∙ fold-roll-Expr (List Leaf) leaves_at (layer.Whole name place)

pub leaves-Bit : (name : List ℕ) (index : ℕ) (place : Place) → leaves (Bit name index place) ≡ BitLeaf name index place ∷ []
leaves-Bit name index place = ap leaves (sym (rolls-Bit name index place)) ∙ fold-roll-Expr (List Leaf) leaves_at (layer.Bit name index place)

pub leaves-Part : (name : List ℕ) (left right : ℕ) (place : Place) → leaves (Part name left right place) ≡ PartLeaf name left right place ∷ []
leaves-Part name left right place = ap leaves (sym (rolls-Part name left right place)) ∙ fold-roll-Expr (List Leaf) leaves_at (layer.Part name left right place)

pub leaves-Const : (word : Word) (place : Place) → leaves (Const word place) ≡ FixedLeaf word place ∷ []
leaves-Const word place = ap leaves (sym (rolls-Const word place)) ∙ fold-roll-Expr (List Leaf) leaves_at (layer.Const word place)

flat_map_map : {X Y : Type 0} (f : X → List Y) (xs : List X) → flat_map (λ (ys : List Y). ys) (map f xs) ≡ flat_map f xs
flat_map_map f [] = refl
flat_map_map f (x ∷ xs) = ap (λ rest. f x ++ rest) (flat_map_map f xs)

-- the leaves of a concatenation are those of its parts
pub leaves-Concat : (parts : List Expr) → leaves (Concat parts) ≡ flat_map leaves parts
leaves-Concat parts = ap leaves (sym (rolls-Concat parts)) ∙ (fold-roll-Expr (List Leaf) leaves_at (layer.Concat parts) ∙ flat_map_map leaves parts)
