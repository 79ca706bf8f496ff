-- Bounds on the expressions of instances.
use Rattle.std.proofs.Common.{◌≡◌, ℕ, zero, suc, List, [], ◌∷◌, filter_map, slice_get, Option, Some, None, ap, sym, ◌∙◌}
use Rattle.std.specs.List.{cons_option}
use Rattle.std.proofs.lemmas.Option.{same_Some, none-some}
use Rattle.vlog_parse.specs.declared.tree.Conns.{Conns}
use Rattle.vlog_parse.specs.declared.tree.Conns.TheVariants.{ByName, ByPlace}
use Rattle.vlog_parse.specs.declared.tree.Expr.{Expr}
use Rattle.vlog_parse.specs.ReadTree.{connected_exprs}
use Rattle.vlog_check.specs.Kinds.{AreFewNamed}
use Rattle.vlog_check.specs.Names.{AreFew}

behind : (o : Option Expr) (rest : List Expr) (j : ℕ) (e : Expr) → slice_get rest j ≡ Some e → (k : ℕ) × (slice_get (cons_option o rest) k ≡ Some e)
behind None rest j e at = (j, at)
behind (Some y) rest j e at = (suc j, at)

filter_at : (xs : List (List ℕ × Option Expr)) (k : ℕ) (c : List ℕ × Option Expr) (e : Expr) → slice_get xs k ≡ Some c → c.1 ≡ Some e → (j : ℕ) × (slice_get (filter_map (λ (x : List ℕ × Option Expr). x.1) xs) j ≡ Some e)
filter_at [] k c e at is = absurd (none-some c at)
filter_at (x ∷ xs) zero c e at is = (0, ap (λ o. slice_get (cons_option o (filter_map (λ (y : List ℕ × Option Expr). y.1) xs)) 0) (ap (λ (y : List ℕ × Option Expr). y.1) (same_Some x c at) ∙ is))
filter_at (x ∷ xs) (suc k) c e at is = let h = filter_at xs k c e at is in behind x.1 (filter_map (λ (y : List ℕ × Option Expr). y.1) xs) h.0 e h.1

pub few_named : (conns : Conns) (given ys : List (List ℕ × Option Expr)) → conns ≡ ByName given → ys ≡ given → AreFew (connected_exprs conns) → AreFewNamed ys
few_named conns given ys is same few k c e at own =
    let place = filter_at given k c e (ap (λ zs. slice_get zs k) (sym same) ∙ at) own in
    few place.0 e (ap (λ cs. slice_get (connected_exprs cs) place.0) is ∙ place.1)

pub few_placed : (conns : Conns) (given ys : List Expr) → conns ≡ ByPlace given → ys ≡ given → AreFew (connected_exprs conns) → AreFew ys
few_placed conns given ys is same few k e at = few k e (ap (λ cs. slice_get (connected_exprs cs) k) is ∙ ap (λ zs. slice_get zs k) (sym same) ∙ at)
