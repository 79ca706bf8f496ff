-- How many bits expressions have.
use Rattle.std.proofs.Common.{◌≡◌, ℕ, ◌+◌, ◌^◌, ◌<◌, ◌≤◌, List, [], ◌∷◌, length, take, get_or, filter_map, sum_by, Option, Some, None, refl, ap, sym, ◌∙◌, arith, zero-add}
use Rattle.std.specs.List.{flat_map, cons_option}
use Rattle.std.specs.Option.{option_map_or}
use Rattle.std.proofs.lemmas.List.{take_all}
use Rattle.std.proofs.lemmas.List.Elements.{filter_map-append}
use Rattle.std.proofs.lemmas.List.Sums.{sum_by-append, sum_by-cons, sum_by_push}
use Rattle.ila_base.specs.declared.place.Place.{Place}
use Rattle.vlog_parse.specs.declared.tree.Expr.{Expr, fold-roll-Expr}
use Rattle.vlog_parse.specs.declared.tree.Expr.TheVariants.{Concat, Whole, rolls-Whole}
use Rattle.vlog_parse.specs.declared.tree.Expr.TheOpen as layer
use Rattle.vlog_parse.specs.declared.tree.Module.{Module}
use Rattle.vlog_parse.specs.Leaves.{Leaf, Net, leaves, leaves_at}
use Rattle.vlog_check.specs.Scope.{value_of, range_of, range_width, leaf_width, width_of}
use Rattle.vlog_check.proofs.LeastLaws.{take_step}
use Rattle.vlog_check.proofs.ReadingLaws.{leaves-Concat}
use Rattle.elab_scope.specs.declared.nets.Nets.{Nets}
use Rattle.elab_scope.specs.Nets.{AreNets}
use Rattle.elab_count.specs.Amounts.{saturated}

leaves-Whole : (name : List ℕ) (place : Place) → leaves (Whole name place) ≡ Net name place ∷ []
leaves-Whole name place = ap leaves (sym (rolls-Whole name place)) ∙ fold-roll-Expr (List Leaf) leaves_at (layer.Whole name place)

pub whole_width : (m : Module) (nets : Nets) (e : Expr) (own name : List ℕ) (place : Place) (r : ℕ) → AreNets m nets → e ≡ Whole name place → own ≡ name
    → r ≡ option_map_or range_width (value_of nets.ranges own) 0 → r ≤ 2 ^ 32 → r ≡ saturated (width_of m e)
whole_width m nets e own name place r are is same known small =
    let width : width_of m e ≡ r = ap (sum_by (leaf_width m)) (ap leaves is ∙ leaves-Whole name place) ∙ zero-add (leaf_width m (Net name place)) ∙ sym (known ∙ ap (λ o. option_map_or range_width o 0) (are.ranges own ∙ ap (range_of m) same)) in
    omega (arith, width, small)

sum_twice : (m : Module) (es : List Expr) → sum_by (leaf_width m) (flat_map leaves es) ≡ sum_by (width_of m) es
sum_twice m [] = refl
sum_twice m (e ∷ es) = sum_by-append (leaf_width m) (leaves e) (flat_map leaves es) ∙ ap (λ rest. width_of m e + rest) (sum_twice m es) ∙ sym (sum_by-cons (width_of m) e es)

-- the bits of a concatenation are those of its parts
pub concat_width : (m : Module) (e : Expr) (parts xs : List Expr) (i r : ℕ) → e ≡ Concat parts → xs ≡ parts → length xs ≤ i → r ≡ saturated (sum_by (width_of m) (take i xs)) → r ≡ saturated (width_of m e)
concat_width m e parts xs i r is same end are =
    are ∙ ap (λ n. saturated n) (ap (sum_by (width_of m)) (take_all i xs end ∙ same) ∙ sym (sum_twice m parts) ∙ ap (sum_by (leaf_width m)) (sym (leaves-Concat parts)) ∙ ap (width_of m) (sym is))

-- the bits of one more expression, and of one more pin

pub widths_more : (m : Module) (ys xs : List Expr) (i : ℕ) (e : Expr) → ys ≡ xs → i < length ys → e ≡ get_or ys i e
    → sum_by (width_of m) (take (i + 1) xs) ≡ sum_by (width_of m) (take i xs) + width_of m e
widths_more m ys xs i e same low is = ap (sum_by (width_of m)) (sym (take_step ys xs i e same low is)) ∙ sum_by_push (width_of m) (take i xs) e

abbrev pub pin_exprs : List (List ℕ × Option Expr) → List Expr
pin_exprs given = filter_map (λ (c : List ℕ × Option Expr). c.1) given

pub pins_more : (m : Module) (ys xs : List (List ℕ × Option Expr)) (i : ℕ) (c : List ℕ × Option Expr) → ys ≡ xs → i < length ys → c ≡ get_or ys i c
    → sum_by (width_of m) (pin_exprs (take (i + 1) xs)) ≡ sum_by (width_of m) (pin_exprs (take i xs)) + option_map_or (width_of m) c.1 0
pins_more m ys xs i c same low is =
    ap (λ zs. sum_by (width_of m) (pin_exprs zs)) (sym (take_step ys xs i c same low is))
    ∙ ap (sum_by (width_of m)) (filter_map-append (λ (d : List ℕ × Option Expr). d.1) (take i xs) (c ∷ []))
    ∙ sum_by-append (width_of m) (pin_exprs (take i xs)) (cons_option c.1 [])
    ∙ ap (λ n. sum_by (width_of m) (pin_exprs (take i xs)) + n) (by c.1)
  where
    by : (o : Option Expr) → sum_by (width_of m) (cons_option o []) ≡ option_map_or (width_of m) o 0
    by None = refl
    by (Some e) = zero-add (width_of m e)

pub pins_all : (m : Module) (ys xs : List (List ℕ × Option Expr)) (i : ℕ) → ys ≡ xs → length ys ≤ i → sum_by (width_of m) (pin_exprs (take i xs)) ≡ sum_by (width_of m) (pin_exprs xs)
pins_all m ys xs i same end = ap (λ zs. sum_by (width_of m) (pin_exprs zs)) (take_all i xs (omega (arith, ap length same, end)))
