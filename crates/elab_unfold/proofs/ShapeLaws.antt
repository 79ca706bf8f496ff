-- What is kept of the modules of a plan.
use Rattle.std.proofs.Common.{◌≡◌, ℕ, ◌+◌, ◌<◌, ◌≤◌, List, [], ◌∷◌, ◌++◌, length, map, take, drop, get_or, slice_get, Some, None, refl, ap, sym, subst, ◌∙◌, zero, suc, drop-cons, add-one, arith}
use Rattle.std.specs.Option.{option_map_or}
use Rattle.std.specs.Borrow.{Bor}
use Rattle.std.proofs.lemmas.List.{take_all, take-append-le}
use Rattle.std.proofs.lemmas.Option.{same_Some, slice_get-get_or, slice_get_within}
use Rattle.vlog_parse.specs.declared.tree.Module.{Module}
use Rattle.vlog_parse.specs.declared.tree.Item.{Item}
use Rattle.vlog_parse.specs.declared.tree.Inst.{Inst}
use Rattle.vlog_check.specs.Scope.{kind_of, OfModule}
use Rattle.vlog_check.proofs.LeastLaws.{at_index}
use Rattle.elab_design.specs.Order.{inner_module, module_in}
use Rattle.elab_unfold.specs.declared.shape.Own.{Own}
use Rattle.elab_unfold.specs.declared.shape.Own.TheVariants as owns
use Rattle.elab_unfold.specs.declared.shape.Step.TheVariants as steps
use Rattle.elab_unfold.specs.declared.shape.Step.{Step}
use Rattle.elab_unfold.specs.declared.shape.Shape.{Shape}
use Rattle.elab_unfold.specs.declared.shape.Plan.{Plan}
use Rattle.elab_unfold.specs.Shapes.{IsKept, IsShape, IsRight, IsStep, IsOwn, IsInside, own_item, item_of, design_of, shape_size, shape_depth, step_size, steps_size}

pub within : (plan : Plan) (n : ℕ) → IsKept plan n → n < length plan.shapes.items
within plan n kept = slice_get_within plan.shapes.items n kept.shape kept.shape_at

same_shape : (plan : Plan) (n : ℕ) (found d : Shape) (kept : IsKept plan n) → found ≡ get_or plan.shapes.items n d → found ≡ kept.shape
same_shape plan n found d kept is = is ∙ same_Some (get_or plan.shapes.items n d) kept.shape (sym (slice_get-get_or plan.shapes.items n d (within plan n kept)) ∙ kept.shape_at)

pub found_at : (plan : Plan) (n : ℕ) (found d : Shape) (kept : IsKept plan n) → found ≡ get_or plan.shapes.items n d → slice_get plan.shapes.items n ≡ Some found
found_at plan n found d kept is = kept.shape_at ∙ ap (λ s. Some s) (sym (same_shape plan n found d kept is))

right_at : (plan : Plan) (n : ℕ) (kept : IsKept plan n) → IsRight plan n kept.shape
right_at plan n kept = record {
  at = kept.at ∙ ap (λ m. Some m) (sym kept.right.holder);
  right = subst (λ m. IsShape plan m kept.shape) (sym kept.right.holder) kept.right;
}

pub found_right : (plan : Plan) (n : ℕ) (found d : Shape) (kept : IsKept plan n) → found ≡ get_or plan.shapes.items n d → IsRight plan n found
found_right plan n found d kept is = subst (IsRight plan n) (sym (same_shape plan n found d kept is)) (right_at plan n kept)

pub size_at : (plan : Plan) (n : ℕ) (shape : Shape) → slice_get plan.shapes.items n ≡ Some shape → shape_size plan n ≡ shape.size
size_at plan n shape at = ap (λ o. option_map_or (λ (s : Shape). s.size) o 0) at

pub depth_at : (plan : Plan) (n : ℕ) (shape : Shape) → slice_get plan.shapes.items n ≡ Some shape → shape_depth plan n ≡ shape.depth
depth_at plan n shape at = ap (λ o. option_map_or (λ (s : Shape). s.depth) o 0) at

-- Steps

module _ (plan : Plan) (n : ℕ) (shape : Shape) (kept : IsRight plan n shape) (ys : List Step) (k : ℕ) (step : Step) (same : ys ≡ shape.steps.items) (low : k < length ys) (is : step ≡ get_or ys k step) where
  known : IsStep plan (shape.places.holder.now) shape.depth step
  known = kept.right.each k step (at_index ys shape.steps.items k step same low is)

  pub own_known : (own : Own) → step ≡ steps.Own own → IsOwn plan.tree.now (shape.places.holder.now) own
  own_known own one = subst (IsStep plan (shape.places.holder.now) shape.depth) one known

  pub inside_known : (number : ℕ) (inst : Bor Inst) → step ≡ steps.Inside number inst → IsInside plan (shape.places.holder.now) shape.depth number inst.now
  inside_known number inst one = subst (IsStep plan (shape.places.holder.now) shape.depth) one known

  opened : drop k shape.steps.items ≡ step ∷ drop (k + 1) shape.steps.items
  opened =
      ap (drop k) (sym same) ∙ drop-cons ys k step low ∙ ap (λ x. x ∷ drop (suc k) ys) (sym is) ∙ ap (λ j. step ∷ drop j ys) (sym (add-one k)) ∙ ap (λ xs. step ∷ drop (k + 1) xs) same

  pub sizes_at : steps_size plan (drop k shape.steps.items) ≡ step_size plan step + steps_size plan (drop (k + 1) shape.steps.items)
  sizes_at = ap (steps_size plan) opened

  pub items_at : (item : Item) → item_of step ≡ item → map item_of (drop k shape.steps.items) ≡ item ∷ map item_of (drop (k + 1) shape.steps.items)
  items_at item one = ap (map item_of) opened ∙ ap (λ x. x ∷ map item_of (drop (k + 1) shape.steps.items)) one

pub own_none : (plan : Plan) (m : Module) (own : Own) → IsOwn plan.tree.now m own → inner_module (design_of plan) (own_item own) ≡ None
own_none plan m (owns.Assign target value) is = refl
own_none plan m (owns.Gate gate) is = refl
own_none plan m (owns.Leaf cell inst) is = ap module_in is.1

pub kind_known : (plan : Plan) (m holder : Module) (depth number : ℕ) (inst : Inst) → IsInside plan m depth number inst → slice_get plan.tree.now.modules number ≡ Some holder → kind_of plan.tree.now inst ≡ Some (OfModule holder)
kind_known plan m holder depth number inst inside at = inside.kind ∙ ap (λ x. Some (OfModule x)) (same_Some inside.inner holder (sym inside.at ∙ at))

pub truncated : (whole old more now : List ℕ) (end : ℕ) → end ≡ length old → whole ≡ old ++ more → now ≡ take end whole → now ≡ old
truncated whole old more now end long is cut = cut ∙ ap (λ n. take n whole) long ∙ ap (take (length old)) is ∙ take-append-le (length old) old more (omega arith) ∙ take_all (length old) old (omega arith)

drop_end : (xs : List Step) (k : ℕ) → length xs ≤ k → drop k xs ≡ []
drop_end [] zero end = refl
drop_end [] (suc k) end = refl
drop_end (x ∷ xs) zero end = absurd (omega (arith, end))
drop_end (x ∷ xs) (suc k) end = drop_end xs k (omega (arith, end))

pub items_end : (ys steps : List Step) (k : ℕ) → ys ≡ steps → length ys ≤ k → map item_of (drop k steps) ≡ []
items_end ys steps k same end = ap (map item_of) (drop_end steps k (omega (arith, end, ap length same)))
