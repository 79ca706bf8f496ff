-- What is kept of a module's nets, directions and steps, one by one.
use Rattle.std.proofs.Common.{◌≡◌, ℕ, zero, suc, ◌+◌, ◌<◌, ◌≤◌, Bool, true, false, cond, if◌then◌else◌, List, [], ◌∷◌, ◌++◌, length, map, filter, take, get_or, slice_get, Option, Some, None, ◌⊎◌, inl, inr, refl, ap, sym, subst, ◌∙◌, arith, add-zero, zero-add, length-append, IfSome}
use Rattle.std.specs.List.{cons_option}
use Rattle.std.specs.Option.{option_map, option_or}
use Rattle.std.specs.Str.{bytes_eq}
use Rattle.std.specs.Borrow.{Bor}
use Rattle.std.proofs.lemmas.List.{map_push, take_more, append_assoc}
use Rattle.std.proofs.lemmas.Option.{same_Some, slice_get-get_or}
use Rattle.net_core.proofs.ListLemmas.{slice_get_append, slice_get_left, slice_get_right}
use Rattle.net_core.specs.declared.parts.Group.{Group}
use Rattle.vlog_parse.specs.declared.tree.Tree.{Tree}
use Rattle.vlog_parse.specs.declared.tree.Module.{Module}
use Rattle.vlog_parse.specs.declared.tree.Dir.{Dir}
use Rattle.vlog_parse.specs.declared.tree.Range.{Range}
use Rattle.vlog_parse.specs.declared.tree.Item.{Item}
use Rattle.vlog_parse.specs.declared.tree.Item.TheVariants as items
use Rattle.vlog_check.specs.declared.names.Port.{Port}
use Rattle.vlog_check.specs.Scope.{value_of, directed, range_width}
use Rattle.vlog_check.proofs.LeastLaws.{at_index}
use Rattle.elab_count.specs.declared.amounts.Count.{Count}
use Rattle.elab_scope.specs.Nets.{rows_seen}
use Rattle.elab_unfold.specs.declared.places.Net.{Net}
use Rattle.elab_unfold.specs.declared.shape.Step.{Step}
use Rattle.elab_unfold.specs.declared.shape.Shape.{Shape}
use Rattle.elab_unfold.specs.Places.{NetRow, row_width, rows_width, net_from, group_from, groups_from}
use Rattle.elab_unfold.specs.Shapes.{item_of}
use Rattle.elab_unfold.specs.Steps.{directions_of, is_live, IsOf, IsStepOf, AreSteps, IsReadShape, AreShapes}

-- one more row

rows_step : (order : List (Bor (List ℕ) × Option Range)) (i : ℕ) (d : Bor (List ℕ) × Option Range) → i < length order
    → rows_seen (take (i + 1) order) ≡ rows_seen (take i order) ++ ((get_or order i d).0.now, (get_or order i d).1) ∷ []
rows_step order i d low = ap rows_seen (take_more order i d low) ∙ map_push (λ (row : Bor (List ℕ) × Option Range). (row.0.now, row.1)) (take i order) (get_or order i d)

width_push : (nets : List NetRow) (row : NetRow) → rows_width (nets ++ row ∷ []) ≡ rows_width nets + row_width row
width_push [] row = omega arith
width_push (net ∷ nets) row = omega (arith, width_push nets row)

width_take : (order : List (Bor (List ℕ) × Option Range)) (i : ℕ) → rows_width (rows_seen (take i order)) ≤ rows_width (rows_seen order)
width_take [] zero = omega arith
width_take [] (suc i) = omega arith
width_take (row ∷ order) zero = omega arith
width_take (row ∷ order) (suc i) = omega (arith, width_take order i)

from_push : (nets : List NetRow) (first : ℕ) (row : NetRow) (name : List ℕ)
    → net_from first (nets ++ row ∷ []) name ≡ option_or (net_from first nets name) (if bytes_eq name row.0 then Some (record { range = row.1; first = first + rows_width nets }) else None)
from_push [] first row name = ap (λ n. if bytes_eq name row.0 then Some (record { range = row.1; first = n }) else None) (sym (add-zero first))
from_push (net ∷ nets) first row name = by (bytes_eq name net.0) (from_push nets (first + row_width net) row name)
  where
    by : (b : Bool) → net_from (first + row_width net) (nets ++ row ∷ []) name ≡ option_or (net_from (first + row_width net) nets name) (if bytes_eq name row.0 then Some (record { range = row.1; first = (first + row_width net) + rows_width nets }) else None)
        → (if b then Some (record { range = net.1; first = first }) else net_from (first + row_width net) (nets ++ row ∷ []) name)
        ≡ option_or (if b then Some (record { range = net.1; first = first }) else net_from (first + row_width net) nets name) (if bytes_eq name row.0 then Some (record { range = row.1; first = first + (row_width net + rows_width nets) }) else None)
    by true rest = refl
    by false rest =
        let same : (first + row_width net) + rows_width nets ≡ first + (row_width net + rows_width nets) = omega arith in
        rest ∙ ap (λ n. option_or (net_from (first + row_width net) nets name) (if bytes_eq name row.0 then Some (record { range = row.1; first = n }) else None)) same

module _ (order : List (Bor (List ℕ) × Option Range)) (i : ℕ) (d : Bor (List ℕ) × Option Range) where
  pub first_step : (first width : ℕ) → i < length order → first ≡ rows_width (rows_seen (take i order)) → width ≡ range_width (get_or order i d).1 → first + width ≡ rows_width (rows_seen (take (i + 1) order))
  first_step first width low is wide = omega (arith, is, wide, ap rows_width (rows_step order i d low), width_push (rows_seen (take i order)) ((get_or order i d).0.now, (get_or order i d).1))

  pub first_room : (first width : ℕ) → i < length order → first ≡ rows_width (rows_seen (take i order)) → width ≡ range_width (get_or order i d).1 → first + width ≤ rows_width (rows_seen order)
  first_room first width low is wide = omega (arith, first_step first width low is wide, width_take order (i + 1))

  pub place_step : (first : ℕ) (old new : List (List ℕ × Net)) → i < length order → first ≡ rows_width (rows_seen (take i order))
      → ((name : List ℕ) → value_of old name ≡ net_from 0 (rows_seen (take i order)) name)
      → ((other : List ℕ) → value_of new other ≡ option_or (value_of old other) (value_of (((get_or order i d).0.now, record { range = (get_or order i d).1; first = first }) ∷ []) other))
      → (name : List ℕ) → value_of new name ≡ net_from 0 (rows_seen (take (i + 1) order)) name
  place_step first old new low is said put name =
      put name
      ∙ ap (λ o. option_or o (value_of (((get_or order i d).0.now, record { range = (get_or order i d).1; first = first }) ∷ []) name)) (said name)
      ∙ ap (λ n. option_or (net_from 0 (rows_seen (take i order)) name) (if bytes_eq name (get_or order i d).0.now then Some (record { range = (get_or order i d).1; first = n }) else None)) (is ∙ sym (zero-add (rows_width (rows_seen (take i order)))))
      ∙ sym (from_push (rows_seen (take i order)) 0 ((get_or order i d).0.now, (get_or order i d).1) name)
      ∙ ap (λ nets. net_from 0 nets name) (sym (rows_step order i d low))

  pub width_step : (base old new : ℕ) → i < length order → old ≡ base + rows_width (rows_seen (take i order)) → new ≡ old + range_width (get_or order i d).1 → new ≡ base + rows_width (rows_seen (take (i + 1) order))
  width_step base old new low was is = omega (arith, was, is, ap rows_width (rows_step order i d low), width_push (rows_seen (take i order)) ((get_or order i d).0.now, (get_or order i d).1))

  pub width_room : (base old : ℕ) → i < length order → old ≡ base + rows_width (rows_seen (take i order)) → old + range_width (get_or order i d).1 ≤ base + rows_width (rows_seen order)
  width_room base old low was = omega (arith, width_step base old (old + range_width (get_or order i d).1) low was refl, width_take order (i + 1))

groups_push : (prefix : List ℕ) (nets : List NetRow) (first : ℕ) (row : NetRow) → groups_from prefix first (nets ++ row ∷ []) ≡ groups_from prefix first nets ++ group_from prefix (first + rows_width nets) row ∷ []
groups_push prefix [] first row = ap (λ n. group_from prefix n row ∷ []) (sym (add-zero first))
groups_push prefix (net ∷ nets) first row =
    let same : (first + row_width net) + rows_width nets ≡ first + (row_width net + rows_width nets) = omega arith in
    ap (λ rest. group_from prefix first net ∷ rest) (groups_push prefix nets (first + row_width net) row ∙ ap (λ n. groups_from prefix (first + row_width net) nets ++ group_from prefix n row ∷ []) same)

pub group_step : (order : List (Bor (List ℕ) × Option Range)) (i : ℕ) (d : Bor (List ℕ) × Option Range) (prefix now : List ℕ) (base nets : ℕ) (old was new : List Group) → i < length order → now ≡ prefix
    → nets ≡ base + rows_width (rows_seen (take i order)) → was ≡ old ++ groups_from prefix base (rows_seen (take i order)) → new ≡ was ++ group_from now nets ((get_or order i d).0.now, (get_or order i d).1) ∷ []
    → new ≡ old ++ groups_from prefix base (rows_seen (take (i + 1) order))
group_step order i d prefix now base nets old was new low same count had is =
    is ∙ ap (λ groups. groups ++ group_from now nets row ∷ []) had
    ∙ append_assoc old (groups_from prefix base (rows_seen (take i order))) (group_from now nets row ∷ [])
    ∙ ap (λ groups. old ++ groups)
    (ap (λ p. groups_from prefix base (rows_seen (take i order)) ++ group_from p nets row ∷ []) same
    ∙ ap (λ n. groups_from prefix base (rows_seen (take i order)) ++ group_from prefix n row ∷ []) count
    ∙ sym (groups_push prefix (rows_seen (take i order)) base row)
    ∙ ap (groups_from prefix base) (sym (rows_step order i d low)))
  where
    row : NetRow
    row = ((get_or order i d).0.now, (get_or order i d).1)

-- directions

pub directions_are : (given : List Item) (name : List ℕ) → value_of (directions_of given) name ≡ option_map (λ (port : Port). port.dir) (value_of (directed given) name)
directions_are [] name = refl
directions_are (items.Net d ∷ given) name = by d.dir (directions_are given name)
  where
    inner : (dir : Dir) (b : Bool) → value_of (directions_of given) name ≡ option_map (λ (port : Port). port.dir) (value_of (directed given) name)
        → cond b (Some dir) (value_of (directions_of given) name) ≡ option_map (λ (port : Port). port.dir) (cond b (Some (record { dir = dir; range = d.range })) (value_of (directed given) name))
    inner dir true rest = refl
    inner dir false rest = rest

    by : (o : Option Dir) → value_of (directions_of given) name ≡ option_map (λ (port : Port). port.dir) (value_of (directed given) name)
        → value_of (cons_option (option_map (λ (dir : Dir). (d.name, dir)) o) (directions_of given)) name
        ≡ option_map (λ (port : Port). port.dir) (value_of (cons_option (option_map (λ (dir : Dir). (d.name, record { dir = dir; range = d.range })) o) (directed given)) name)
    by None rest = rest
    by (Some dir) rest = inner dir (bytes_eq name d.name) rest
directions_are (items.Assign target value ∷ given) name = directions_are given name
directions_are (items.Gate g ∷ given) name = directions_are given name
directions_are (items.Inst inst ∷ given) name = directions_are given name

-- steps

filter_push : (p : Item → Bool) (given : List Item) (item : Item) → p item ≡ true → filter p (given ++ item ∷ []) ≡ filter p given ++ item ∷ []
filter_push p [] item is = ap (λ b. cond b (item ∷ []) []) is
filter_push p (x ∷ given) item is = by (p x) (filter_push p given item is)
  where
    by : (b : Bool) → filter p (given ++ item ∷ []) ≡ filter p given ++ item ∷ [] → cond b (x ∷ filter p (given ++ item ∷ [])) (filter p (given ++ item ∷ [])) ≡ cond b (x ∷ filter p given) (filter p given) ++ item ∷ []
    by true rest = ap (λ xs. x ∷ xs) rest
    by false rest = rest

pub steps_more : (tree : Tree) (table : List (Option Count)) (given : List Item) (item : Item) (old new : List Step) (step : Step) → AreSteps tree table given old → IsStepOf tree table item step → new ≡ old ++ step ∷ [] → AreSteps tree table (given ++ item ∷ []) new
steps_more tree table given item old new step steps one is = record {
  listed = ap (map item_of) is ∙ map_push item_of old step ∙ ap (λ x. map item_of old ++ x ∷ []) one.same ∙ ap (λ xs. xs ++ item ∷ []) steps.listed ∙ sym (filter_push (is_live tree table) given item one.live);
  each = λ k other at. elim (slice_get_append old (step ∷ []) k other (ap (λ xs. slice_get xs k) (sym is) ∙ at)) [ inl here ↦ steps.each k other here | inr last ↦ last_one other last.0 last.2 ];
}
  where
    last_one : (other : Step) (j : ℕ) → slice_get (step ∷ []) j ≡ Some other → IsOf tree other
    last_one other zero at = subst (IsOf tree) (same_Some step other at) one.kind
    last_one other (suc j) at = absurd (cc at)

-- shapes

pub shapes_step : (tree : Tree) (table : List (Option Count)) (ys : List Module) (k : ℕ) (m : Module) (d : Option Count) (old new : List Shape) (shape : Shape) → ys ≡ tree.modules → k < length ys → m ≡ get_or ys k m → k < length table
    → length old ≡ k → AreShapes tree table k old → IfSome (get_or table k d) (λ c. IsReadShape tree table m c shape) → new ≡ old ++ shape ∷ [] → (length new ≡ k + 1) × AreShapes tree table (k + 1) new
shapes_step tree table ys k m d old new shape same low is within long shapes read pushed = (ap length pushed ∙ length-append old (shape ∷ []) ∙ omega (arith, long), each)
  where
    order : (n : ℕ) → n < k + 1 → (n < k) ⊎ (n ≡ k)
    order n below = grind arith

    here : (n : ℕ) (other : Module) (c : Count) → n ≡ k → slice_get tree.modules n ≡ Some other → slice_get table n ≡ Some (Some c) → IsReadShape tree table other c shape
    here n other c e at there =
        let own : m ≡ other = same_Some m other (sym (at_index ys tree.modules k m same low is) ∙ ap (slice_get tree.modules) (sym e) ∙ at) in
        let entry : get_or table k d ≡ Some c = same_Some (get_or table k d) (Some c) (sym (slice_get-get_or table k d within) ∙ ap (slice_get table) (sym e) ∙ there) in
        let found : IsReadShape tree table m c shape = subst (λ o. IfSome o (λ x. IsReadShape tree table m x shape)) entry read in
        subst (λ x. IsReadShape tree table x c shape) own found

    each : AreShapes tree table (k + 1) new
    each n other c below at there = elim (order n below) [
      | inl early ↦ (let found = shapes n other c early at there in (found.0, ap (λ xs. slice_get xs n) pushed ∙ slice_get_left old (shape ∷ []) n found.0 found.1, found.2))
      | inr last ↦ (shape, ap (λ xs. slice_get xs n) pushed ∙ slice_get_right old (shape ∷ []) n 0 shape (omega (arith, last, long)) refl, here n other c last at there)
    ]
