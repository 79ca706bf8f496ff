-- Where the fields of the inputs stand in a row, and how long a line can be.
use Rattle.std.proofs.Common.{◌≡◌, ◌≢◌, ℕ, ◌+◌, ◌<◌, ◌≤◌, ◌⊎◌, inl, inr, List, [], ◌∷◌, ◌++◌, length, take, get_or, All, refl, sym, ◌∙◌, ap, subst, arith, suc, zero}
use Rattle.std.specs.Prelude.{sum}
use Rattle.std.proofs.lemmas.Bool.{cases_eq, cases_order, cases_lt}
use Rattle.std.proofs.lemmas.List.{length-map, get_or-map, get_or_at, get_or_append_left, take-take}
use Rattle.std.proofs.lemmas.List.Sums.{sum_by_more, sum_by_more_le, sum_by-take-le}
use Rattle.stim_read.specs.declared.inputs.DataInput.{DataInput}
use Rattle.stim_read.specs.declared.inputs.Field.{Field}
use Rattle.stim_read.specs.Stimulus.{widths_of, field_at, fields_of, IsOrder}
use Rattle.stim_read.specs.Words.{Apart, AllApart, AllFit}
use Rattle.stim_read.proofs.NumberLaws.{mentions, mentions_here, mentions_other}
use Rattle.stim_read.proofs.Tails.{no_field}

-- the width of the k-th input
pub width_is : (inputs : List DataInput) (k : ℕ) (input : DataInput) → k < length inputs → input ≡ get_or inputs k input → input.width ≡ get_or (widths_of inputs) k 0
width_is inputs k input within is = ap (λ i. i.width) is ∙ sym (get_or-map (λ i. i.width) inputs k input 0 within)

-- One field more was put behind those so far.
pub field_more : (widths : List ℕ) (i place width : ℕ) (fields new : List Field) → i < length widths → length fields ≡ i → place ≡ sum (take i widths)
    → width ≡ get_or widths i 0 → new ≡ fields ++ (record { place = place; width = width }) ∷ []
    → ((k : ℕ) → k < i → get_or fields k no_field ≡ field_at widths k) → (k : ℕ) → k < i + 1 → get_or new k no_field ≡ field_at widths k
field_more widths i place width fields new within long stands wide made each k below = by_place (cases_eq k i)
  where
    by_place : (k ≡ i) ⊎ (k ≢ i) → get_or new k no_field ≡ field_at widths k
    by_place (inl here) =
        ap (λ fs. get_or fs k no_field) made ∙ get_or_at fields (record { place = place; width = width }) [] no_field k (long ∙ sym here)
        ∙ ap (λ p. record { place = p; width = width }) stands ∙ ap (λ w. record { place = sum (take i widths); width = w }) wide
        ∙ ap (λ n. field_at widths n) (sym here)
    by_place (inr before) =
        ap (λ fs. get_or fs k no_field) made ∙ get_or_append_left fields ((record { place = place; width = width }) ∷ []) no_field k (omega arith)
        ∙ each k (omega arith)

pub place_more : (widths : List ℕ) (i place width next : ℕ) → i < length widths → place ≡ sum (take i widths) → width ≡ get_or widths i 0
    → next ≡ place + width → next ≡ sum (take (i + 1) widths)
place_more widths i place width next within stands wide added = omega (arith, sum_by_more (λ x. x) widths i 0 within)

-- Each field lies within the row.
pub fields_fit : (widths order : List ℕ) → All (λ k. k < length widths) order → AllFit (fields_of widths order) (sum widths)
fields_fit widths order within = λ i d inside.
    let here : i < length order = omega (arith, inside, length-map order (field_at widths)) in
    let k : ℕ = get_or order i 0 in
    let is : get_or (fields_of widths order) i d ≡ field_at widths k = get_or-map (field_at widths) order i 0 d here in
    let bound : sum (take k widths) + get_or widths k 0 ≤ sum widths = sum_by_more_le (λ x. x) widths k 0 (within i 0 here) in
    subst (λ field. field.place + field.width ≤ sum widths) (sym is) bound

-- Two inputs share no bit.
inputs_apart : (widths : List ℕ) (j k : ℕ) → j < length widths → k < length widths → j ≢ k → Apart (field_at widths j) (field_at widths k)
inputs_apart widths j k within inside apart begins = by_order (cases_order j k)
  where
    ends_before : (a b : ℕ) → a < length widths → a < b → sum (take a widths) + get_or widths a 0 ≤ sum (take b widths)
    ends_before a b here less =
        let next : sum (take (a + 1) widths) ≡ sum (take a widths) + get_or widths a 0 = sum_by_more (λ x. x) widths a 0 here in
        let front : take (a + 1) (take b widths) ≡ take (a + 1) widths = take-take (a + 1) b widths (omega arith) in
        let most : sum (take (a + 1) (take b widths)) ≤ sum (take b widths) = sum_by-take-le (λ x. x) (take b widths) (a + 1) in
        omega (arith, ap (λ xs. sum xs) front)

    by_order : (j ≡ k) ⊎ ((j < k) ⊎ (k < j)) → sum (take k widths) + get_or widths k 0 ≤ sum (take j widths)
    by_order (inl same) = absurd (apart same)
    by_order (inr (inl below)) = absurd (omega (arith, ends_before j k within below, begins))
    by_order (inr (inr above)) = ends_before k j inside above

some_mention : (order : List ℕ) (i : ℕ) → i < length order → 1 ≤ mentions (get_or order i 0) order
some_mention [] i within = absurd (omega arith)
some_mention (x ∷ order) zero within = omega (arith, mentions_here x x order refl)
some_mention (x ∷ order) (suc i) within =
    let later : 1 ≤ mentions (get_or order i 0) order = some_mention order i (omega arith) in
    by_head (cases_eq x (get_or order i 0)) later
  where
    by_head : (x ≡ get_or order i 0) ⊎ (x ≢ get_or order i 0) → 1 ≤ mentions (get_or order i 0) order → 1 ≤ mentions (get_or order i 0) (x ∷ order)
    by_head (inl same) later = omega (arith, mentions_here x (get_or order i 0) order same)
    by_head (inr apart) later = omega (arith, mentions_other x (get_or order i 0) order apart)

pub tail_once : (x : ℕ) (order : List ℕ) (q : ℕ) → mentions q (x ∷ order) ≤ 1 → mentions q order ≤ 1
tail_once x order q once = by_head (cases_eq x q)
  where
    by_head : (x ≡ q) ⊎ (x ≢ q) → mentions q order ≤ 1
    by_head (inl same) = omega (arith, mentions_here x q order same)
    by_head (inr apart) = omega (arith, mentions_other x q order apart)

-- An order has no number twice.
distinct_at : (order : List ℕ) (j k : ℕ) → ((q : ℕ) → mentions q order ≤ 1) → j < k → k < length order → get_or order j 0 ≢ get_or order k 0
distinct_at [] j k once before within same = absurd (omega arith)
distinct_at (x ∷ order) j zero once before within same = absurd (omega arith)
distinct_at (x ∷ order) zero (suc k) once before within same =
    let inside : k < length order = omega arith in
    let again : 1 ≤ mentions x order = subst (λ q. 1 ≤ mentions q order) (sym same) (some_mention order k inside) in
    let most : mentions x (x ∷ order) ≤ 1 = once x in absurd (omega (arith, mentions_here x x order refl))
distinct_at (x ∷ order) (suc j) (suc k) once before within same =
    distinct_at order j k (λ q. tail_once x order q (once q)) (omega arith) (omega arith) same

-- No two fields share a bit.
pub fields_apart : (widths order : List ℕ) → All (λ k. k < length widths) order → ((q : ℕ) → mentions q order ≤ 1) → AllApart (fields_of widths order)
fields_apart widths order within once = λ j k d before inside.
    let here : k < length order = omega (arith, inside, length-map order (field_at widths)) in
    let first : get_or (fields_of widths order) j d ≡ field_at widths (get_or order j 0) = get_or-map (field_at widths) order j 0 d (omega arith) in
    let second : get_or (fields_of widths order) k d ≡ field_at widths (get_or order k 0) = get_or-map (field_at widths) order k 0 d here in
    subst (λ f. Apart f (get_or (fields_of widths order) k d)) (sym first)
    (subst (λ f. Apart (field_at widths (get_or order j 0)) f) (sym second)
    (inputs_apart widths (get_or order j 0) (get_or order k 0) (within j 0 (omega arith)) (within k 0 here) (distinct_at order j k once before here)))

-- A number that is mentioned at all is mentioned once, so none is twice.
pub at_most_once : (count : ℕ) (order : List ℕ) → IsOrder count order → (q : ℕ) → mentions q order ≤ 1
at_most_once count order is_order q = by_place (cases_lt q count)
  where
    never : (order : List ℕ) → All (λ k. k < count) order → count ≤ q → mentions q order ≡ 0
    never [] within beyond = refl
    never (x ∷ order) within beyond =
        let small : x < count = within 0 x (omega arith) in
        mentions_other x q order (λ same. absurd (omega arith)) ∙ never order (λ k d inside. within (suc k) d (omega arith)) beyond

    by_place : (q < count) ⊎ (count ≤ q) → mentions q order ≤ 1
    by_place (inl below) = omega (arith, is_order.once q below)
    by_place (inr beyond) = omega (arith, never order is_order.within beyond)
