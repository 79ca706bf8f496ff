-- How long the line of a header or of a row can be.
use Rattle.std.proofs.Common.{◌≡◌, ◌≢◌, ℕ, ◌+◌, ◌<◌, ◌≤◌, ◌⊎◌, inl, inr, Bool, List, [], ◌∷◌, map, length, get_or, set, All, refl, sym, ◌∙◌, ap, subst, arith, suc, length-append}
use Rattle.std.specs.Prelude.{sum, sum_by}
use Rattle.std.specs.List.{join_with_byte}
use Rattle.std.proofs.lemmas.Bool.{cases_eq}
use Rattle.std.proofs.lemmas.List.{length-map, get_or-map, length-set}
use Rattle.std.proofs.Common.{get_or-set_other}
use Rattle.std.proofs.lemmas.List.Sums.{sum_by-append, sum_by-set, sum-map}
use Rattle.stim_read.specs.declared.inputs.DataInput.{DataInput}
use Rattle.stim_read.specs.declared.inputs.Field.{Field}
use Rattle.stim_read.specs.Stimulus.{space, names_of, widths_of, name_at, field_at, fields_of, digits_of, IsOrder, IsHeader, IsRow, Spell}
use Rattle.stim_read.proofs.NumberLaws.{mentions, mentions_here, mentions_other}
use Rattle.stim_read.proofs.Stand.{at_most_once, tail_once}

-- the sum over a list is that of its first and of the others
sum_by-cons : {X : Type 0} (f : X → ℕ) (x : X) (xs : List X) → sum_by f (x ∷ xs) ≡ f x + sum_by f xs
sum_by-cons f x xs = let one : sum_by f (x ∷ []) ≡ 0 + f x = refl in omega (arith, sum_by-append f (x ∷ []) xs)

sum_by-map : {X Y : Type 0} (f : Y → ℕ) (g : X → Y) (xs : List X) → sum_by f (map g xs) ≡ sum_by (λ x. f (g x)) xs
sum_by-map f g [] = refl
sum_by-map f g (x ∷ xs) =
    sum_by-cons f (g x) (map g xs) ∙ ap (λ n. f (g x) + n) (sum_by-map f g xs) ∙ sym (sum_by-cons (λ y. f (g y)) x xs)

-- the values at the numbers of an order
abbrev pub sum_at : List ℕ → List ℕ → ℕ
sum_at values order = sum_by (λ k. get_or values k 0) order

not_mentioned : (x : ℕ) (order : List ℕ) → mentions x order ≡ 0 → (values : List ℕ) → sum_at (set values x 0) order ≡ sum_at values order
not_mentioned x [] never values = refl
not_mentioned x (y ∷ order) never values = by_head (cases_eq y x) (λ later. not_mentioned x order later values)
  where
    by_head : (y ≡ x) ⊎ (y ≢ x) → (mentions x order ≡ 0 → sum_at (set values x 0) order ≡ sum_at values order)
        → sum_at (set values x 0) (y ∷ order) ≡ sum_at values (y ∷ order)
    by_head (inl same) again = absurd (omega (arith, mentions_here y x order same, never))
    by_head (inr apart) again =
        let later : mentions x order ≡ 0 = sym (mentions_other y x order apart) ∙ never in
        let rest : sum_at (set values x 0) order ≡ sum_at values order = again later in
        let here : get_or (set values x 0) y 0 ≡ get_or values y 0 = get_or-set_other values x y 0 0 apart in
        sum_by-cons (λ k. get_or (set values x 0) k 0) y order ∙ ap (λ n. n + sum_at (set values x 0) order) here
        ∙ ap (λ n. get_or values y 0 + n) rest ∙ sym (sum_by-cons (λ k. get_or values k 0) y order)

-- The values at numbers of which none is twice are at most all values.
pub order_sum : (order values : List ℕ) → All (λ k. k < length values) order → ((q : ℕ) → mentions q order ≤ 1) → sum_at values order ≤ sum values
order_sum [] values within once = omega arith
order_sum (x ∷ order) values within once =
    let small : x < length values = within 0 x (omega arith) in
    let most : mentions x (x ∷ order) ≤ 1 = once x in
    let never : mentions x order ≡ 0 = omega (arith, mentions_here x x order refl) in
    let rest : sum_at (set values x 0) order ≤ sum (set values x 0) =
    order_sum order (set values x 0) (λ k d inside. subst (λ n. get_or order k d < n) (sym (length-set values x 0)) (within (suc k) d (omega arith)))
    (λ q. tail_once x order q (once q)) in
    let taken : sum (set values x 0) + get_or values x 0 ≡ sum values + 0 = sum_by-set (λ n. n) values x 0 0 small in
    omega (arith, sum_by-cons (λ k. get_or values k 0) x order, not_mentioned x order never values)

-- Joined words are shorter than their bytes and one more for each.
pub join_short : (words : List (List ℕ)) (room : ℕ) → 1 ≤ room → sum_by (λ word. length word + 1) words ≤ room → length (join_with_byte space words) < room
join_short [] room some fits = omega arith
join_short (word ∷ []) room some fits = omega (arith, sum_by-cons (λ (w : List ℕ). length w + 1) word [])
join_short (word ∷ next ∷ words) room some fits =
    let all : sum_by (λ (w : List ℕ). length w + 1) (word ∷ next ∷ words) ≡ (length word + 1) + sum_by (λ (w : List ℕ). length w + 1) (next ∷ words) =
    sum_by-cons (λ (w : List ℕ). length w + 1) word (next ∷ words) in
    let more : sum_by (λ (w : List ℕ). length w + 1) (next ∷ words) ≡ (length next + 1) + sum_by (λ (w : List ℕ). length w + 1) words =
    sum_by-cons (λ (w : List ℕ). length w + 1) next words in
    let rest : length (join_with_byte space (next ∷ words)) < sum_by (λ (w : List ℕ). length w + 1) (next ∷ words) =
    join_short (next ∷ words) (sum_by (λ (w : List ℕ). length w + 1) (next ∷ words)) (omega arith) (omega arith) in
    omega (arith, length-append word (space ∷ join_with_byte space (next ∷ words)))

names_sum : (names : List (List ℕ)) (order : List ℕ) → All (λ k. k < length names) order
    → sum_by (λ word. length word + 1) (map (name_at names) order) ≡ sum_at (map (λ name. length name + 1) names) order
names_sum names [] within = refl
names_sum names (k ∷ order) within =
    let small : k < length names = within 0 k (omega arith) in
    let here : get_or (map (λ (name : List ℕ). length name + 1) names) k 0 ≡ length (name_at names k) + 1 = get_or-map (λ name. length name + 1) names k [] 0 small in
    sum_by-cons (λ (w : List ℕ). length w + 1) (name_at names k) (map (name_at names) order)
    ∙ ap (λ n. (length (name_at names k) + 1) + n) (names_sum names order (λ j d inside. within (suc j) d (omega arith)))
    ∙ ap (λ n. n + sum_at (map (λ (name : List ℕ). length name + 1) names) order) (sym here)
    ∙ sym (sum_by-cons (λ j. get_or (map (λ (name : List ℕ). length name + 1) names) j 0) k order)

-- A header is shorter than the room for it.
pub header_short : (inputs : List DataInput) (order line : List ℕ) (room : ℕ) → sum_by (λ input. length input.name + 1) inputs ≤ room → 1 ≤ room
    → IsHeader (names_of inputs) order line → length line < room
header_short inputs order line room fits some is_header =
    let names : List (List ℕ) = names_of inputs in
    let values : List ℕ = map (λ (name : List ℕ). length name + 1) (names_of inputs) in
    let within : All (λ k. k < length values) order =
    λ k d inside. omega (arith, is_header.each.within k d inside, length-map (names_of inputs) (λ (name : List ℕ). length name + 1)) in
    let most : sum_at values order ≤ sum values = order_sum order values within (at_most_once (length names) order is_header.each) in
    let total : sum values ≡ sum_by (λ input. length input.name + 1) inputs =
    sum-map (λ (name : List ℕ). length name + 1) (names_of inputs) ∙ sum_by-map (λ (name : List ℕ). length name + 1) (λ (input : DataInput). input.name) inputs in
    let bytes : sum_by (λ word. length word + 1) (map (name_at names) order) ≤ room =
    omega (arith, names_sum names order is_header.each.within) in
    subst (λ xs. length xs < room) (sym is_header.joined) (join_short (map (name_at names) order) room some bytes)

words_sum : (words : List (List ℕ)) (fields : List Field) (row : List Bool) → Spell words fields row
    → sum_by (λ word. length word + 1) words ≡ sum_by (λ field. digits_of field.width + 1) fields
words_sum [] [] row spelled = refl
words_sum [] (field ∷ fields) row spelled = absurd spelled
words_sum (word ∷ words) [] row spelled = absurd spelled
words_sum (word ∷ words) (field ∷ fields) row spelled =
    let good = spelled.0 in
    let rest : sum_by (λ (w : List ℕ). length w + 1) words ≡ sum_by (λ (f : Field). digits_of f.width + 1) fields = words_sum words fields row spelled.2 in
    sum_by-cons (λ (w : List ℕ). length w + 1) word words ∙ ap (λ n. (n + 1) + sum_by (λ (w : List ℕ). length w + 1) words) good.digits
    ∙ ap (λ n. (digits_of field.width + 1) + n) rest ∙ sym (sum_by-cons (λ (f : Field). digits_of f.width + 1) field fields)

-- A row's line is shorter than the room for it.
pub row_short : (fields : List Field) (size : ℕ) (line : List ℕ) (row : List Bool) (room : ℕ) → sum_by (λ field. digits_of field.width + 1) fields ≤ room → 1 ≤ room
    → IsRow fields size line row → length line < room
row_short fields size line row room fits some is_row =
    subst (λ xs. length xs < room) (sym is_row.joined)
    (join_short is_row.words room some (omega (arith, words_sum is_row.words fields row is_row.spelled)))

fields_sum : (widths order : List ℕ) → All (λ k. k < length widths) order
    → sum_by (λ field. digits_of field.width + 1) (fields_of widths order) ≡ sum_at (map (λ width. digits_of width + 1) widths) order
fields_sum widths [] within = refl
fields_sum widths (k ∷ order) within =
    let small : k < length widths = within 0 k (omega arith) in
    let values : List ℕ = map (λ width. digits_of width + 1) widths in
    let here : get_or values k 0 ≡ digits_of (get_or widths k 0) + 1 = get_or-map (λ width. digits_of width + 1) widths k 0 0 small in
    sum_by-cons (λ (f : Field). digits_of f.width + 1) (field_at widths k) (fields_of widths order)
    ∙ ap (λ n. (digits_of (get_or widths k 0) + 1) + n) (fields_sum widths order (λ j d inside. within (suc j) d (omega arith)))
    ∙ ap (λ n. n + sum_at values order) (sym here) ∙ sym (sum_by-cons (λ j. get_or values j 0) k order)

-- The fields in any order have room where those of the inputs do.
pub fields_room : (inputs : List DataInput) (order : List ℕ) (room : ℕ) → sum_by (λ input. digits_of input.width + 1) inputs ≤ room
    → IsOrder (length inputs) order → sum_by (λ field. digits_of field.width + 1) (fields_of (widths_of inputs) order) ≤ room
fields_room inputs order room fits is_order =
    let widths : List ℕ = widths_of inputs in
    let values : List ℕ = map (λ width. digits_of width + 1) (widths_of inputs) in
    let count : length widths ≡ length inputs = length-map inputs (λ (input : DataInput). input.width) in
    let small : All (λ k. k < length widths) order = λ k d inside. omega (arith, is_order.within k d inside, count) in
    let within : All (λ k. k < length values) order =
    λ k d inside. omega (arith, is_order.within k d inside, count, length-map (widths_of inputs) (λ width. digits_of width + 1)) in
    let most : sum_at values order ≤ sum values = order_sum order values within (at_most_once (length inputs) order is_order) in
    let total : sum values ≡ sum_by (λ input. digits_of input.width + 1) inputs =
    sum-map (λ width. digits_of width + 1) (widths_of inputs) ∙ sum_by-map (λ width. digits_of width + 1) (λ (input : DataInput). input.width) inputs in
    omega (arith, fields_sum widths order small)
