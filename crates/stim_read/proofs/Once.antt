-- A text stands for at most one list of rows.
use Rattle.std.proofs.Common.{◌≡◌, ◌≢◌, ℕ, ◌+◌, ◌<◌, ◌≤◌, ◌⊎◌, inl, inr, Bool, List, [], ◌∷◌, ◌++◌, length, take, drop, get_or, All, refl, sym, ◌∙◌, ap, subst, arith, suc, zero, take-add}
use Rattle.std.specs.Prelude.{sum}
use Rattle.std.proofs.lemmas.Bool.{cases_eq}
use Rattle.std.proofs.lemmas.List.{length-map, get_or-map, take_at, take_all}
use Rattle.std.proofs.lemmas.List.Sums.{sum_by_more}
use Rattle.stim_read.specs.declared.inputs.DataInput.{DataInput}
use Rattle.stim_read.specs.declared.inputs.Field.{Field}
use Rattle.stim_read.specs.Stimulus.{names_of, widths_of, field_at, fields_of, value_of, bits_at, AreNames, IsOrder, IsHeader, IsWord, IsRow, AreRows, IsStimulus}
use Rattle.stim_read.specs.Words.{IsTail}
use Rattle.stim_read.proofs.NumberLaws.{mentions, mentions_other}
use Rattle.stim_read.proofs.HeaderLaws.{header_words, same_order}
use Rattle.stim_read.proofs.Tails.{tail_step, same_rest}
use Rattle.stim_read.proofs.Rows.{row_first}

-- two rows have the same bits in each field
abbrev Agreed : List Field → List Bool → List Bool → Type 0
Agreed fields row other = (i : ℕ) (d : Field) → i < length fields → bits_at (get_or fields i d) row ≡ bits_at (get_or fields i d) other

agreed_more : (field : Field) (fields : List Field) (row other : List Bool) → bits_at field row ≡ bits_at field other → Agreed fields row other
    → Agreed (field ∷ fields) row other
agreed_more field fields row other here later zero d within = here
agreed_more field fields row other here later (suc i) d within = later i d (omega arith)

same_word : (width : ℕ) (word rest other more : List ℕ) → IsWord width word → IsWord width other → word ++ rest ≡ other ++ more → word ≡ other
same_word width word rest other more good fine same =
    sym (take_at word rest (length word) refl) ∙ ap (λ xs. take (length word) xs) same ∙ take_at other more (length word) (fine.digits ∙ sym good.digits)

-- Two rows of one tail agree.
tails_agree : (fields : List Field) (text : List ℕ) (row other : List Bool) → IsTail fields text row → IsTail fields text other → Agreed fields row other
tails_agree [] text row other tail same = λ i d within. absurd (omega arith)
tails_agree (field ∷ fields) text row other tail again =
    let first = tail_step field fields text row tail in
    let second = tail_step field fields text other again in
    let whole : first.word ++ first.more ≡ second.word ++ second.more = ap (λ xs. drop 1 xs) (sym first.whole ∙ second.whole) in
    let word : first.word ≡ second.word = same_word field.width first.word first.more second.word second.more first.good second.good whole in
    let rest : first.more ≡ second.more = same_rest field.width first.word first.more second.word second.more first.good second.good whole in
    agreed_more field fields row other (first.value ∙ ap (λ w. value_of field.width w) word ∙ sym second.value)
    (tails_agree fields second.more row other (subst (λ xs. IsTail fields xs row) rest first.tail) second.tail)

-- Two rows of one line agree.
lines_agree : (fields : List Field) (size : ℕ) (line : List ℕ) (row other : List Bool) → IsRow fields size line row → IsRow fields size line other → Agreed fields row other
lines_agree [] size line row other is_row same = λ i d within. absurd (omega arith)
lines_agree (field ∷ fields) size line row other is_row again =
    let first = row_first field fields size line row is_row in
    let second = row_first field fields size line other again in
    let whole : first.word ++ first.more ≡ second.word ++ second.more = sym first.whole ∙ second.whole in
    let word : first.word ≡ second.word = same_word field.width first.word first.more second.word second.more first.good second.good whole in
    let rest : first.more ≡ second.more = same_rest field.width first.word first.more second.word second.more first.good second.good whole in
    agreed_more field fields row other (first.value ∙ ap (λ w. value_of field.width w) word ∙ sym second.value)
    (tails_agree fields second.more row other (subst (λ xs. IsTail fields xs row) rest first.tail) second.tail)

-- where a number that is mentioned stands
record Stands (k : ℕ) (order : List ℕ) : Type 0 where
  pub place : ℕ
  pub within : place < length order
  pub is : get_or order place 0 ≡ k

stands_in : (k : ℕ) (order : List ℕ) → 1 ≤ mentions k order → Stands k order
stands_in k [] some = absurd (omega arith)
stands_in k (x ∷ order) some = by_head (cases_eq x k) (λ later. stands_in k order later)
  where
    by_head : (x ≡ k) ⊎ (x ≢ k) → (1 ≤ mentions k order → Stands k order) → Stands k (x ∷ order)
    by_head (inl same) again = record { place = 0; within = omega arith; is = same }
    by_head (inr apart) again =
        let later = again (omega (arith, mentions_other x k order apart)) in
        record { place = suc later.place; within = omega (arith, later.within); is = later.is }

-- Rows that agree in each input agree up to each place.
fronts_agree : (widths : List ℕ) (row other : List Bool) → ((k : ℕ) → k < length widths → bits_at (field_at widths k) row ≡ bits_at (field_at widths k) other)
    → (k : ℕ) → k ≤ length widths → take (sum (take k widths)) row ≡ take (sum (take k widths)) other
fronts_agree widths row other each zero within = refl
fronts_agree widths row other each (suc k) within =
    let next : k + 1 ≡ suc k = omega arith in
    let more : sum (take (suc k) widths) ≡ sum (take k widths) + get_or widths k 0 =
    ap (λ n. sum (take n widths)) (sym next) ∙ sum_by_more (λ x. x) widths k 0 (omega arith) in
    ap (λ n. take n row) more ∙ take-add (sum (take k widths)) (get_or widths k 0) row
    ∙ ap (λ xs. xs ++ take (get_or widths k 0) (drop (sum (take k widths)) row)) (fronts_agree widths row other each k (omega arith))
    ∙ ap (λ xs. take (sum (take k widths)) other ++ xs) (each k (omega arith))
    ∙ sym (take-add (sum (take k widths)) (get_or widths k 0) other) ∙ ap (λ n. take n other) (sym more)

-- A line stands for at most one row.
row_once : (widths order : List ℕ) (line : List ℕ) (row other : List Bool) → IsOrder (length widths) order → IsRow (fields_of widths order) (sum widths) line row
    → IsRow (fields_of widths order) (sum widths) line other → row ≡ other
row_once widths order line row other is_order is_row again =
    let agreed : Agreed (fields_of widths order) row other = lines_agree (fields_of widths order) (sum widths) line row other is_row again in
    let whole : sum (take (length widths) widths) ≡ sum widths = ap (λ ws. sum ws) (take_all (length widths) widths (omega arith)) in
    let front : take (sum (take (length widths) widths)) row ≡ take (sum (take (length widths) widths)) other =
    fronts_agree widths row other (each agreed) (length widths) (omega arith) in
    sym (take_all (sum (take (length widths) widths)) row (omega (arith, is_row.long))) ∙ front
    ∙ take_all (sum (take (length widths) widths)) other (omega (arith, again.long))
  where
    each : Agreed (fields_of widths order) row other → (k : ℕ) → k < length widths → bits_at (field_at widths k) row ≡ bits_at (field_at widths k) other
    each agreed k within =
        let once : mentions k order ≡ 1 = is_order.once k within in
        let stands = stands_in k order (omega arith) in
        let inside : stands.place < length (fields_of widths order) = omega (arith, stands.within, length-map order (field_at widths)) in
        let is : get_or (fields_of widths order) stands.place (field_at widths k) ≡ field_at widths k =
        get_or-map (field_at widths) order stands.place 0 (field_at widths k) stands.within ∙ ap (λ n. field_at widths n) stands.is in
        subst (λ f. bits_at f row ≡ bits_at f other) is (agreed stands.place (field_at widths k) inside)

rows_once : (widths order : List ℕ) (body : List (List ℕ)) (rows others : List (List Bool)) → IsOrder (length widths) order
    → AreRows (fields_of widths order) (sum widths) body rows → AreRows (fields_of widths order) (sum widths) body others → rows ≡ others
rows_once widths order [] [] [] is_order are again = refl
rows_once widths order [] [] (other ∷ others) is_order are again = absurd again
rows_once widths order [] (row ∷ rows) others is_order are again = absurd are
rows_once widths order (line ∷ body) [] others is_order are again = absurd are
rows_once widths order (line ∷ body) (row ∷ rows) [] is_order are again = absurd again
rows_once widths order (line ∷ body) (row ∷ rows) (other ∷ others) is_order are again =
    ap (λ r. r ∷ rows) (row_once widths order line row other is_order are.0 again.0)
    ∙ ap (λ rs. other ∷ rs) (rows_once widths order body rows others is_order are.1 again.1)

-- A header has at most one order.
pub order_once : (names : List (List ℕ)) (order other line : List ℕ) → AreNames names → IsHeader names order line → IsHeader names other line → order ≡ other
order_once names order other line named first second = by_size (cases_eq (length names) 0)
  where
    none : (ks : List ℕ) → length names ≡ 0 → All (λ k. k < length names) ks → ks ≡ []
    none [] empty within = refl
    none (k ∷ ks) empty within = absurd (omega (arith, within 0 k (omega arith)))

    by_size : (length names ≡ 0) ⊎ (length names ≢ 0) → order ≡ other
    by_size (inl empty) = none order empty first.each.within ∙ sym (none other empty second.each.within)
    by_size (inr some) =
        let filled : 0 < length names = omega arith in
        same_order names order other named first.each.within second.each.within
        (sym (header_words names order line named filled first) ∙ header_words names other line named filled second)

-- A text stands for at most one list of rows.
pub stimulus_once : (inputs : List DataInput) (text : List ℕ) (rows others : List (List Bool)) → AreNames (names_of inputs)
    → IsStimulus inputs text rows → IsStimulus inputs text others → rows ≡ others
stimulus_once inputs text rows others named first second =
    let same : first.header ∷ first.body ≡ second.header ∷ second.body = sym first.cut ∙ second.cut in
    let head : first.header ≡ second.header = cc in
    let body : first.body ≡ second.body = cc in
    let order : first.order ≡ second.order =
    order_once (names_of inputs) first.order second.order second.header named
    (subst (λ xs. IsHeader (names_of inputs) first.order xs) head first.named) second.named in
    let counts : length (names_of inputs) ≡ length (widths_of inputs) =
    length-map inputs (λ (input : DataInput). input.name) ∙ sym (length-map inputs (λ (input : DataInput). input.width)) in
    let is_order : IsOrder (length (widths_of inputs)) second.order = subst (λ n. IsOrder n second.order) counts second.named.each in
    rows_once (widths_of inputs) second.order second.body rows others is_order
    (subst (λ b. AreRows (fields_of (widths_of inputs) second.order) (sum (widths_of inputs)) b rows) body
    (subst (λ o. AreRows (fields_of (widths_of inputs) o) (sum (widths_of inputs)) first.body rows) order first.each)) second.each
