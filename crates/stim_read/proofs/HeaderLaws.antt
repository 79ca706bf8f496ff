-- When words that were found in the map are a header, and when a line is none.
use Rattle.std.proofs.Common.{◌≡◌, ◌≢◌, ℕ, ◌+◌, ◌<◌, ◌≤◌, ◌⊎◌, inl, inr, Bool, true, false, cond, List, [], ◌∷◌, ◌++◌, map, length, take, drop, drop-cons, get_or, All, Some, None, refl, sym, ◌∙◌, ap, arith, suc, Bor}
use Rattle.std.specs.Prelude.{◌==◌, ⊤, ◌↔◌, IsTrue}
use Rattle.std.specs.List.{slice_split, join_with_byte, take-map}
use Rattle.std.specs.BTreeMap.{BTreeMap, is_at, btree_map_len}
use Rattle.std.specs.Map.{lookup}
use Rattle.std.specs.Cmp.Lexicographic.{slice_cmp}
use Rattle.std.specs.Ordering.{nat_cmp}
use Rattle.std.proofs.lemmas.Slice.Eq.{bytes_eq-Decides}
use Rattle.std.proofs.lemmas.Bool.{cases_eq, ne_eqb}
use Rattle.std.proofs.lemmas.Map.Text.{is_eq-slice_cmp}
use Rattle.std.proofs.lemmas.List.{length-map, get_or-map, take-append-drop, take_all, nil_from_length}
use Rattle.std.proofs.lemmas.List.Elements.{All-get_or, All-take}
use Rattle.std.proofs.lemmas.List.Splits.{slice_split_at, slice_split_none, join_with_byte-slice_split}
use Rattle.stim_read.specs.declared.inputs.DataInput.{DataInput}
use Rattle.stim_read.specs.Stimulus.{space, name_at, names_of, AreNames, IsOrder, IsHeader}
use Rattle.stim_read.specs.Numbers.{number_of}
use Rattle.stim_read.proofs.NumberLaws.{Taken, mentions, mentions-append, mentions_here, same_number}

-- the words of a line, which single spaces part
abbrev pub words_of : List ℕ → List (List ℕ)
words_of line = slice_split (λ byte. byte == space) line

-- words without a space
abbrev pub Clean : List (List ℕ) → Type 0
Clean [] = ⊤
Clean (word ∷ words) = All (λ byte. (byte == space) ≡ false) word × Clean words

-- Words without a space are the parts of the line that joins them.
pub split_joined : (word : List ℕ) (words : List (List ℕ)) → Clean (word ∷ words) → words_of (join_with_byte space (word ∷ words)) ≡ word ∷ words
split_joined word [] clean = slice_split_none (λ byte. byte == space) word clean.0
split_joined word (next ∷ words) clean =
    slice_split_at (λ byte. byte == space) word space (join_with_byte space (next ∷ words)) clean.0 refl
    ∙ ap (λ parts. word ∷ parts) (split_joined next words clean.1)

clean_name : (names : List (List ℕ)) (k : ℕ) → AreNames names → k < length names → All (λ byte. (byte == space) ≡ false) (name_at names k)
clean_name names k named within = λ j d inside.
    let seen = All-get_or (λ name. All (λ byte. (33 ≤ byte) × (byte ≤ 126)) name) names k [] within named.visible j d inside in
    let least : 33 ≤ get_or (name_at names k) j d = seen.0 in
    ne_eqb (get_or (name_at names k) j d) space (λ same. absurd (omega (arith, same)))

clean_names : (names : List (List ℕ)) (order : List ℕ) → AreNames names → All (λ k. k < length names) order → Clean (map (name_at names) order)
clean_names names [] named within = tt
clean_names names (k ∷ order) named within =
    (clean_name names k named (within 0 k (omega arith)), clean_names names order named (λ j d inside. within (suc j) d (omega arith)))

-- Inputs with equal names in a row are the same ones.
pub same_order : (names : List (List ℕ)) (xs ys : List ℕ) → AreNames names → All (λ k. k < length names) xs → All (λ k. k < length names) ys
    → map (name_at names) xs ≡ map (name_at names) ys → xs ≡ ys
same_order names [] [] named within inside same = refl
same_order names [] (y ∷ ys) named within inside same = cc
same_order names (x ∷ xs) [] named within inside same = cc
same_order names (x ∷ xs) (y ∷ ys) named within inside same =
    let heads : name_at names x ≡ name_at names y = cc in
    let tails : map (name_at names) xs ≡ map (name_at names) ys = cc in
    let head : x ≡ y = same_number names x y named (within 0 x (omega arith)) (inside 0 y (omega arith)) heads in
    let tail : xs ≡ ys =
    same_order names xs ys named (λ j d lt. within (suc j) d (omega arith)) (λ j d lt. inside (suc j) d (omega arith)) tails in
    ap (λ n. n ∷ xs) head ∙ ap (λ ns. y ∷ ns) tail

filled_order : (count : ℕ) (order : List ℕ) → 0 < count → IsOrder count order → order ≡ [] → ⊥
filled_order count order some is_order empty =
    let none : mentions 0 order ≡ 0 = ap (λ ns. mentions 0 ns) empty in
    let once : mentions 0 order ≡ 1 = is_order.once 0 some in absurd (omega arith)

parts_of : (names : List (List ℕ)) (order : List ℕ) → AreNames names → All (λ k. k < length names) order → (order ≡ [] → ⊥)
    → words_of (join_with_byte space (map (name_at names) order)) ≡ map (name_at names) order
parts_of names [] named within filled = absurd (filled refl)
parts_of names (k ∷ order) named within filled =
    split_joined (name_at names k) (map (name_at names) order) (clean_names names (k ∷ order) named within)

-- The words of a header are the names in its order.
pub header_words : (names : List (List ℕ)) (order line : List ℕ) → AreNames names → 0 < length names → IsHeader names order line
    → words_of line ≡ map (name_at names) order
header_words names order line named some is_header =
    ap (λ bytes. words_of bytes) is_header.joined
    ∙ parts_of names order named is_header.each.within (filled_order (length names) order some is_header.each)

-- Without inputs a header is empty.
pub header_without : (names : List (List ℕ)) (order line : List ℕ) → length names ≡ 0 → IsHeader names order line → line ≡ []
header_without names order line none is_header = empty order is_header.each.within is_header.joined
  where
    empty : (order : List ℕ) → All (λ k. k < length names) order → line ≡ join_with_byte space (map (name_at names) order) → line ≡ []
    empty [] within joined = joined
    empty (k ∷ order) within joined = absurd (omega (arith, within 0 k (omega arith)))

pub empty_header : (names : List (List ℕ)) (line : List ℕ) → length names ≡ 0 → line ≡ [] → IsHeader names [] line
empty_header names line none empty = record {
  each = record { within = λ k d below. absurd (omega arith); once = λ k below. absurd (omega arith) };
  joined = empty;
}

none_some : (k : ℕ) → None ≡ Some k → ⊥
none_some k clash = cc

-- An empty map has no number for a name.
number_none : (numbers : BTreeMap (Bor (List ℕ)) ℕ) (name : List ℕ) → numbers.entries ≡ [] → number_of numbers name ≡ None
number_none numbers name none = ap (λ entries. lookup (is_at (λ k. slice_cmp nat_cmp name k.now)) entries) none

-- A name that a map has, with its number.
record Found (numbers : BTreeMap (Bor (List ℕ)) ℕ) : Type 0 where
  pub name : List ℕ
  pub number : ℕ
  pub is : number_of numbers name ≡ Some number

-- A map that is not empty has a name.
number_some : (numbers : BTreeMap (Bor (List ℕ)) ℕ) → (numbers.entries ≡ [] → ⊥) → Found numbers
number_some numbers left = first numbers.entries refl
  where
    first : (entries : List (Bor (List ℕ) × ℕ)) → numbers.entries ≡ entries → Found numbers
    first [] is = absurd (left is)
    first (entry ∷ entries) is =
        let name : List ℕ = entry.0.now in
        let here : is_at (λ k. slice_cmp nat_cmp name k.now) entry.0 ≡ true = is_eq-slice_cmp name name ∙ (bytes_eq-Decides name name).1 refl in
        record {
          name = name;
          number = entry.1;
          is = ap (λ es. lookup (is_at (λ (k : Bor (List ℕ)). slice_cmp nat_cmp name k.now)) es) is
              ∙ ap (λ b. cond b (Some entry.1) (lookup (is_at (λ (k : Bor (List ℕ)). slice_cmp nat_cmp name k.now)) entries)) here;
        }

all_take : (names : List (List ℕ)) (i : ℕ) (other : List ℕ) → All (λ k. k < length names) other → All (λ k. k < length names) (take i other)
all_take names i other within = All-take (λ k. k < length names) i other within

-- Where all words were found and no name is left, the line is a header.
pub all_taken : (names : List (List ℕ)) (order line : List ℕ) (i : ℕ) (numbers : BTreeMap (Bor (List ℕ)) ℕ) → length (words_of line) ≤ i
    → numbers.entries ≡ [] → Taken names (words_of line) i order numbers → IsHeader names order line
all_taken names order line i numbers over none taken = record {
  each = record { within = taken.within; once = λ k below. one k below (cases_eq (mentions k order) 0) };
  joined = sym (join_with_byte-slice_split space line) ∙ ap (λ words. join_with_byte space words) (sym (taken.named ∙ take_all i (words_of line) over));
}
  where
    one : (k : ℕ) → k < length names → (mentions k order ≡ 0) ⊎ (mentions k order ≢ 0) → mentions k order ≡ 1
    one k below (inl never) =
        let here : number_of numbers (name_at names k) ≡ Some k = taken.has k below never in
        let gone : number_of numbers (name_at names k) ≡ None = number_none numbers (name_at names k) none in
        absurd (none_some k (sym gone ∙ here))
    one k below (inr some) = let most : mentions k order ≤ 1 = taken.once k in omega arith

-- A name that is left in the map is not mentioned: the line is no header.
pub one_left : (names : List (List ℕ)) (order line : List ℕ) (i : ℕ) (numbers : BTreeMap (Bor (List ℕ)) ℕ) → AreNames names → 0 < length names
    → length (words_of line) ≤ i → (numbers.entries ≡ [] → ⊥) → Taken names (words_of line) i order numbers → (other : List ℕ) → IsHeader names other line → ⊥
one_left names order line i numbers named some over left taken other is_header =
    let found = number_some numbers left in
    let was = taken.only found.name found.number found.is in
    let below : found.number < length names = was.0 in
    let never : mentions found.number order ≡ 0 = was.2 in
    let words : map (name_at names) order ≡ map (name_at names) other =
    taken.named ∙ take_all i (words_of line) over ∙ header_words names other line named some is_header in
    let same : order ≡ other = same_order names order other named taken.within is_header.each.within words in
    let once : mentions found.number other ≡ 1 = is_header.each.once found.number below in
    let clash : mentions found.number order ≡ mentions found.number other = ap (λ ns. mentions found.number ns) same in
    absurd (omega arith)

-- A word that is not in the map is no name, or one that was mentioned before: the line is no header.
pub word_lacks : (names : List (List ℕ)) (order line : List ℕ) (i : ℕ) (numbers : BTreeMap (Bor (List ℕ)) ℕ) → AreNames names → 0 < length names
    → i < length (words_of line) → number_of numbers (get_or (words_of line) i []) ≡ None → Taken names (words_of line) i order numbers
    → (other : List ℕ) → IsHeader names other line → ⊥
word_lacks names order line i numbers named some within absent taken other is_header =
    let words : words_of line ≡ map (name_at names) other = header_words names other line named some is_header in
    let long : length other ≡ length (words_of line) = sym (ap (λ ws. length ws) words ∙ length-map other (name_at names)) in
    let inside : i < length other = omega arith in
    let n : ℕ = get_or other i 0 in
    let below : n < length names = All-get_or (λ k. k < length names) other i 0 inside is_header.each.within in
    let called : get_or (words_of line) i [] ≡ name_at names n =
    ap (λ ws. get_or ws i []) words ∙ get_or-map (name_at names) other i 0 [] inside in
    let front : map (name_at names) order ≡ map (name_at names) (take i other) =
    taken.named ∙ ap (λ ws. take i ws) words ∙ take-map (name_at names) i other in
    let same : order ≡ take i other =
    same_order names order (take i other) named taken.within (all_take names i other is_header.each.within) front in
    let cut : other ≡ take i other ++ n ∷ drop (suc i) other =
    sym (take-append-drop i other) ∙ ap (λ ns. take i other ++ ns) (drop-cons other i 0 inside) in
    let once : mentions n other ≡ 1 = is_header.each.once n below in
    let total : mentions n other ≡ mentions n (take i other) + mentions n (n ∷ drop (suc i) other) =
    ap (λ ns. mentions n ns) cut ∙ mentions-append n (take i other) (n ∷ drop (suc i) other) in
    let here : mentions n (n ∷ drop (suc i) other) ≡ 1 + mentions n (drop (suc i) other) = mentions_here n n (drop (suc i) other) refl in
    let before : mentions n order ≡ mentions n (take i other) = ap (λ ns. mentions n ns) same in
    let never : mentions n order ≡ 0 = omega arith in
    let found : number_of numbers (name_at names n) ≡ Some n = taken.has n below never in
    none_some n (sym absent ∙ ap (λ name. number_of numbers name) called ∙ found)

-- the words that references show
abbrev pub shown : List (Bor (List ℕ)) → List (List ℕ)
shown words = map (λ word. word.now) words

-- the i-th word that references show
pub shown_at : (words : List (Bor (List ℕ))) (i : ℕ) (d : Bor (List ℕ)) → i < length words → (get_or words i d).now ≡ get_or (shown words) i []
shown_at words i d within = sym (get_or-map (λ word. word.now) words i d [] within)

-- the references show as many
pub length-shown : (words : List (Bor (List ℕ))) → length (shown words) ≡ length words
length-shown words = length-map words (λ word. word.now)

-- Inputs that are not empty have a name.
pub some_name : (inputs : List DataInput) (empty : Bool) → empty ≡ (length inputs == 0) → empty ≡ false → 0 < length (names_of inputs)
some_name [] empty means rests = absurd (clash (sym rests ∙ means))
  where
    clash : false ≡ true → ⊥
    clash h = cc
some_name (input ∷ inputs) empty means rests = omega arith

-- A map that is not empty has an entry, and one that is has none.
pub entries_left : (numbers : BTreeMap (Bor (List ℕ)) ℕ) (empty : Bool) → (IsTrue empty ↔ (btree_map_len numbers ≡ 0)) → empty ≡ false → numbers.entries ≡ [] → ⊥
entries_left numbers empty means rests none = clash (sym rests ∙ means.1 (ap (λ es. length es) none))
  where
    clash : false ≡ true → ⊥
    clash h = cc

pub no_entry : (numbers : BTreeMap (Bor (List ℕ)) ℕ) (empty : Bool) → (IsTrue empty ↔ (btree_map_len numbers ≡ 0)) → empty ≡ true → numbers.entries ≡ []
no_entry numbers empty means so = nil_from_length numbers.entries (means.0 so)
