-- The words of a row's line: the first, and those behind it.
use Rattle.std.proofs.Common.{◌≡◌, ℕ, ◌+◌, ◌≤◌, Bool, List, [], ◌∷◌, ◌++◌, length, append-nil, All, ap, sym, subst, ◌∙◌, refl, arith, suc}
use Rattle.std.proofs.lemmas.List.{nil_from_length}
use Rattle.std.specs.List.{flat_map, join_with_byte}
use Rattle.stim_read.specs.declared.inputs.Field.{Field}
use Rattle.stim_read.specs.Stimulus.{space, IsWord, IsRow, Spell, value_of, bits_at}
use Rattle.stim_read.specs.Words.{IsTail, NoWord, TakesWord, Apart, AllApart, AllFit, spaced}
use Rattle.stim_read.proofs.Places.{bits_at_put}
use Rattle.stim_read.proofs.Tails.{same_rest, length-value}

first_all : (P : Field → Type 0) (field : Field) (fields : List Field) → All P (field ∷ fields) → P field
first_all P field fields all = all 0 field (omega arith)

rest_all : (P : Field → Type 0) (field : Field) (fields : List Field) → All P (field ∷ fields) → All P fields
rest_all P field fields all = λ k d within. all (suc k) d (omega arith)

-- Joined words are the first, and each other behind a space.
pub join_first : (word : List ℕ) (words : List (List ℕ)) → join_with_byte space (word ∷ words) ≡ word ++ flat_map spaced words
join_first word [] = sym (append-nil word)
join_first word (next ∷ words) = ap (λ xs. word ++ space ∷ xs) (join_first next words)

empty_line : (words : List (List ℕ)) (row : List Bool) → Spell words [] row → join_with_byte space words ≡ []
empty_line [] row spelled = refl
empty_line (word ∷ words) row spelled = absurd spelled

-- A row of no fields has an empty line.
pub row_without : (size : ℕ) (line : List ℕ) (row : List Bool) → IsRow [] size line row → line ≡ []
row_without size line row is_row = is_row.joined ∙ empty_line is_row.words row is_row.spelled

pub empty_row : (size : ℕ) (line : List ℕ) (row : List Bool) → line ≡ [] → length row ≡ size → IsRow [] size line row
empty_row size line row empty long = record { words = []; joined = empty; spelled = tt; long = long }

-- The first word of a row's line, and the tail behind it.
pub record First (field : Field) (fields : List Field) (line : List ℕ) (row : List Bool) : Type 0 where
  pub word : List ℕ
  pub more : List ℕ
  pub whole : line ≡ word ++ more
  pub good : IsWord field.width word
  pub value : bits_at field row ≡ value_of field.width word
  pub tail : IsTail fields more row

first_of : (field : Field) (fields : List Field) (line : List ℕ) (row : List Bool) (words : List (List ℕ)) → line ≡ join_with_byte space words
    → Spell words (field ∷ fields) row → First field fields line row
first_of field fields line row [] joined spelled = absurd spelled
first_of field fields line row (word ∷ words) joined spelled = record {
  word = word;
  more = flat_map spaced words;
  whole = joined ∙ join_first word words;
  good = spelled.0;
  value = spelled.1;
  tail = record { words = words; joined = refl; spelled = spelled.2 };
}

pub row_first : (field : Field) (fields : List Field) (size : ℕ) (line : List ℕ) (row : List Bool) → IsRow (field ∷ fields) size line row → First field fields line row
row_first field fields size line row is_row = first_of field fields line row is_row.words is_row.joined is_row.spelled

pub row_from : (field : Field) (fields : List Field) (size : ℕ) (line word more : List ℕ) (row : List Bool) → line ≡ word ++ more
    → IsWord field.width word → bits_at field row ≡ value_of field.width word → IsTail fields more row → length row ≡ size
    → IsRow (field ∷ fields) size line row
row_from field fields size line word more row whole good value tail long = record {
  words = word ∷ tail.words;
  joined = whole ∙ ap (λ xs. word ++ xs) tail.joined ∙ sym (join_first word tail.words);
  spelled = (good, value, tail.spelled);
  long = long;
}

-- The first word was taken, and the tail was read: that is the row.
pub row_read : (all : List Field) (field : Field) (fields : List Field) (line rest : List ℕ) (old mid new : List Bool) → all ≡ field ∷ fields
    → AllFit all (length old) → AllApart all → TakesWord field line rest old mid → length mid ≡ length old
    → IsTail fields rest new → ((other : Field) → All (Apart other) fields → bits_at other new ≡ bits_at other mid) → length new ≡ length mid
    → IsRow all (length old) line new
row_read all field fields line rest old mid new cut fit apart takes same tail kept long =
    let fits : AllFit (field ∷ fields) (length old) = subst (λ fs. AllFit fs (length old)) cut fit in
    let far : AllApart (field ∷ fields) = subst AllApart cut apart in
    let inside : field.place + field.width ≤ length old = first_all (λ f. f.place + f.width ≤ length old) field fields fits in
    let value : bits_at field new ≡ value_of field.width takes.word =
    kept field (λ k d inside. far 0 (suc k) d (omega arith) (omega arith)) ∙ ap (λ bits. bits_at field bits) takes.put
    ∙ bits_at_put old field (value_of field.width takes.word) inside (length-value field.width takes.word takes.good) in
    subst (λ fs. IsRow fs (length old) line new) (sym cut)
    (row_from field fields (length old) line takes.word rest new takes.whole takes.good value tail (long ∙ same))

-- Where no word stands at the front, or no tail behind it, there is no row.
pub row_needs_word : (all : List Field) (field : Field) (fields : List Field) (size : ℕ) (line : List ℕ) (row : List Bool) → all ≡ field ∷ fields
    → NoWord field.width line → IsRow all size line row → ⊥
row_needs_word all field fields size line row cut lacks is_row =
    let first = row_first field fields size line row (subst (λ fs. IsRow fs size line row) cut is_row) in lacks first.word first.more first.whole first.good

pub row_needs_tail : (all : List Field) (field : Field) (fields : List Field) (size : ℕ) (line word rest : List ℕ) (row : List Bool) → all ≡ field ∷ fields
    → line ≡ word ++ rest → IsWord field.width word → (IsTail fields rest row → ⊥) → IsRow all size line row → ⊥
row_needs_tail all field fields size line word rest row cut whole good lacks is_row =
    let first = row_first field fields size line row (subst (λ fs. IsRow fs size line row) cut is_row) in
    let same : first.more ≡ rest = same_rest field.width first.word first.more word rest first.good good (sym first.whole ∙ whole) in
    lacks (subst (λ xs. IsTail fields xs row) same first.tail)

-- Without a first field there is none.
pub row_needs_empty : (all : List Field) (size : ℕ) (line : List ℕ) (row : List Bool) → length all ≡ 0 → (line ≡ [] → ⊥) → IsRow all size line row → ⊥
row_needs_empty all size line row none lacks is_row =
    lacks (row_without size line row (subst (λ fs. IsRow fs size line row) (nil_from_length all none) is_row))

-- The fields behind the first fit too.
pub fit_behind : (all : List Field) (field : Field) (fields : List Field) (size now : ℕ) → all ≡ field ∷ fields → now ≡ size → AllFit all size → AllFit fields now
fit_behind all field fields size now cut same fit =
    subst (λ n. AllFit fields n) (sym same) (rest_all (λ f. f.place + f.width ≤ size) field fields (subst (λ fs. AllFit fs size) cut fit))

-- The fields behind the first share no bit.
pub apart_behind : (all : List Field) (field : Field) (fields : List Field) → all ≡ field ∷ fields → AllApart all → AllApart fields
apart_behind all field fields cut apart =
    let far : AllApart (field ∷ fields) = subst AllApart cut apart in
    λ j k d before within. far (suc j) (suc k) d (omega arith) (omega arith)
