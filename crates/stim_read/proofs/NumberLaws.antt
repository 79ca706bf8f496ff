-- What a map from names to numbers has after a change, and the mentions of inputs so far.
use Rattle.std.proofs.Common.{◌≡◌, ◌≢◌, ℕ, ◌+◌, ◌<◌, ◌≤◌, ◌⊎◌, inl, inr, true, false, cond, List, [], ◌∷◌, ◌++◌, map, length, take, get_or, All, Option, Some, None, refl, sym, ◌∙◌, ap, arith, Bor}
use Rattle.std.specs.Prelude.{◌==◌, count_by}
use Rattle.std.specs.Str.{bytes_eq}
use Rattle.std.specs.BTreeMap.{BTreeMap, UpdatesBy}
use Rattle.std.specs.Cmp.Lexicographic.{slice_cmp}
use Rattle.std.specs.Ordering.{nat_cmp}
use Rattle.std.proofs.lemmas.Slice.Eq.{bytes_eq-Decides}
use Rattle.std.proofs.lemmas.Bool.{false_from_ne_true, cases_Bool, cases_order, cases_eq, eq-eqb, ne_eqb}
use Rattle.std.proofs.lemmas.Map.Text.{btree_map_updates_str}
use Rattle.std.proofs.lemmas.List.{take_more, map-append, get_or-map}
use Rattle.std.proofs.lemmas.List.Elements.{All-push}
use Rattle.std.proofs.lemmas.List.Sums.{sum_by-append}
use Rattle.stim_read.specs.declared.inputs.DataInput.{DataInput}
use Rattle.stim_read.specs.Stimulus.{name_at, names_of, AreNames}
use Rattle.stim_read.specs.Numbers.{number_of, Numbers}

-- a change of the map at one name
abbrev pub Changes : List ℕ → BTreeMap (Bor (List ℕ)) ℕ → BTreeMap (Bor (List ℕ)) ℕ → Option ℕ → Type 0
Changes name old new now = UpdatesBy (λ x y. slice_cmp nat_cmp x.now y.now) (λ k. slice_cmp nat_cmp name k.now) old new now

at_same : (name other : List ℕ) (old new : BTreeMap (Bor (List ℕ)) ℕ) (now : Option ℕ) → Changes name old new now → name ≡ other → number_of new other ≡ now
at_same name other old new now changes same =
    btree_map_updates_str name old new now changes other
    ∙ ap (λ b. cond b now (number_of old other)) ((bytes_eq-Decides name other).1 same)

at_other : (name other : List ℕ) (old new : BTreeMap (Bor (List ℕ)) ℕ) (now : Option ℕ) → Changes name old new now → name ≢ other → number_of new other ≡ number_of old other
at_other name other old new now changes apart =
    btree_map_updates_str name old new now changes other
    ∙ ap (λ b. cond b now (number_of old other)) (false_from_ne_true (bytes_eq name other) (λ h. apart ((bytes_eq-Decides name other).0 h)))

-- whether two names are equal
same_or_not : (name other : List ℕ) → (name ≡ other) ⊎ (name ≢ other)
same_or_not name other = decided (cases_Bool (bytes_eq name other))
  where
    decided : (bytes_eq name other ≡ true) ⊎ (bytes_eq name other ≡ false) → (name ≡ other) ⊎ (name ≢ other)
    decided (inl so) = inl ((bytes_eq-Decides name other).0 so)
    decided (inr not_so) = inr (λ same. let clash : true ≡ false = sym ((bytes_eq-Decides name other).1 same) ∙ not_so in cc)

-- Names with different numbers differ.
pub names_apart : (names : List (List ℕ)) (j k : ℕ) → AreNames names → j < length names → k < length names → j ≢ k → name_at names j ≢ name_at names k
names_apart names j k named within inside apart = by_order (cases_order j k)
  where
    by_order : (j ≡ k) ⊎ ((j < k) ⊎ (k < j)) → name_at names j ≢ name_at names k
    by_order (inl same) = absurd (apart same)
    by_order (inr (inl below)) = named.apart j k below inside
    by_order (inr (inr above)) = λ same. named.apart k j above within (sym same)

-- Equal names have equal numbers.
pub same_number : (names : List (List ℕ)) (j k : ℕ) → AreNames names → j < length names → k < length names → name_at names j ≡ name_at names k → j ≡ k
same_number names j k named within inside same = decided (cases_eq j k)
  where
    decided : (j ≡ k) ⊎ (j ≢ k) → j ≡ k
    decided (inl equal) = equal
    decided (inr apart) = absurd (names_apart names j k named within inside apart same)

-- The next name was put into the map.
pub numbers_more : (names : List (List ℕ)) (i : ℕ) (name : List ℕ) (old new : BTreeMap (Bor (List ℕ)) ℕ) → AreNames names → i < length names
    → name ≡ name_at names i → Changes name old new (Some i) → Numbers names i old → Numbers names (i + 1) new
numbers_more names i name old new named within is changes numbers = record { has = has; only = λ other k. only other k (same_or_not name other) }
  where
    has : (k : ℕ) → k < i + 1 → number_of new (name_at names k) ≡ Some k
    has k below = by_place (cases_eq k i)
      where
        by_place : (k ≡ i) ⊎ (k ≢ i) → number_of new (name_at names k) ≡ Some k
        by_place (inl here) =
            at_same name (name_at names k) old new (Some i) changes (is ∙ ap (λ n. name_at names n) (sym here)) ∙ ap (λ n. Some n) (sym here)
        by_place (inr before) =
            let inside : k < i = omega arith in
            at_other name (name_at names k) old new (Some i) changes
            (λ same. names_apart names k i named (omega arith) within before (sym same ∙ is)) ∙ numbers.has k inside

    only : (other : List ℕ) (k : ℕ) → (name ≡ other) ⊎ (name ≢ other) → number_of new other ≡ Some k → (k < i + 1) × (name_at names k ≡ other)
    only other k (inl same) found =
        let some : Some i ≡ Some k = sym (at_same name other old new (Some i) changes same) ∙ found in
        let here : i ≡ k = cc in
        (omega arith, ap (λ n. name_at names n) (sym here) ∙ sym is ∙ same)
    only other k (inr apart) found =
        let was = numbers.only other k (sym (at_other name other old new (Some i) changes apart) ∙ found) in
        let below : k < i = was.0 in
        (omega arith, was.1)

-- how often an input is mentioned
abbrev pub mentions : ℕ → List ℕ → ℕ
mentions k order = count_by (λ j. j == k) order

pub mentions-append : (k : ℕ) (xs ys : List ℕ) → mentions k (xs ++ ys) ≡ mentions k xs + mentions k ys
mentions-append k xs ys = sum_by-append (λ j. cond (j == k) 1 0) xs ys

one_here : (j k : ℕ) → j ≡ k → mentions k (j ∷ []) ≡ 1
one_here j k same = ap (λ b. 0 + cond b 1 0) (eq-eqb j k same)

one_other : (j k : ℕ) → j ≢ k → mentions k (j ∷ []) ≡ 0
one_other j k apart = ap (λ b. 0 + cond b 1 0) (ne_eqb j k apart)

pub mentions_here : (j k : ℕ) (xs : List ℕ) → j ≡ k → mentions k (j ∷ xs) ≡ 1 + mentions k xs
mentions_here j k xs same = mentions-append k (j ∷ []) xs ∙ ap (λ n. n + mentions k xs) (one_here j k same)

pub mentions_other : (j k : ℕ) (xs : List ℕ) → j ≢ k → mentions k (j ∷ xs) ≡ mentions k xs
mentions_other j k xs apart = omega (arith, mentions-append k (j ∷ []) xs, one_other j k apart)

-- The first words were found in the map, which has the numbers that are not mentioned yet.
pub record Taken (names words : List (List ℕ)) (i : ℕ) (order : List ℕ) (numbers : BTreeMap (Bor (List ℕ)) ℕ) : Type 0 where
  pub named : map (name_at names) order ≡ take i words
  pub within : All (λ k. k < length names) order
  pub once : (k : ℕ) → mentions k order ≤ 1
  pub has : (k : ℕ) → k < length names → mentions k order ≡ 0 → number_of numbers (name_at names k) ≡ Some k
  pub only : (name : List ℕ) (k : ℕ) → number_of numbers name ≡ Some k → (k < length names) × (name_at names k ≡ name) × (mentions k order ≡ 0)

pub taken_none : (names words : List (List ℕ)) (numbers : BTreeMap (Bor (List ℕ)) ℕ) (count : ℕ) → count ≡ length names → Numbers names count numbers
    → Taken names words 0 [] numbers
taken_none names words numbers count all has_all = record {
  named = refl;
  within = λ k d below. absurd (omega arith);
  once = λ k. omega arith;
  has = λ k below none. has_all.has k (omega arith);
  only = λ name k found. let was = has_all.only name k found in let below : k < count = was.0 in (omega arith, was.1, refl);
}

pub taken_more : (names words : List (List ℕ)) (i n : ℕ) (order : List ℕ) (word : List ℕ) (old new : BTreeMap (Bor (List ℕ)) ℕ) → AreNames names
    → i < length words → word ≡ get_or words i [] → number_of old word ≡ Some n → Changes word old new None
    → Taken names words i order old → Taken names words (i + 1) (order ++ n ∷ []) new
taken_more names words i n order word old new named inside is found changes taken =
    let was = taken.only word n found in
    let here : n < length names = was.0 in
    let called : name_at names n ≡ word = was.1 in
    let fresh : mentions n order ≡ 0 = was.2 in record {
      named = map-append (name_at names) order (n ∷ []) ∙ ap (λ xs. xs ++ name_at names n ∷ []) taken.named
          ∙ ap (λ w. take i words ++ w ∷ []) (called ∙ is) ∙ sym (take_more words i [] inside);
      within = All-push (λ k. k < length names) order n taken.within here;
      once = λ k. once_more k fresh (taken.once k) (cases_eq n k);
      has = λ k below none. has k here called below none (cases_eq n k);
      only = λ name k found_new. only name k called found_new (same_or_not word name);
    }
  where
    pushed : (k : ℕ) → mentions k (order ++ n ∷ []) ≡ mentions k order + mentions k (n ∷ [])
    pushed k = mentions-append k order (n ∷ [])

    once_more : (k : ℕ) → mentions n order ≡ 0 → mentions k order ≤ 1 → (n ≡ k) ⊎ (n ≢ k) → mentions k (order ++ n ∷ []) ≤ 1
    once_more k fresh so_far (inl same) =
        let none : mentions k order ≡ 0 = ap (λ j. mentions j order) (sym same) ∙ fresh in
        omega (arith, pushed k, one_here n k same)
    once_more k fresh so_far (inr apart) = omega (arith, pushed k, one_other n k apart)

    has : (k : ℕ) → n < length names → name_at names n ≡ word → k < length names → mentions k (order ++ n ∷ []) ≡ 0 → (n ≡ k) ⊎ (n ≢ k)
        → number_of new (name_at names k) ≡ Some k
    has k here called below none (inl same) = absurd (omega (arith, pushed k, one_here n k same))
    has k here called below none (inr apart) =
        let before : mentions k order ≡ 0 = omega (arith, pushed k, one_other n k apart) in
        at_other word (name_at names k) old new None changes (λ equal. names_apart names n k named here below apart (called ∙ equal))
        ∙ taken.has k below before

    only : (name : List ℕ) (k : ℕ) → name_at names n ≡ word → number_of new name ≡ Some k → (word ≡ name) ⊎ (word ≢ name)
        → (k < length names) × (name_at names k ≡ name) × (mentions k (order ++ n ∷ []) ≡ 0)
    only name k called found_new (inl same) =
        let clash : None ≡ Some k = sym (at_same word name old new None changes same) ∙ found_new in absurd (none_some k clash)
      where
        none_some : (k : ℕ) → None ≡ Some k → ⊥
        none_some k clash = cc
    only name k called found_new (inr apart) =
        let was = taken.only name k (sym (at_other word name old new None changes apart) ∙ found_new) in
        let far : n ≢ k = λ same. apart (sym called ∙ ap (λ j. name_at names j) same ∙ was.1) in
        let before : mentions k order ≡ 0 = was.2 in
        (was.0, was.1, omega (arith, pushed k, one_other n k far))

-- The k-th name is that of the k-th input.
pub name_is : (inputs : List DataInput) (k : ℕ) (input : DataInput) → k < length inputs → input ≡ get_or inputs k input → input.name ≡ name_at (names_of inputs) k
name_is inputs k input within is = ap (λ i. i.name) is ∙ sym (get_or-map (λ i. i.name) inputs k input [] within)
