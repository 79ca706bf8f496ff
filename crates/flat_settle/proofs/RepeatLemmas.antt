-- The first name in flat order that repeats.
use Rattle.std.proofs.Common.{◌≡◌, ℕ, zero, suc, ◌+◌, ◌<◌, ◌≤◌, Bool, true, false, List, [], ◌∷◌, ◌++◌, map, take, drop, length, sum_by, slice_get, Option, Some, None, MatchOption, append_assoc, length-append, refl, ap, sym, ◌∙◌, subst, arith}
use Rattle.std.specs.List.{flat_map, filter_map, cons_option}
use Rattle.std.specs.Option.{option_map}
use Rattle.std.proofs.lemmas.List.{length-map, take-append-le}
use Rattle.std.proofs.lemmas.List.Sums.{sum_by-cons}
use Rattle.std.proofs.lemmas.Option.{same_Some, slice_get_within, slice_get-map}
use Rattle.net_core.specs.declared.parts.Group.{Group}
use Rattle.net_core.specs.Netlist.{net_count}
use Rattle.net_core.specs.WellFormed.{HasRange, IsIdentifier, bit_names}
use Rattle.net_graph.specs.Lists.{AllDiffer, Each, IsIn}
use Rattle.net_core.proofs.ListLemmas.{slice_get_left, slice_get_right}
use Rattle.flat_settle.specs.declared.raw.RawCell.{RawCell}
use Rattle.flat_settle.specs.declared.raw.Raw.{Raw}
use Rattle.flat_settle.specs.Raw.{IsUnfolded, raw_identifiers}
use Rattle.flat_settle.specs.Refusals.{Named, Identifier, BitName, word, group_names, cell_names, IsFirstRepeat, HasRepeat}
use Rattle.flat_settle.specs.declared.seen.Seen.{Seen}
use Rattle.flat_settle.specs.Naming.{AreSeen, Sees, RepeatsAfter}
use Rattle.flat_settle.proofs.DistinctLemmas.{picked_append}

-- Lists

take_some : {A : Type 0} (n : ℕ) (xs : List A) (i : ℕ) (x : A) → slice_get (take n xs) i ≡ Some x → (i < n) × (slice_get xs i ≡ Some x)
take_some zero xs i x at = absurd (cc at)
take_some (suc n) [] i x at = absurd (cc at)
take_some (suc n) (z ∷ zs) zero x at = (omega arith, at)
take_some (suc n) (z ∷ zs) (suc i) x at = let rest = take_some n zs i x at in (omega (arith, rest.0), rest.1)

take_at : {A : Type 0} (n : ℕ) (xs : List A) (i : ℕ) (x : A) → i < n → slice_get xs i ≡ Some x → slice_get (take n xs) i ≡ Some x
take_at zero xs i x low at = absurd (omega (arith, low))
take_at (suc n) [] i x low at = absurd (cc at)
take_at (suc n) (z ∷ zs) zero x low at = at
take_at (suc n) (z ∷ zs) (suc i) x low at = take_at n zs i x (omega (arith, low)) at

take_behind : {A : Type 0} (a b : List A) (p : ℕ) → take (length a + p) (a ++ b) ≡ a ++ take p b
take_behind [] b p = (let e : 0 + p ≡ p = omega arith in ap (λ k. take k b) e)
take_behind (x ∷ a) b p = (let e : suc (length a) + p ≡ suc (length a + p) = omega arith in ap (λ k. take k (x ∷ a ++ b)) e) ∙ ap (λ zs. x ∷ zs) (take_behind a b p)

pub split_item : {A : Type 0} (xs : List A) (i : ℕ) (x : A) → slice_get xs i ≡ Some x → xs ≡ take i xs ++ (x ∷ drop (suc i) xs)
split_item [] i x at = absurd (cc at)
split_item (z ∷ zs) zero x at = ap (λ y. y ∷ zs) (same_Some z x at)
split_item (z ∷ zs) (suc i) x at = ap (λ ys. z ∷ ys) (split_item zs i x at)

pub one_more_taken : {A : Type 0} (xs : List A) (i : ℕ) (x : A) → slice_get xs i ≡ Some x → take (i + 1) xs ≡ take i xs ++ x ∷ []
one_more_taken [] i x at = absurd (cc at)
one_more_taken (z ∷ zs) zero x at = ap (λ y. y ∷ []) (same_Some z x at)
one_more_taken (z ∷ zs) (suc i) x at = (let e : suc i + 1 ≡ suc (i + 1) = omega arith in ap (λ k. take k (z ∷ zs)) e) ∙ ap (λ ys. z ∷ ys) (one_more_taken zs i x at)

flat_map_joined : {X A : Type 0} (f : X → List A) (xs ys : List X) → flat_map f (xs ++ ys) ≡ flat_map f xs ++ flat_map f ys
flat_map_joined f [] ys = refl
flat_map_joined f (x ∷ xs) ys = ap (λ zs. f x ++ zs) (flat_map_joined f xs ys) ∙ sym (append_assoc (f x) (flat_map f xs) (flat_map f ys))

pub flat_map_split : {X A : Type 0} (f : X → List A) (xs : List X) (i : ℕ) (x : X) → slice_get xs i ≡ Some x → flat_map f xs ≡ flat_map f (take i xs) ++ (f x ++ flat_map f (drop (suc i) xs))
flat_map_split f xs i x at = ap (flat_map f) (split_item xs i x at) ∙ flat_map_joined f (take i xs) (x ∷ drop (suc i) xs)

-- Meeting one more

pub sees_true : (seen : Seen) (names : List Named) (one : Named) (there : Bool) → there ≡ true → Sees seen names one there → IsIn names one
sees_true seen names one there is sees = subst (λ (b : Bool). Sees seen names one b) is sees

pub sees_false : (seen : Seen) (names : List Named) (one : Named) (there : Bool) → there ≡ false → Sees seen names one there → AreSeen seen (names ++ one ∷ [])
sees_false seen names one there is sees = subst (λ (b : Bool). Sees seen names one b) is sees

pub at_some : {X : Type 0} (o : Option X) (x : X) (P : Type 0) (Q : X → Type 0) → o ≡ Some x → MatchOption o P Q → Q x
at_some {X} o x P Q is own = subst (λ (r : Option X). MatchOption r P Q) is own

pub at_none : {X : Type 0} (o : Option X) (P : Type 0) (Q : X → Type 0) → o ≡ None → MatchOption o P Q → P
at_none {X} o P Q is own = subst (λ (r : Option X). MatchOption r P Q) is own

pub match_as : {X : Type 0} (o : Option X) (P R : Type 0) (Q S : X → Type 0) → (P → R) → ((x : X) → Q x → S x) → MatchOption o P Q → MatchOption o R S
match_as None P R Q S f g own = f own
match_as (Some x) P R Q S f g own = g x own

-- Repeats

pub repeats_first : (names more : List Named) (one : Named) (name : List ℕ) (rest : List Named) → more ≡ one ∷ rest → word one ≡ name → IsIn names one → AllDiffer names → RepeatsAfter names more name
repeats_first names more one name rest is called among differ = record {
  place = 0;
  one = one;
  at = ap (λ (zs : List Named). slice_get zs 0) is;
  called = called;
  earlier = subst (λ (zs : List Named). IsIn zs one) (sym none) among;
  differ = subst (λ (zs : List Named). AllDiffer zs) (sym none) differ;
}
  where
    append_nothing : (xs : List Named) → xs ++ [] ≡ xs
    append_nothing [] = refl
    append_nothing (x ∷ xs) = ap (λ zs. x ∷ zs) (append_nothing xs)

    none : names ++ take 0 more ≡ names
    none = ap (λ (zs : List Named). names ++ take 0 zs) is ∙ append_nothing names

pub repeats_shift : (names a b : List Named) (name : List ℕ) → RepeatsAfter (names ++ a) b name → RepeatsAfter names (a ++ b) name
repeats_shift names a b name own = record {
  place = length a + own.place;
  one = own.one;
  at = slice_get_right a b (length a + own.place) own.place own.one refl own.at;
  called = own.called;
  earlier = subst (λ (zs : List Named). IsIn zs own.one) same own.earlier;
  differ = subst (λ (zs : List Named). AllDiffer zs) same own.differ;
}
  where
    same : (names ++ a) ++ take own.place b ≡ names ++ take (length a + own.place) (a ++ b)
    same = append_assoc names a (take own.place b) ∙ ap (λ zs. names ++ zs) (sym (take_behind a b own.place))

pub repeats_widen : (names a b : List Named) (name : List ℕ) → RepeatsAfter names a name → RepeatsAfter names (a ++ b) name
repeats_widen names a b name own = record {
  place = own.place;
  one = own.one;
  at = slice_get_left a b own.place own.one own.at;
  called = own.called;
  earlier = subst (λ (zs : List Named). IsIn zs own.one) same own.earlier;
  differ = subst (λ (zs : List Named). AllDiffer zs) same own.differ;
}
  where
    same : names ++ take own.place a ≡ names ++ take own.place (a ++ b)
    same = ap (λ zs. names ++ zs) (sym (take-append-le own.place a b (let low = slice_get_within a own.place own.one own.at in omega (arith, low))))

pub first_repeat : (names : List Named) (name : List ℕ) → RepeatsAfter [] names name → IsFirstRepeat names name
first_repeat names name own = record {
  place = own.place;
  one = own.one;
  repeats = (let early = take_some own.place names own.earlier.0 own.one own.earlier.1 in (own.at, own.earlier.0, early.0, early.1));
  called = own.called;
  first = λ k other low (at, j, before, there). (
      let same : j ≡ k = own.differ j k other (take_at own.place names j other (omega (arith, before, low)) there) (take_at own.place names k other low at) in
      omega (arith, same, before));
}

pub no_repeat : (names : List Named) → AllDiffer names → ¬ HasRepeat names
no_repeat names differ (k, one, (at, j, before, there)) = let same : j ≡ k = differ j k one there at in omega (arith, same, before)

-- Cells

pub cell_names_more : (cells : List RawCell) (i : ℕ) (cell : RawCell) → slice_get cells i ≡ Some cell → cell_names (take (i + 1) cells) ≡ cell_names (take i cells) ++ cell_names (cell ∷ [])
cell_names_more cells i cell at = ap cell_names (one_more_taken cells i cell at) ∙ picked_append (λ (cell : RawCell). option_map Identifier cell.name) (take i cells) (cell ∷ [])

pub cell_names_split : (cells : List RawCell) (i : ℕ) (cell : RawCell) (name : List ℕ) → slice_get cells i ≡ Some cell → cell.name ≡ Some name
    → cell_names cells ≡ cell_names (take i cells) ++ (Identifier name ∷ cell_names (drop (suc i) cells))
cell_names_split cells i cell name at is =
    ap cell_names (split_item cells i cell at) ∙ picked_append (λ (cell : RawCell). option_map Identifier cell.name) (take i cells) (cell ∷ drop (suc i) cells)
    ∙ ap (λ (o : Option (List ℕ)). cell_names (take i cells) ++ cons_option (option_map Identifier o) (cell_names (drop (suc i) cells))) is

-- How many names there are

pub group_width : (group : Group) → HasRange group → length (group_names group) ≡ 1 + length group.bits
group_width group range = let e = length-map (bit_names group) BitName in let f = range.width in omega (arith, e, f)

names_count : (groups : List Group) → Each HasRange groups → length (flat_map group_names groups) ≡ length groups + net_count groups
names_count [] ranges = refl
names_count (group ∷ groups) ranges =
    length-append (group_names group) (flat_map group_names groups)
    ∙ (let e = group_width group (ranges 0 group refl) in let f = names_count groups (λ k. ranges (suc k)) in let g = sum_by-cons (λ (o : Group). length o.bits) group groups in omega (arith, e, f, g))

more_bytes : (xs : List (List ℕ)) → Each (λ x. 0 < length x) xs → length xs ≤ sum_by length xs
more_bytes [] each = omega arith
more_bytes (x ∷ xs) each = let rest = more_bytes xs (λ i. each (suc i)) in omega (arith, rest, each 0 x refl, sum_by-cons length x xs)

module _ (raw : Raw) (unfolded : IsUnfolded raw) where
  pub few_names : length (flat_map group_names raw.groups) ≤ 68157440
  few_names =
      let all = more_bytes (raw_identifiers raw) (λ i name at. (unfolded.spelling i name at).0) in
      let front = map (λ (group : Group). group.name) raw.groups in
      omega (arith, names_count raw.groups unfolded.ranges, all, unfolded.limits.names, unfolded.limits.nets, length-append front (filter_map (λ (cell : RawCell). cell.name) raw.cells), length-map raw.groups (λ (group : Group). group.name))

  pub spelled_groups : Each (λ (group : Group). IsIdentifier group.name) raw.groups
  spelled_groups i group at =
      unfolded.spelling i group.name (slice_get_left (map (λ (group : Group). group.name) raw.groups) (filter_map (λ (cell : RawCell). cell.name) raw.cells) i group.name
      (slice_get-map (λ (group : Group). group.name) raw.groups i ∙ ap (option_map (λ (group : Group). group.name)) at))
