-- Lists whose elements differ.
use Rattle.std.proofs.Common.{◌≡◌, ℕ, zero, suc, ◌+◌, ◌-◌, ◌<◌, Bool, true, false, ◌||◌, nat_le, if◌then◌else◌, List, [], ◌∷◌, ◌++◌, map, reverse, length, slice_get, Some, inl, inr, refl, ap, sym, ◌∙◌, arith, true≢false}
use Rattle.std.specs.List.{range_with_len}
use Rattle.std.specs.Str.{bytes_eq}
use Rattle.std.proofs.lemmas.List.{get_or-reverse, length-reverse}
use Rattle.std.proofs.lemmas.Option.{same_Some, slice_get-map, slice_get-get_or, slice_get_within}
use Rattle.net_core.specs.WellFormed.{AllDiffer, range_indices}
use Rattle.net_core.proofs.ListLemmas.{option_map_some}
use Rattle.net_core.proofs.NetNameLemmas.{range_number}
use Rattle.vlog_parse.specs.ReadTree.{In}
use Rattle.vlog_check.specs.Scope.{is_among}
use Rattle.elab_design.specs.Order.{first_mentions}
use Rattle.elab_design.proofs.Lists.{in_none, in_append}
use Rattle.elab_design.proofs.MentionLaws.{same_names, among_more}

pub differ_none : {X : Type 0} → AllDiffer {X = X} []
differ_none i j x at there = absurd (cc at)

pub differ_more : {X : Type 0} (x : X) (xs : List X) → (In xs x → ⊥) → AllDiffer xs → AllDiffer (x ∷ xs)
differ_more x xs fresh differ zero zero y at there = refl
differ_more x xs fresh differ zero (suc j) y at there = absurd (fresh (j, there ∙ sym at))
differ_more x xs fresh differ (suc i) zero y at there = absurd (fresh (i, at ∙ sym there))
differ_more x xs fresh differ (suc i) (suc j) y at there = ap suc (differ i j y at there)

pub differ_tail : {X : Type 0} (x : X) (xs : List X) → AllDiffer (x ∷ xs) → AllDiffer xs
differ_tail x xs differ i j y at there = let e : suc i ≡ suc j = differ (suc i) (suc j) y at there in omega (arith, e)

pub differ_head : {X : Type 0} (x : X) (xs : List X) → AllDiffer (x ∷ xs) → In xs x → ⊥
differ_head x xs differ (k, at) = let e : 0 ≡ suc k = differ 0 (suc k) x refl at in omega (arith, e)

pub differ_both : {X : Type 0} (xs ys : List X) → AllDiffer xs → AllDiffer ys → ((x : X) → In xs x → In ys x → ⊥) → AllDiffer (xs ++ ys)
differ_both [] ys left right apart = right
differ_both (x ∷ xs) ys left right apart =
    differ_more x (xs ++ ys) fresh (differ_both xs ys (differ_tail x xs left) right (λ y at there. apart y (suc at.0, at.1) there))
  where
    fresh : In (xs ++ ys) x → ⊥
    fresh at = elim (in_append xs ys x at) [ inl here ↦ differ_head x xs left here | inr later ↦ apart x (0, refl) later ]

pub differ_map : {X Y : Type 0} (f : X → Y) (xs : List X) → ((x y : X) → f x ≡ f y → x ≡ y) → AllDiffer xs → AllDiffer (map f xs)
differ_map f xs one differ i j y at there =
    let a = option_map_some f (slice_get xs i) y (sym (slice_get-map f xs i) ∙ at) in
    let b = option_map_some f (slice_get xs j) y (sym (slice_get-map f xs j) ∙ there) in
    differ i j a.0 a.1 (b.1 ∙ ap (λ x. Some x) (one b.0 a.0 (b.2 ∙ sym a.2)))

-- Indices

range_differ : (a n : ℕ) → AllDiffer (range_with_len a n)
range_differ a n i j x at there = let one = range_number a n i x at in let two = range_number a n j x there in omega (arith, one.0, two.0)

reverse_at : (xs : List ℕ) (i : ℕ) → i < length xs → slice_get (reverse xs) i ≡ slice_get xs (length xs - 1 - i)
reverse_at xs i within =
    slice_get-get_or (reverse xs) i 0 (omega (arith, length-reverse xs, within)) ∙ ap (λ v. Some v) (get_or-reverse xs i 0 within)
    ∙ sym (slice_get-get_or xs (length xs - 1 - i) 0 (omega (arith, within)))

reverse_differ : (xs : List ℕ) → AllDiffer xs → AllDiffer (reverse xs)
reverse_differ xs differ i j x at there =
    let low : i < length xs = omega (arith, slice_get_within (reverse xs) i x at, length-reverse xs) in
    let high : j < length xs = omega (arith, slice_get_within (reverse xs) j x there, length-reverse xs) in
    let e : length xs - 1 - i ≡ length xs - 1 - j = differ (length xs - 1 - i) (length xs - 1 - j) x (sym (reverse_at xs i low) ∙ at) (sym (reverse_at xs j high) ∙ there) in
    omega (arith, e, low, high)

pub indices_differ : (left right : ℕ) → AllDiffer (range_indices left right)
indices_differ left right = by (nat_le right left)
  where
    by : (b : Bool) → AllDiffer (if b then reverse (range_with_len right (left - right + 1)) else range_with_len left (right - left + 1))
    by true = reverse_differ (range_with_len right (left - right + 1)) (range_differ right (left - right + 1))
    by false = range_differ left (right - left + 1)

-- First mentions

fresh_mention : (names before : List (List ℕ)) (name : List ℕ) → In (first_mentions before names) name → is_among before name ≡ false
fresh_mention [] before name at = absurd (in_none name at)
fresh_mention (x ∷ names) before name at = by (is_among before x) refl (fresh_mention names before name) (fresh_mention names (x ∷ before) name) at
  where
    or_right : (a b : Bool) → (a || b) ≡ false → b ≡ false
    or_right true b is = absurd (true≢false is)
    or_right false b is = is

    late : is_among before x ≡ false → (In (first_mentions (x ∷ before) names) name → is_among (x ∷ before) name ≡ false) → In (x ∷ first_mentions (x ∷ before) names) name → is_among before name ≡ false
    late is rest (zero, at) = ap (is_among before) (sym (same_Some x name at)) ∙ is
    late is rest (suc k, at) = or_right (bytes_eq name x) (is_among before name) (sym (among_more x name before) ∙ rest (k, at))

    by : (b : Bool) → is_among before x ≡ b → (In (first_mentions before names) name → is_among before name ≡ false) → (In (first_mentions (x ∷ before) names) name → is_among (x ∷ before) name ≡ false)
        → In (if b then first_mentions before names else x ∷ first_mentions (x ∷ before) names) name → is_among before name ≡ false
    by true is first second at = first at
    by false is first second at = late is second at

pub mentions_differ : (names before : List (List ℕ)) → AllDiffer (first_mentions before names)
mentions_differ [] before = differ_none
mentions_differ (x ∷ names) before = by (is_among before x) (mentions_differ names before) (mentions_differ names (x ∷ before))
  where
    fresh : In (first_mentions (x ∷ before) names) x → ⊥
    fresh at =
        let e : is_among (x ∷ before) x ≡ true = among_more x x before ∙ ap (λ b. b || is_among before x) (same_names x x refl) in
        true≢false (sym e ∙ fresh_mention names (x ∷ before) x at)

    by : (b : Bool) → AllDiffer (first_mentions before names) → AllDiffer (first_mentions (x ∷ before) names) → AllDiffer (if b then first_mentions before names else x ∷ first_mentions (x ∷ before) names)
    by true first second = first
    by false first second = differ_more x (first_mentions (x ∷ before) names) fresh second
