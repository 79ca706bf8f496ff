-- Indices of nets: where they stand, and parts of ranges.
use Rattle.std.proofs.Common.{◌≡◌, ℕ, zero, suc, ◌+◌, ◌-◌, ◌*◌, ◌^◌, ◌<◌, ◌≤◌, nat_le, ◌==◌, Bool, true, false, ◌&&◌, ◌||◌, List, [], ◌∷◌, ◌++◌, length, map, reverse, take, get_or, slice_get, is_some, Option, Some, None, ◌⊎◌, inl, inr, refl, ap, sym, ◌∙◌, arith, true≢false}
use Rattle.std.specs.List.{flat_map, list_all, range_with_len}
use Rattle.std.specs.Option.{option_map_or}
use Rattle.std.specs.Int.{bit_at}
use Rattle.std.proofs.lemmas.Bool.Decides.{nat_tests}
use Rattle.std.proofs.lemmas.Nat.Bits.{bit_at-zero, bit_at_cat_high}
use Rattle.std.proofs.lemmas.List.{length-map, get_or-map, get_or-reverse, length-reverse, map_push, take_more}
use Rattle.std.proofs.lemmas.List.Folds.{list_all-append}
use Rattle.std.proofs.lemmas.List.FromFn.{length-range_with_len, get_or-range_with_len}
use Rattle.std.proofs.lemmas.Option.{slice_get_within}
use Rattle.net_core.specs.WellFormed.{range_indices}
use Rattle.net_core.proofs.NetNameLemmas.{index_from_left, index_from_right}
use Rattle.net_core.proofs.NameLemmas.{range_width as length-range_indices}
use Rattle.ila_base.specs.declared.place.Word.{Word}
use Rattle.vlog_parse.specs.declared.tree.Expr.{Expr}
use Rattle.vlog_parse.specs.declared.tree.Expr.TheVariants.{Concat}
use Rattle.vlog_parse.specs.declared.tree.Module.{Module}
use Rattle.vlog_parse.specs.declared.tree.Range.{Range}
use Rattle.vlog_parse.specs.Leaves.{Leaf, leaves}
use Rattle.vlog_check.specs.Scope.{range_of, range_width, has_index, has_part, is_declared, is_sound}
use Rattle.vlog_check.proofs.ReadingLaws.{leaves-Concat}
use Rattle.vlog_check.proofs.LeastLaws.{at_index}
use Rattle.elab_design.specs.Design.{indices, word_bits}
use Rattle.elab_design.proofs.KnownLaws.{and_both, or_either}
use Rattle.elab_unfold.specs.declared.places.Net.{Net}
use Rattle.net_core.specs.declared.parts.Pin.{Pin}
use Rattle.elab_unfold.specs.Places.{bit_pin, net_of, own_width}
use Rattle.elab_scope.specs.Nets.{named_nets}
use Rattle.elab_unfold.proofs.NetLaws.{net_known, net_there, net_ends, length-indices}

le_of : (a b : ℕ) → nat_le a b ≡ true → a ≤ b
le_of a b is = grind (arith, nat_tests)

of_le : (a b : ℕ) → a ≤ b → nat_le a b ≡ true
of_le a b low = grind (arith, nat_tests)

-- an index of a range lies between its ends
index_cases : (r : Range) (i : ℕ) → has_index (Some r) i ≡ true → ((r.right ≤ i) × (i ≤ r.left)) ⊎ ((r.left ≤ i) × (i ≤ r.right))
index_cases r i is = elim (or_either (nat_le r.right i && nat_le i r.left) (nat_le r.left i && nat_le i r.right) is) [
  | inl down ↦ (let both = and_both (nat_le r.right i) (nat_le i r.left) down in inl (le_of r.right i both.0, le_of i r.left both.1))
  | inr up ↦ (let both = and_both (nat_le r.left i) (nat_le i r.right) up in inr (le_of r.left i both.0, le_of i r.right both.1))
]

-- where an index stands
pub place_left : (range : Option Range) (r : Range) (i : ℕ) → range ≡ Some r → has_index range i ≡ true → i < r.left → slice_get (indices range) (r.left - i) ≡ Some i
place_left range r i is has low = ap (λ o. slice_get (indices o) (r.left - i)) is ∙ by (index_cases r i (ap (λ o. has_index o i) (sym is) ∙ has))
  where
    by : ((r.right ≤ i) × (i ≤ r.left)) ⊎ ((r.left ≤ i) × (i ≤ r.right)) → slice_get (range_indices r.left r.right) (r.left - i) ≡ Some i
    by (inl down) = index_from_left r.left r.right i down.0 down.1
    by (inr up) = absurd (omega (arith, up.0, low))

pub place_right : (range : Option Range) (r : Range) (i : ℕ) → range ≡ Some r → has_index range i ≡ true → r.left ≤ i → slice_get (indices range) (i - r.left) ≡ Some i
place_right range r i is has low = ap (λ o. slice_get (indices o) (i - r.left)) is ∙ by (index_cases r i (ap (λ o. has_index o i) (sym is) ∙ has))
  where
    by : ((r.right ≤ i) × (i ≤ r.left)) ⊎ ((r.left ≤ i) × (i ≤ r.right)) → slice_get (range_indices r.left r.right) (i - r.left) ≡ Some i
    by (inl down) =
        let same : i - r.left ≡ r.left - i = omega (arith, down.1, low) in
        ap (slice_get (range_indices r.left r.right)) same ∙ index_from_left r.left r.right i down.0 down.1
    by (inr up) = index_from_right r.left r.right i up.0 up.1

pub place_low : (range : Option Range) (k i : ℕ) → slice_get (indices range) k ≡ Some i → k < range_width range
place_low range k i at = omega (arith, slice_get_within (indices range) k i at, length-indices range)

-- nets that are declared

pub not_missing : (m : Module) (name : List ℕ) (range : Option Range) → net_of m name ≡ None → range_of m name ≡ Some range → ⊥
not_missing m name range none declares = let there = net_there m name range declares in none_some there.0 (sym none ∙ there.1)
  where
    none_some : (net : Net) → None ≡ Some net → ⊥
    none_some net e = cc

pub known_range : (o : Option (Option Range)) → is_some o ≡ true → (range : Option Range) × (o ≡ Some range)
known_range None is = absurd (true≢false (sym is))
known_range (Some range) is = (range, refl)

pub or_some : (f : Option Range → Bool) (o : Option (Option Range)) → option_map_or f o false ≡ true → (range : Option Range) × (o ≡ Some range) × (f range ≡ true)
or_some f None is = absurd (true≢false (sym is))
or_some f (Some range) is = (range, refl, is)

pub net_passes : (m : Module) (name : List ℕ) (net : Net) (f : Option Range → Bool) → net_of m name ≡ Some net → option_map_or f (range_of m name) false ≡ true → f net.range ≡ true
net_passes m name net f found is = ap (λ o. option_map_or f o false) (sym (net_known m name net found)) ∙ is

pub net_room : (m : Module) (name : List ℕ) (net : Net) → net_of m name ≡ Some net → net.first + range_width net.range ≤ own_width m
net_room m name net found = omega (arith, net_ends (named_nets m) 0 name net found)

-- parts

part_cases : (r : Range) (left right : ℕ) → has_part (Some r) left right ≡ true
    → ((r.right ≤ right) × (right ≤ left) × (left ≤ r.left)) ⊎ ((r.left ≤ left) × (left ≤ right) × (right ≤ r.right))
part_cases r left right is = elim (or_either (nat_le r.right right && nat_le right left && nat_le left r.left) (nat_le r.left left && nat_le left right && nat_le right r.right) is) [
  | inl down ↦
      let one = and_both (nat_le r.right right && nat_le right left) (nat_le left r.left) down in
      let two = and_both (nat_le r.right right) (nat_le right left) one.0 in
      inl (le_of r.right right two.0, le_of right left two.1, le_of left r.left one.1)
  | inr up ↦
      let one = and_both (nat_le r.left left && nat_le left right) (nat_le right r.right) up in
      let two = and_both (nat_le r.left left) (nat_le left right) one.0 in
      inr (le_of r.left left two.0, le_of left right two.1, le_of right r.right one.1)
]

either_true : (a b : Bool) → (a ≡ true) ⊎ (b ≡ true) → (a || b) ≡ true
either_true true b h = refl
either_true false b (inl e) = absurd (true≢false (sym e))
either_true false b (inr e) = e

both_true : (a b : Bool) → a ≡ true → b ≡ true → (a && b) ≡ true
both_true true b ea eb = eb
both_true false b ea eb = ea

pub part_left : (range : Option Range) (left right : ℕ) → has_part range left right ≡ true → has_index range left ≡ true
part_left None left right is = is
part_left (Some r) left right is = by (part_cases r left right is)
  where
    by : ((r.right ≤ right) × (right ≤ left) × (left ≤ r.left)) ⊎ ((r.left ≤ left) × (left ≤ right) × (right ≤ r.right)) → has_index (Some r) left ≡ true
    by (inl down) =
        let low : r.right ≤ left = omega (arith, down.0, down.1) in
        either_true (nat_le r.right left && nat_le left r.left) (nat_le r.left left && nat_le left r.right) (inl (both_true (nat_le r.right left) (nat_le left r.left) (of_le r.right left low) (of_le left r.left down.2)))
    by (inr up) =
        let low : left ≤ r.right = omega (arith, up.1, up.2) in
        either_true (nat_le r.right left && nat_le left r.left) (nat_le r.left left && nat_le left r.right) (inr (both_true (nat_le r.left left) (nat_le left r.right) (of_le r.left left up.0) (of_le left r.right low)))

-- the k-th index of a range that goes down, or up
some_at : (left right k i : ℕ) → slice_get (range_indices left right) k ≡ Some i → (right ≤ left) → (k ≤ left - right) × (i + k ≡ left)
some_at left right k i at down =
    let low : k < (left - right) + (right - left) + 1 = omega (arith, slice_get_within (range_indices left right) k i at, length-range_indices left right) in
    let there : slice_get (range_indices left right) (left - (left - k)) ≡ Some (left - k) = index_from_left left right (left - k) (omega (arith, low, down)) (omega arith) in
    let back : left - (left - k) ≡ k = omega (arith, low, down) in
    let same : i ≡ left - k = same_of (slice_get (range_indices left right) k) i (left - k) at (ap (slice_get (range_indices left right)) (sym back) ∙ there) in
    (omega (arith, low, down), omega (arith, same, low, down))
  where
    same_of : (o : Option ℕ) (x y : ℕ) → o ≡ Some x → o ≡ Some y → x ≡ y
    same_of o x y p q = cc

some_up : (left right k i : ℕ) → slice_get (range_indices left right) k ≡ Some i → (left ≤ right) → (k ≤ right - left) × (i ≡ left + k)
some_up left right k i at up =
    let low : k < (left - right) + (right - left) + 1 = omega (arith, slice_get_within (range_indices left right) k i at, length-range_indices left right) in
    let there : slice_get (range_indices left right) ((left + k) - left) ≡ Some (left + k) = index_from_right left right (left + k) (omega arith) (omega (arith, low, up)) in
    let back : (left + k) - left ≡ k = omega arith in
    let same : i ≡ left + k = same_of (slice_get (range_indices left right) k) i (left + k) at (ap (slice_get (range_indices left right)) (sym back) ∙ there) in
    (omega (arith, low, up), same)
  where
    same_of : (o : Option ℕ) (x y : ℕ) → o ≡ Some x → o ≡ Some y → x ≡ y
    same_of o x y p q = cc

-- the indices of a part stand together among those of the net
pub part_inside : (range : Option Range) (left right place k i : ℕ) → has_part range left right ≡ true → slice_get (indices range) place ≡ Some left → slice_get (range_indices left right) k ≡ Some i → slice_get (indices range) (place + k) ≡ Some i
part_inside None left right place k i is at there = absurd (true≢false (sym is))
part_inside (Some r) left right place k i is at there = by (part_cases r left right is)
  where
    by : ((r.right ≤ right) × (right ≤ left) × (left ≤ r.left)) ⊎ ((r.left ≤ left) × (left ≤ right) × (right ≤ r.right)) → slice_get (range_indices r.left r.right) (place + k) ≡ Some i
    by (inl down) =
        let own = some_at r.left r.right place left at (omega (arith, down.0, down.1, down.2)) in
        let inner = some_at left right k i there down.1 in
        let same : r.left - i ≡ place + k = omega (arith, own.1, inner.1) in
        ap (slice_get (range_indices r.left r.right)) (sym same) ∙ index_from_left r.left r.right i (omega (arith, down.0, down.1, inner.0, inner.1)) (omega (arith, own.1, inner.1))
    by (inr up) =
        let own = some_up r.left r.right place left at (omega (arith, up.0, up.1, up.2)) in
        let inner = some_up left right k i there up.1 in
        let same : i - r.left ≡ place + k = omega (arith, own.1, inner.1) in
        ap (slice_get (range_indices r.left r.right)) (sym same) ∙ index_from_right r.left r.right i (omega (arith, own.1, inner.1)) (omega (arith, up.1, up.2, inner.0, inner.1))

pub part_fits : (range : Option Range) (left right place : ℕ) → has_part range left right ≡ true → slice_get (indices range) place ≡ Some left → place + (((left - right) + (right - left)) + 1) ≤ range_width range
part_fits range left right place is at =
    let last : slice_get (range_indices left right) ((left - right) + (right - left)) ≡ Some right = end (way left right) in
    omega (arith, place_low range (place + ((left - right) + (right - left))) right (part_inside range left right place ((left - right) + (right - left)) right is at last))
  where
    way : (a b : ℕ) → (b ≤ a) ⊎ (a ≤ b)
    way a b = grind arith

    end : (right ≤ left) ⊎ (left ≤ right) → slice_get (range_indices left right) ((left - right) + (right - left)) ≡ Some right
    end (inl down) = let same : (left - right) + (right - left) ≡ left - right = omega (arith, down) in ap (slice_get (range_indices left right)) same ∙ index_from_left left right right (omega arith) down
    end (inr up) = let same : (left - right) + (right - left) ≡ right - left = omega (arith, up) in ap (slice_get (range_indices left right)) same ∙ index_from_right left right right up (omega arith)

-- Constants

pub length-word_bits : (word : Word) → length (word_bits word) ≡ word.width
length-word_bits word = length-map (reverse (range_with_len 0 word.width)) (λ i. bit_at word.value i == 1) ∙ length-reverse (range_with_len 0 word.width) ∙ length-range_with_len 0 word.width

pub word_bit : (word : Word) (k : ℕ) (d : Bool) → k < word.width → get_or (word_bits word) k d ≡ (bit_at word.value (word.width - 1 - k) == 1)
word_bit word k d low =
    let long : length (reverse (range_with_len 0 word.width)) ≡ word.width = length-reverse (range_with_len 0 word.width) ∙ length-range_with_len 0 word.width in
    get_or-map (λ i. bit_at word.value i == 1) (reverse (range_with_len 0 word.width)) k 0 d (omega (arith, long))
    ∙ ap (λ i. bit_at word.value i == 1)
    (get_or-reverse (range_with_len 0 word.width) k 0 (omega (arith, length-range_with_len 0 word.width))
    ∙ get_or-range_with_len 0 word.width (length (range_with_len 0 word.width) - 1 - k) 0 (omega (arith, length-range_with_len 0 word.width))
    ∙ omega (arith, length-range_with_len 0 word.width))

-- Parts of a concatenation

sound_parts : (p : Leaf → Bool) (parts : List Expr) (k : ℕ) (part : Expr) → list_all p (flat_map leaves parts) ≡ true → slice_get parts k ≡ Some part → list_all p (leaves part) ≡ true
sound_parts p [] k part all at = absurd (cc at)
sound_parts p (e ∷ parts) zero part all at =
    let both = and_both (list_all p (leaves e)) (list_all p (flat_map leaves parts)) (sym (list_all-append p (leaves e) (flat_map leaves parts)) ∙ all) in
    ap (λ x. list_all p (leaves x)) (sym (same_some at)) ∙ both.0
  where
    same_some : Some e ≡ Some part → e ≡ part
    same_some s = cc
sound_parts p (e ∷ parts) (suc k) part all at =
    sound_parts p parts k part (and_both (list_all p (leaves e)) (list_all p (flat_map leaves parts)) (sym (list_all-append p (leaves e) (flat_map leaves parts)) ∙ all)).1 at

pub part_sound : (m : Module) (e : Expr) (parts xs : List Expr) (i : ℕ) (part : Expr) → e ≡ Concat parts → xs ≡ parts → i < length xs → part ≡ get_or xs i part → is_sound m e ≡ true → is_sound m part ≡ true
part_sound m e parts xs i part is same low at sound =
    sound_parts (is_declared m) parts i part (ap (list_all (is_declared m)) (sym (leaves-Concat parts)) ∙ ap (is_sound m) (sym is) ∙ sound) (at_index xs parts i part same low at)

pub high_bit : (value i : ℕ) → value < 2 ^ 128 → 128 ≤ i → false ≡ (bit_at value i == 1)
high_bit value i low high =
    let same : 0 * 2 ^ 128 + value ≡ value = omega arith in
    sym (ap (λ n. n == 1) (ap (λ n. bit_at n i) (sym same) ∙ bit_at_cat_high 0 128 value i low high ∙ bit_at-zero (i - 128)))

pub constant_more : (word : Word) (k : ℕ) (bit : Bool) (one : Pin) → k < word.width → bit ≡ (bit_at word.value (word.width - 1 - k) == 1) → one ≡ bit_pin bit
    → map bit_pin (take k (word_bits word)) ++ one ∷ [] ≡ map bit_pin (take (k + 1) (word_bits word))
constant_more word k bit one low is made =
    ap (λ p. map bit_pin (take k (word_bits word)) ++ p ∷ []) (made ∙ ap bit_pin (is ∙ sym (word_bit word k bit low)))
    ∙ sym (map_push bit_pin (take k (word_bits word)) (get_or (word_bits word) k bit)) ∙ ap (map bit_pin) (sym (take_more (word_bits word) k bit (omega (arith, length-word_bits word))))
