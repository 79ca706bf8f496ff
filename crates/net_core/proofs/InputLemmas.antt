-- The input bits of a netlist are all different.
use Rattle.std.proofs.Common.{◌≡◌, ℕ, zero, suc, ◌+◌, ◌≤◌, Bool, true, false, not, cond, List, [], ◌∷◌, ◌++◌, map, filter, length, take, slice_get, Option, Some, None, refl, ap, sym, ◌∙◌, subst, arith, inl, inr}
use Rattle.std.specs.List.{range_with_len, flat_map}
use Rattle.std.specs.Option.{option_map_or}
use Rattle.std.proofs.lemmas.List.{length-map}
use Rattle.std.proofs.lemmas.List.Sums.{sum_by-cons}
use Rattle.std.proofs.lemmas.Option.{same_Some}
use Rattle.net_core.specs.declared.parts.NetId.{NetId}
use Rattle.net_core.specs.declared.parts.Group.{Group}
use Rattle.net_core.specs.declared.parts.Port.{Port}
use Rattle.net_core.specs.Netlist.{Netlist, parts_of, group_nets, all_nets, net_count, port_nets, input_bits, input_nets, is_clock}
use Rattle.net_core.specs.WellFormed.{AllDiffer, IsFlat}
use Rattle.net_core.proofs.ListLemmas.{slice_get_append}
use Rattle.net_core.proofs.NetNameLemmas.{range_number}
use Rattle.net_core.proofs.PartsLemmas.{filter_some}

-- numbers from a bound on, all different
record IsFresh (low : ℕ) (xs : List ℕ) : Type 0 where
  above : (i x : ℕ) → slice_get xs i ≡ Some x → low ≤ x
  differ : AllDiffer xs

fresh_none : (low : ℕ) → IsFresh low []
fresh_none low = record { above = λ i x at. absurd (cc at); differ = λ i j x at there. absurd (cc at) }

fresh_lower : (low high : ℕ) (xs : List ℕ) → low ≤ high → IsFresh high xs → IsFresh low xs
fresh_lower low high xs order fresh = record { above = λ i x at. omega (arith, order, fresh.above i x at); differ = fresh.differ }

-- a range and then fresh numbers behind it
fresh_join : (low count high : ℕ) (xs : List ℕ) → low + count ≤ high → IsFresh high xs → IsFresh low (range_with_len low count ++ xs)
fresh_join low count high xs order fresh = record { above = above; differ = differ }
  where
    above : (i x : ℕ) → slice_get (range_with_len low count ++ xs) i ≡ Some x → low ≤ x
    above i x at = elim (slice_get_append (range_with_len low count) xs i x at)
        [ inl here ↦ omega (arith, (range_number low count i x here).0) | inr later ↦ omega (arith, order, fresh.above later.0 x later.2) ]

    differ : AllDiffer (range_with_len low count ++ xs)
    differ i j x at there = elim (slice_get_append (range_with_len low count) xs i x at) [
      | inl here ↦ (elim (slice_get_append (range_with_len low count) xs j x there) [
        | inl here' ↦ (let a = range_number low count i x here in let b = range_number low count j x here' in omega (arith, a.0, b.0))
        | inr later ↦ absurd (let a = range_number low count i x here in omega (arith, a.0, a.1, order, fresh.above later.0 x later.2))
      ])
      | inr later ↦ (elim (slice_get_append (range_with_len low count) xs j x there) [
        | inl here ↦ absurd (let a = range_number low count j x here in omega (arith, a.0, a.1, order, fresh.above later.0 x later.2))
        | inr later' ↦ (let same : later.0 ≡ later'.0 = fresh.differ later.0 later'.0 x later.2 later'.2 in omega (arith, later.1, later'.1, same))
      ])
    ]

range_append : (low a b : ℕ) (xs ys : List ℕ) → length xs ≡ a → xs ++ ys ≡ range_with_len low (a + b) → (xs ≡ range_with_len low a) × (ys ≡ range_with_len (low + a) b)
range_append low a b [] ys size is =
    let none : 0 ≡ a = size in
    let sum : a + b ≡ b = omega arith in
    let start : low ≡ low + a = omega arith in
    (ap (range_with_len low) none, is ∙ ap (range_with_len low) sum ∙ ap (λ k. range_with_len k b) start)
range_append low zero b (x ∷ xs) ys size is = absurd (omega (arith, size))
range_append low (suc a) b (x ∷ xs) ys size is =
    let sum : suc a + b ≡ suc (a + b) = omega arith in
    let whole : x ∷ (xs ++ ys) ≡ low ∷ range_with_len (low + 1) (a + b) = is ∙ ap (range_with_len low) sum in
    let head : x ≡ low = cc whole in
    let tail : xs ++ ys ≡ range_with_len (low + 1) (a + b) = cc whole in
    let rest = range_append (low + 1) a b xs ys (omega (arith, size)) tail in
    let start : low + 1 + a ≡ low + suc a = omega arith in
    (ap (λ y. y ∷ xs) head ∙ ap (λ ys. low ∷ ys) rest.0, rest.1 ∙ ap (λ k. range_with_len k b) start)

-- the nets of a group begin where those before it end
group_range : (groups : List Group) (low g : ℕ) (group : Group) → all_nets groups ≡ range_with_len low (net_count groups) → slice_get groups g ≡ Some group
    → group_nets group ≡ range_with_len (low + net_count (take g groups)) (length group.bits)
group_range [] low g group numbered at = absurd (cc at)
group_range (first ∷ groups) low zero group numbered at =
    let is : first ≡ group = same_Some _ _ at in
    let split = range_append low (length first.bits) (net_count groups) (group_nets first) (all_nets groups) (length-map first.bits (λ (b : NetId). b.0))
    (numbered ∙ ap (range_with_len low) (sum_by-cons (λ (group : Group). length group.bits) first groups)) in
    let start : low ≡ low + net_count (take 0 (first ∷ groups)) = omega arith in
    subst (λ (o : Group). group_nets o ≡ range_with_len (low + net_count (take 0 (first ∷ groups))) (length o.bits)) is (split.0 ∙ ap (λ k. range_with_len k (length first.bits)) start)
group_range (first ∷ groups) low (suc g) group numbered at =
    let split = range_append low (length first.bits) (net_count groups) (group_nets first) (all_nets groups) (length-map first.bits (λ (b : NetId). b.0))
    (numbered ∙ ap (range_with_len low) (sum_by-cons (λ (group : Group). length group.bits) first groups)) in
    let rest = group_range groups (low + length first.bits) g group split.1 at in
    let start : low + length first.bits + net_count (take g groups) ≡ low + net_count (take (suc g) (first ∷ groups)) =
    (let e = sum_by-cons (λ (group : Group). length group.bits) first (take g groups) in omega (arith, e)) in
    rest ∙ ap (λ k. range_with_len k (length group.bits)) start

count_more : (groups : List Group) (g : ℕ) (group : Group) → slice_get groups g ≡ Some group → net_count (take (suc g) groups) ≡ net_count (take g groups) + length group.bits
count_more [] g group at = absurd (cc at)
count_more (first ∷ groups) zero group at =
    let is : first ≡ group = same_Some _ _ at in
    sum_by-cons (λ (group : Group). length group.bits) first [] ∙ (let e : length first.bits ≡ length group.bits = ap (λ (o : Group). length o.bits) is in omega (arith, e))
count_more (first ∷ groups) (suc g) group at =
    let rest = count_more groups g group at in
    let a = sum_by-cons (λ (group : Group). length group.bits) first (take (suc g) groups) in
    let b = sum_by-cons (λ (group : Group). length group.bits) first (take g groups) in
    omega (arith, rest, a, b)

take_rises : (groups : List Group) (g : ℕ) → net_count (take g groups) ≤ net_count (take (g + 1) groups)
take_rises [] g = by g
  where
    by : (g : ℕ) → net_count (take g []) ≤ net_count (take (g + 1) [])
    by zero = omega arith
    by (suc g) = omega arith
take_rises (first ∷ groups) zero = omega arith
take_rises (first ∷ groups) (suc g) =
    let rest = take_rises groups g in
    let next : suc g + 1 ≡ suc (g + 1) = omega arith in
    let a = sum_by-cons (λ (group : Group). length group.bits) first (take g groups) in
    let b = sum_by-cons (λ (group : Group). length group.bits) first (take (g + 1) groups) in
    let f : net_count (take (suc g + 1) (first ∷ groups)) ≡ net_count (take (suc (g + 1)) (first ∷ groups)) = ap (λ k. net_count (take k (first ∷ groups))) next in
    omega (arith, rest, a, b, f)

-- the bits of ports whose groups follow one another
ports_fresh : (groups : List Group) → all_nets groups ≡ range_with_len 0 (net_count groups) → (test : Port → Bool) (ports : List Port) (g : ℕ) → map (λ (port : Port). port.group) ports ≡ range_with_len g (length ports)
    → IsFresh (net_count (take g groups)) (flat_map (port_nets groups) (filter test ports))
ports_fresh groups numbered test [] g order = fresh_none (net_count (take g groups))
ports_fresh groups numbered test (port ∷ ports) g order = by (test port) (slice_get groups port.group) refl
    (let tail : map (λ (port : Port). port.group) ports ≡ range_with_len (g + 1) (length ports) = cc order in ports_fresh groups numbered test ports (g + 1) tail)
  where
    own : port.group ≡ g
    own = cc order

    by : (b : Bool) (o : Option Group) → slice_get groups port.group ≡ o → IsFresh (net_count (take (g + 1) groups)) (flat_map (port_nets groups) (filter test ports))
        → IsFresh (net_count (take g groups)) (flat_map (port_nets groups) (cond b (port ∷ filter test ports) (filter test ports)))
    by false o there rest = fresh_lower _ _ _ (take_rises groups g) rest
    by true None there rest =
        subst (λ (xs : List ℕ). IsFresh (net_count (take g groups)) (xs ++ flat_map (port_nets groups) (filter test ports))) (sym (ap (λ (o : Option Group). option_map_or group_nets o []) there))
        (fresh_lower _ _ _ (take_rises groups g) rest)
    by true (Some group) there rest =
        let at : slice_get groups g ≡ Some group = ap (slice_get groups) (sym own) ∙ there in
        let nets : port_nets groups port ≡ range_with_len (net_count (take g groups)) (length group.bits) =
        ap (λ (o : Option Group). option_map_or group_nets o []) there ∙ group_range groups 0 g group numbered at
        ∙ (let e : 0 + net_count (take g groups) ≡ net_count (take g groups) = omega arith in ap (λ k. range_with_len k (length group.bits)) e) in
        let next : g + 1 ≡ suc g = omega arith in
        let ends : net_count (take g groups) + length group.bits ≤ net_count (take (g + 1) groups) =
        (let e = count_more groups g group at in let f : net_count (take (g + 1) groups) ≡ net_count (take (suc g) groups) = ap (λ k. net_count (take k groups)) next in omega (arith, e, f)) in
        subst (λ (xs : List ℕ). IsFresh (net_count (take g groups)) (xs ++ flat_map (port_nets groups) (filter test ports))) (sym nets)
        (fresh_join (net_count (take g groups)) (length group.bits) (net_count (take (g + 1) groups)) (flat_map (port_nets groups) (filter test ports)) ends rest)

-- a test keeps different numbers different
filter_differ : (test : ℕ → Bool) (xs : List ℕ) → AllDiffer xs → AllDiffer (filter test xs)
filter_differ test [] differ = differ
filter_differ test (x ∷ xs) differ = by (test x) (filter_differ test xs (λ i j y at there. (let e : suc i ≡ suc j = differ (suc i) (suc j) y at there in omega arith)))
  where
    by : (b : Bool) → AllDiffer (filter test xs) → AllDiffer (cond b (x ∷ filter test xs) (filter test xs))
    by false rest i j y at there = rest i j y at there
    by true rest zero zero y at there = refl
    by true rest zero (suc j) y at there =
        let own = filter_some test xs j y there in
        absurd (let e : 0 ≡ suc own.0 = differ 0 (suc own.0) y at own.1 in omega arith)
    by true rest (suc i) zero y at there =
        let own = filter_some test xs i y at in
        absurd (let e : suc own.0 ≡ 0 = differ (suc own.0) 0 y own.1 there in omega arith)
    by true rest (suc i) (suc j) y at there = ap (λ (k : ℕ). suc k) (rest i j y at there)

pub inputs_differ : (net : Netlist) → IsFlat net → AllDiffer (input_nets net)
inputs_differ net flat =
    filter_differ (λ n. not (is_clock net n)) (input_bits (parts_of net))
    (ports_fresh net.groups flat.formed.numbering (λ (port : Port). not port.output) net.ports 0 flat.formed.port_order).differ
