-- Names by numbers, as a set of keys keeps them.
use Rattle.std.proofs.Common.{◌≡◌, ℕ, zero, suc, ◌<◌, Bool, true, false, List, [], ◌∷◌, ◌++◌, map, slice_get, Some, ap, sym, ◌∙◌, subst, arith, inl, inr, true≢false, if◌then◌else◌}
use Rattle.std.specs.List.{IsDistinct, list_any, AllByRecursion}
use Rattle.std.specs.Option.{option_map}
use Rattle.std.specs.Str.{bytes_eq}
use Rattle.std.proofs.lemmas.Bool.{cases_eq, cases_lt}
use Rattle.std.proofs.lemmas.Map.Keys.{IsDistinct-tail, IsDistinct-head}
use Rattle.std.proofs.lemmas.Option.{slice_get-map, same_Some}
use Rattle.std.proofs.lemmas.Slice.Eq.{bytes_eq-Decides}
use Rattle.net_graph.specs.Lists.{AllDiffer}
use Rattle.net_core.proofs.ListLemmas.{option_map_some, slice_get_left}
use Rattle.flat_settle.specs.Naming.{Grows}

all_at : {K : Type 0} (P : K → Type 0) (xs : List K) (j : ℕ) (y : K) → AllByRecursion P xs → slice_get xs j ≡ Some y → P y
all_at P [] j y all at = absurd (cc at)
all_at {K} P (x ∷ xs) zero y all at = subst P (same_Some x y at) all.0
all_at P (x ∷ xs) (suc j) y all at = all_at P xs j y all.1 at

distinct_at : {K : Type 0} (e : K → K → Bool) (xs : List K) (i j : ℕ) (x y : K) → IsDistinct e xs → i < j → slice_get xs i ≡ Some x → slice_get xs j ≡ Some y → e x y ≡ false
distinct_at e [] i j x y distinct low at there = absurd (cc at)
distinct_at e (z ∷ zs) zero zero x y distinct low at there = absurd (omega (arith, low))
distinct_at {K} e (z ∷ zs) zero (suc j) x y distinct low at there = ap (λ (k : K). e k y) (sym (same_Some z x at)) ∙ all_at (λ k. e z k ≡ false) zs j y (IsDistinct-head e z zs distinct) there
distinct_at e (z ∷ zs) (suc i) zero x y distinct low at there = absurd (omega (arith, low))
distinct_at e (z ∷ zs) (suc i) (suc j) x y distinct low at there = distinct_at e zs i j x y (IsDistinct-tail e z zs distinct) (omega (arith, low)) at there

module _ {K : Type 0} (f : K → List ℕ) where
  mapped : (keys : List K) (n : ℕ) (name : List ℕ) → slice_get (map f keys) n ≡ Some name → (key : K) × (slice_get keys n ≡ Some key) × (f key ≡ name)
  mapped keys n name at = option_map_some f (slice_get keys n) name (sym (slice_get-map f keys n) ∙ at)

  pub number_at : (keys : List K) (n : ℕ) (own key : K) (name : List ℕ) → f own ≡ name → slice_get keys n ≡ Some key → bytes_eq (f own) (f key) ≡ true → slice_get (map f keys) n ≡ Some name
  number_at keys n own key name is at same =
      slice_get-map f keys n ∙ ap (option_map f) at ∙ ap (λ (x : List ℕ). Some x) (sym ((bytes_eq-Decides (f own) (f key)).0 same) ∙ is)

  pub numbers_grow : (old new : List K) (key : K) → new ≡ (if list_any (λ other. bytes_eq (f key) (f other)) old then old else old ++ key ∷ []) → Grows (map f old) (map f new)
  numbers_grow old new key is n name at =
      let own = mapped old n name at in
      slice_get-map f new n ∙ ap (option_map f) (ap (λ (keys : List K). slice_get keys n) is ∙ by (list_any (λ other. bytes_eq (f key) (f other)) old) n own.0 own.1) ∙ ap (λ (x : List ℕ). Some x) own.2
    where
      by : (b : Bool) (n : ℕ) (x : K) → slice_get old n ≡ Some x → slice_get (if b then old else old ++ key ∷ []) n ≡ Some x
      by true n x there = there
      by false n x there = slice_get_left old (key ∷ []) n x there

  pub numbers_differ : (keys : List K) → IsDistinct (λ x y. bytes_eq (f x) (f y)) keys → AllDiffer (map f keys)
  numbers_differ keys distinct i j name at there =
      let own = mapped keys i name at in let other = mapped keys j name there in
      let same : f own.0 ≡ f other.0 = own.2 ∙ sym other.2 in
      elim (cases_eq i j) [
        | inl is ↦ is
        | inr apart ↦ absurd (elim (cases_lt i j) [
          | inl low ↦ true≢false (sym ((bytes_eq-Decides (f own.0) (f other.0)).1 same) ∙ distinct_at (λ x y. bytes_eq (f x) (f y)) keys i j own.0 other.0 distinct low own.1 other.1)
          | inr high ↦ true≢false (sym ((bytes_eq-Decides (f other.0) (f own.0)).1 (sym same)) ∙ distinct_at (λ x y. bytes_eq (f x) (f y)) keys j i other.0 own.0 distinct (omega (arith, high, apart)) other.1 own.1)
        ])
      ]
