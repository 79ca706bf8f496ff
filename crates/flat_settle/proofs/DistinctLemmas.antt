-- Names that don't repeat in flat order.
use Rattle.std.proofs.Common.{◌≡◌, ℕ, zero, suc, ◌<◌, List, [], ◌∷◌, ◌++◌, map, slice_get, Option, Some, None, refl, ap, sym, ◌∙◌, arith, inl, inr}
use Rattle.std.specs.List.{filter_map, cons_option, flat_map}
use Rattle.std.specs.Option.{option_map}
use Rattle.std.proofs.lemmas.Bool.{cases_eq, cases_lt}
use Rattle.std.proofs.lemmas.Option.{same_Some}
use Rattle.net_core.specs.declared.parts.Group.{Group}
use Rattle.net_core.specs.WellFormed.{bit_names, net_names}
use Rattle.net_graph.specs.Lists.{AllDiffer}
use Rattle.net_core.proofs.ListLemmas.{filter_map_some}
use Rattle.flat_settle.specs.declared.raw.RawCell.{RawCell}
use Rattle.flat_settle.specs.declared.raw.Raw.{Raw}
use Rattle.flat_settle.specs.Raw.{raw_identifiers}
use Rattle.flat_settle.specs.Refusals.{Named, Identifier, BitName, group_names, flat_order, HasRepeat}

module _ {X Y : Type 0} (f : X → Option Y) where
  -- two that are picked stand in their order
  pub two_picked : (xs : List X) (i j : ℕ) (a b : Y) → i < j → slice_get (filter_map f xs) i ≡ Some a → slice_get (filter_map f xs) j ≡ Some b
      → (p : ℕ) × (q : ℕ) × (x : X) × (z : X) × (p < q) × (slice_get xs p ≡ Some x) × (slice_get xs q ≡ Some z) × (f x ≡ Some a) × (f z ≡ Some b)
  two_picked [] i j a b low at there = absurd (cc at)
  two_picked (x ∷ xs) i j a b low at there = by (λ i j. two_picked xs i j a b) (f x) refl i j low at there
    where
      by : ((i j : ℕ) → i < j → slice_get (filter_map f xs) i ≡ Some a → slice_get (filter_map f xs) j ≡ Some b
          → (p : ℕ) × (q : ℕ) × (x : X) × (z : X) × (p < q) × (slice_get xs p ≡ Some x) × (slice_get xs q ≡ Some z) × (f x ≡ Some a) × (f z ≡ Some b))
          → (o : Option Y) → f x ≡ o → (i j : ℕ) → i < j → slice_get (cons_option o (filter_map f xs)) i ≡ Some a → slice_get (cons_option o (filter_map f xs)) j ≡ Some b
          → (p : ℕ) × (q : ℕ) × (y : X) × (z : X) × (p < q) × (slice_get (x ∷ xs) p ≡ Some y) × (slice_get (x ∷ xs) q ≡ Some z) × (f y ≡ Some a) × (f z ≡ Some b)
      by rest None is i j low at there = let own = rest i j low at there in (suc own.0, suc own.1, own.2, own.3, omega (arith, own.4), own.5, own.6, own.7, own.8)
      by rest (Some y) is zero zero low at there = absurd (omega (arith, low))
      by rest (Some y) is zero (suc j) low at there =
          let own = filter_map_some f xs j b there in
          (0, suc own.0, x, own.1, omega arith, refl, own.2, is ∙ at, own.3)
      by rest (Some y) is (suc i) zero low at there = absurd (omega (arith, low))
      by rest (Some y) is (suc i) (suc j) low at there = let own = rest i j (omega (arith, low)) at there in (suc own.0, suc own.1, own.2, own.3, omega (arith, own.4), own.5, own.6, own.7, own.8)

  -- where what is picked tells what it is picked from, no two are the same
  pub picked_differ : (xs : List X) → ((x z : X) (y : Y) → f x ≡ Some y → f z ≡ Some y → x ≡ z) → ((k : ℕ) (x : X) (j : ℕ) → slice_get xs k ≡ Some x → j < k → slice_get xs j ≡ Some x → ⊥) → AllDiffer (filter_map f xs)
  picked_differ xs tells none i j y at there = elim (cases_eq i j) [
    | inl same ↦ same
    | inr other ↦ absurd (elim (cases_lt i j) [
      | inl low ↦ (let own = two_picked xs i j y y low at there in none own.1 own.3 own.0 own.6 own.4 (own.5 ∙ ap (λ (o : X). Some o) (tells own.2 own.3 y own.7 own.8)))
      | inr high ↦ (let own = two_picked xs j i y y (omega (arith, high, other)) there at in none own.1 own.3 own.0 own.6 own.4 (own.5 ∙ ap (λ (o : X). Some o) (tells own.2 own.3 y own.7 own.8)))
    ])
  ]

  pub picked_append : (xs ys : List X) → filter_map f (xs ++ ys) ≡ filter_map f xs ++ filter_map f ys
  picked_append [] ys = refl
  picked_append (x ∷ xs) ys = by (f x) (picked_append xs ys)
    where
      by : (o : Option Y) → filter_map f (xs ++ ys) ≡ filter_map f xs ++ filter_map f ys → cons_option o (filter_map f (xs ++ ys)) ≡ cons_option o (filter_map f xs) ++ filter_map f ys
      by None rest = rest
      by (Some y) rest = ap (λ zs. y ∷ zs) rest

abbrev pub identifier_of : Named → Option (List ℕ)
identifier_of (Identifier name) = Some name
identifier_of (BitName name) = None

abbrev pub bit_of : Named → Option (List ℕ)
bit_of (Identifier name) = None
bit_of (BitName name) = Some name

one_identifier : (a b : Named) (name : List ℕ) → identifier_of a ≡ Some name → identifier_of b ≡ Some name → a ≡ b
one_identifier (Identifier x) (Identifier y) name is there = ap Identifier (same_Some _ _ (is ∙ sym there))
one_identifier (Identifier x) (BitName y) name is there = absurd (cc there)
one_identifier (BitName x) b name is there = absurd (cc is)

one_bit : (a b : Named) (name : List ℕ) → bit_of a ≡ Some name → bit_of b ≡ Some name → a ≡ b
one_bit (BitName x) (BitName y) name is there = ap BitName (same_Some _ _ (is ∙ sym there))
one_bit (BitName x) (Identifier y) name is there = absurd (cc there)
one_bit (Identifier x) b name is there = absurd (cc is)

no_identifiers : (names : List (List ℕ)) → filter_map identifier_of (map BitName names) ≡ []
no_identifiers [] = refl
no_identifiers (name ∷ names) = no_identifiers names

all_bits : (names : List (List ℕ)) → filter_map bit_of (map BitName names) ≡ names
all_bits [] = refl
all_bits (name ∷ names) = ap (λ zs. name ∷ zs) (all_bits names)

group_identifiers : (groups : List Group) → filter_map identifier_of (flat_map group_names groups) ≡ map (λ (group : Group). group.name) groups
group_identifiers [] = refl
group_identifiers (group ∷ groups) =
    ap (λ zs. group.name ∷ zs) (picked_append identifier_of (map BitName (bit_names group)) (flat_map group_names groups)
    ∙ ap (λ zs. zs ++ filter_map identifier_of (flat_map group_names groups)) (no_identifiers (bit_names group)) ∙ group_identifiers groups)

group_bits : (groups : List Group) → filter_map bit_of (flat_map group_names groups) ≡ net_names groups
group_bits [] = refl
group_bits (group ∷ groups) =
    picked_append bit_of (map BitName (bit_names group)) (flat_map group_names groups)
    ∙ ap (λ zs. zs ++ filter_map bit_of (flat_map group_names groups)) (all_bits (bit_names group)) ∙ ap (λ zs. bit_names group ++ zs) (group_bits groups)

cell_identifiers : (cells : List RawCell) → filter_map identifier_of (filter_map (λ (cell : RawCell). option_map Identifier cell.name) cells) ≡ filter_map (λ (cell : RawCell). cell.name) cells
cell_identifiers [] = refl
cell_identifiers (cell ∷ cells) = by cell.name (cell_identifiers cells)
  where
    by : (o : Option (List ℕ)) → filter_map identifier_of (filter_map (λ (cell : RawCell). option_map Identifier cell.name) cells) ≡ filter_map (λ (cell : RawCell). cell.name) cells
        → filter_map identifier_of (cons_option (option_map Identifier o) (filter_map (λ (cell : RawCell). option_map Identifier cell.name) cells)) ≡ cons_option o (filter_map (λ (cell : RawCell). cell.name) cells)
    by None rest = rest
    by (Some name) rest = ap (λ zs. name ∷ zs) rest

cell_bits : (cells : List RawCell) → filter_map bit_of (filter_map (λ (cell : RawCell). option_map Identifier cell.name) cells) ≡ []
cell_bits [] = refl
cell_bits (cell ∷ cells) = by cell.name (cell_bits cells)
  where
    by : (o : Option (List ℕ)) → filter_map bit_of (filter_map (λ (cell : RawCell). option_map Identifier cell.name) cells) ≡ []
        → filter_map bit_of (cons_option (option_map Identifier o) (filter_map (λ (cell : RawCell). option_map Identifier cell.name) cells)) ≡ []
    by None rest = rest
    by (Some name) rest = rest

append_none : (xs : List (List ℕ)) → xs ++ [] ≡ xs
append_none [] = refl
append_none (x ∷ xs) = ap (λ zs. x ∷ zs) (append_none xs)

module _ (raw : Raw) (distinct : ¬ HasRepeat (flat_order raw)) where
  abbrev cells_named : List Named
  cells_named = filter_map (λ (cell : RawCell). option_map Identifier cell.name) raw.cells

  none_repeats : (k : ℕ) (one : Named) (j : ℕ) → slice_get (flat_order raw) k ≡ Some one → j < k → slice_get (flat_order raw) j ≡ Some one → ⊥
  none_repeats k one j at low there = distinct (k, one, (at, j, low, there))

  identifiers_are : filter_map identifier_of (flat_order raw) ≡ raw_identifiers raw
  identifiers_are =
      picked_append identifier_of (flat_map group_names raw.groups) cells_named
      ∙ ap (λ zs. zs ++ filter_map identifier_of cells_named) (group_identifiers raw.groups) ∙ ap (λ zs. map (λ (group : Group). group.name) raw.groups ++ zs) (cell_identifiers raw.cells)

  bits_are : filter_map bit_of (flat_order raw) ≡ net_names raw.groups
  bits_are =
      picked_append bit_of (flat_map group_names raw.groups) cells_named
      ∙ ap (λ zs. zs ++ filter_map bit_of cells_named) (group_bits raw.groups) ∙ ap (λ zs. net_names raw.groups ++ zs) (cell_bits raw.cells) ∙ append_none (net_names raw.groups)

  pub identifiers_distinct : AllDiffer (raw_identifiers raw)
  identifiers_distinct i j name at there =
      picked_differ identifier_of (flat_order raw) one_identifier none_repeats i j name (ap (λ zs. slice_get zs i) identifiers_are ∙ at) (ap (λ zs. slice_get zs j) identifiers_are ∙ there)

  pub names_distinct : AllDiffer (net_names raw.groups)
  names_distinct i j name at there =
      picked_differ bit_of (flat_order raw) one_bit none_repeats i j name (ap (λ zs. slice_get zs i) bits_are ∙ at) (ap (λ zs. slice_get zs j) bits_are ∙ there)
