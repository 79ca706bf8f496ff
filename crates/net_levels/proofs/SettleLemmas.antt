-- The one run of a netlist with ranks: the bits at a clock by recursion on the rank, the stored bits clock by clock.
use Rattle.std.proofs.Common.{◌≡◌, ℕ, zero, suc, ◌+◌, ◌<◌, ◌≤◌, Bool, true, false, not, List, [], ◌∷◌, ◌++◌, map, length, take, slice_get, slice_index_or, Option, Some, None, refl, ap, sym, ◌∙◌, subst, arith, inl, inr, ◌⊎◌, get_or}
use Rattle.std.specs.Option.{option_map, option_map_or}
use Rattle.std.proofs.lemmas.List.{take_more, take_all, length-map}
use Rattle.std.proofs.lemmas.Option.{slice_get-map, slice_get-get_or, get_or_from_slice_get, same_Some}
use Rattle.net_core.specs.declared.parts.Cell.{Cell}
use Rattle.net_core.specs.CellTable.{output, initial, next_content}
use Rattle.net_core.specs.Netlist.{Netlist, parts_of, Drives, Reads, HasDriver, IsIn, IsData, is_clock, is_driven, input_nets, input_bits}
use Rattle.net_core.specs.WellFormed.{IsFlat, Each}
use Rattle.net_core.specs.Run.{input_pins, IsSettled, IsStart, IsNext, StandsFor, IsOneRun}
use Rattle.net_core.specs.Cycle.{IsRanked}
use Rattle.net_core.proofs.PartsLemmas.{filter_some}
use Rattle.net_core.proofs.DependLemmas.{output_same}
use Rattle.net_core.proofs.InputLemmas.{inputs_differ}
use Rattle.net_core.proofs.RunLemmas.{data_source, input_data, reads_data, pins_agree, same_size, stands_next, stands_none}
use Rattle.net_levels.specs.Levels.{HasOneRun, IsRowOf}

-- lists are equal whose elements are
same_list : {A : Type 0} (xs ys : List A) → length xs ≡ length ys → ((i : ℕ) (x y : A) → slice_get xs i ≡ Some x → slice_get ys i ≡ Some y → x ≡ y) → xs ≡ ys
same_list [] [] size same = refl
same_list [] (y ∷ ys) size same = absurd (omega (arith, size))
same_list (x ∷ xs) [] size same = absurd (omega (arith, size))
same_list (x ∷ xs) (y ∷ ys) size same =
    ap (λ z. z ∷ xs) (same 0 x y refl refl) ∙ ap (λ rest. y ∷ rest) (same_list xs ys (omega (arith, size)) (λ i a b. same (suc i) a b))

map_some : {A B : Type 0} (f : A → B) (xs : List A) (i : ℕ) (y : B) → slice_get (map f xs) i ≡ Some y → (x : A) × (slice_get xs i ≡ Some x) × (f x ≡ y)
map_some f xs i y at = by (slice_get xs i) refl
  where
    by : (o : Option _) → slice_get xs i ≡ o → (x : _) × (slice_get xs i ≡ Some x) × (f x ≡ y)
    by None is = absurd (cc (sym (slice_get-map f xs i ∙ ap (option_map f) is) ∙ at))
    by (Some x) is = (x, is, same_Some _ _ (sym (slice_get-map f xs i ∙ ap (option_map f) is) ∙ at))

module _ (net : Netlist) (flat : IsFlat net) (rank : ℕ → ℕ) (ranked : IsRanked net rank) where
  -- what gives a net its bit
  abbrev Source : ℕ → Type 0
  Source n = IsIn (input_nets net) n ⊎ HasDriver net.cells n

  -- an input bit is on no output pin
  apart : (n : ℕ) → IsIn (input_nets net) n → HasDriver net.cells n → ⊥
  apart n (k, at) driver =
      let own = filter_some (λ m. not (is_clock net m)) (input_bits (parts_of net)) k n at in
      flat.formed.sources.no_driven_input n (own.0, own.1) driver

  abbrev source_by : (n : ℕ) (d k : Bool) → is_driven net n ≡ d → is_clock net n ≡ k → Option (Source n)
  source_by n true false driven no_clock = Some (data_source net flat n (record { driven = driven; no_clock = no_clock }))
  source_by n true true driven no_clock = None
  source_by n false k driven no_clock = None

  source_of : (n : ℕ) → Option (Source n)
  source_of n = source_by n (is_driven net n) (is_clock net n) refl refl

  -- a data net has a source
  source_is_by : (n : ℕ) (d k : Bool) (e : is_driven net n ≡ d) (f : is_clock net n ≡ k) → d ≡ true → k ≡ false → (own : Source n) × (source_by n d k e f ≡ Some own)
  source_is_by n true false e f driven no_clock = (data_source net flat n (record { driven = e; no_clock = f }), refl)
  source_is_by n true true e f driven no_clock = absurd (cc no_clock)
  source_is_by n false k e f driven no_clock = absurd (cc driven)

  source_is : (n : ℕ) → IsData net n → (own : Source n) × (source_of n ≡ Some own)
  unfolding source_of
  source_is n is = source_is_by n (is_driven net n) (is_clock net n) refl refl is.driven is.no_clock

  module _ (row : List Bool) (content : ℕ → ℕ → Bool) where
    -- the bit of a net with this source, from the bits of the nets that it depends on
    abbrev bit_from : (ℕ → Bool) → (n : ℕ) → Option (Source n) → Bool
    bit_from bit n None = false
    bit_from bit n (Some (inl own)) = slice_index_or row own.0 false
    bit_from bit n (Some (inr own)) = output own.1.kind (input_pins bit own.1) (content own.0) own.2

    -- the bit of a net, with so much fuel for what it depends on
    pub value : ℕ → ℕ → Bool
    value zero n = false
    value (suc fuel) n = bit_from (value fuel) n (source_of n)

    value_suc : (fuel n : ℕ) → value (suc fuel) n ≡ bit_from (value fuel) n (source_of n)
    unfolding value
    value_suc fuel n = refl

    -- the bit of an output needs the nets alone on which it depends
    output_agree : (a b : ℕ → Bool) (n c : ℕ) (cell : Cell) (k : ℕ) → Drives net.cells c cell k n → IsData net n
        → ((m : ℕ) → rank m < rank n → IsData net m → a m ≡ b m) → output cell.kind (input_pins a cell) (content c) k ≡ output cell.kind (input_pins b cell) (content c) k
    output_agree a b n c cell k drives is before =
        output_same cell.kind (input_pins a cell) (input_pins b cell) (content c) (content c) k (same_size a b cell)
        (λ i counts. pins_agree a b cell i (λ m from.
        let reads : Reads net.cells c cell i m = record { at = drives.at; from = from } in
        before m (ranked m n (record { c = c; cell = cell; k = k; i = i; drives = drives; reads = reads; depends_on = counts; carries_data = is })) (reads_data net flat c cell k n i m drives is reads)))
        (λ i stores. refl)

    from_agree : (a b : ℕ → Bool) (n : ℕ) (own : Option (Source n)) → IsData net n → ((m : ℕ) → rank m < rank n → IsData net m → a m ≡ b m) → bit_from a n own ≡ bit_from b n own
    from_agree a b n None is before = refl
    from_agree a b n (Some (inl own)) is before = refl
    from_agree a b n (Some (inr own)) is before = output_agree a b n own.0 own.1 own.2 own.3 is before

    value_same : (f g n : ℕ) → rank n < f → rank n < g → IsData net n → value f n ≡ value g n
    value_same zero g n low high is = absurd (omega (arith, low))
    value_same (suc f) zero n low high is = absurd (omega (arith, high))
    value_same (suc f) (suc g) n low high is =
        value_suc f n
        ∙ from_agree (value f) (value g) n (source_of n) is (λ m less own. value_same f g m (omega (arith, low, less)) (omega (arith, high, less)) own)
        ∙ sym (value_suc g n)

    abbrev settled_bit : ℕ → Bool
    settled_bit n = value (suc (rank n)) n

    output_bit : (c : ℕ) (cell : Cell) (k n : ℕ) → Drives net.cells c cell k n → IsData net n → settled_bit n ≡ output cell.kind (input_pins settled_bit cell) (content c) k
    output_bit c cell k n drives is =
        let own = source_is n is in
        value_suc (rank n) n ∙ ap (bit_from (value (rank n)) n) own.1 ∙ by own.0
      where
        by : (own : Source n) → bit_from (value (rank n)) n (Some own) ≡ output cell.kind (input_pins settled_bit cell) (content c) k
        by (inl own) = absurd (apart n own (c, cell, k, drives))
        by (inr own) =
            let same = flat.formed.sources.one_driver own.0 c own.1 cell own.2 k n own.3 drives in
            let one : own.1 ≡ cell = same_Some _ _ (sym own.3.at ∙ ap (slice_get net.cells) same.0 ∙ drives.at) in
            ap (λ (d : Cell). output d.kind (input_pins (value (rank n)) d) (content own.0) own.2) one
            ∙ ap (λ (d : ℕ). output cell.kind (input_pins (value (rank n)) cell) (content d) own.2) same.0
            ∙ ap (output cell.kind (input_pins (value (rank n)) cell) (content c)) same.1
            ∙ output_agree (value (rank n)) settled_bit n c cell k drives is (λ m less own. value_same (rank n) (suc (rank m)) m less (omega arith) own)

    input_bit : (k n : ℕ) (y : Bool) → slice_get (input_nets net) k ≡ Some n → slice_get row k ≡ Some y → settled_bit n ≡ y
    input_bit k n y at on =
        let own = source_is n (input_data net flat n (k, at)) in
        value_suc (rank n) n ∙ ap (bit_from (value (rank n)) n) own.1 ∙ by own.0
      where
        by : (own : Source n) → bit_from (value (rank n)) n (Some own) ≡ y
        by (inl own) =
            let same : own.0 ≡ k = inputs_differ net flat own.0 k n own.1 at in
            ap (λ i. slice_index_or row i false) same ∙ get_or_from_slice_get row k y false on
        by (inr own) = absurd (apart n (k, at) own)

    pub settles : length row ≡ length (input_nets net) → IsSettled net row settled_bit content
    settles size = record {
      inputs = same_list (map settled_bit (input_nets net)) row (length-map (input_nets net) settled_bit ∙ sym size) each;
      outputs = λ c cell at k n on is. output_bit c cell k n (record { at = at; on = on }) is;
    }
      where
        each : (i : ℕ) (x y : Bool) → slice_get (map settled_bit (input_nets net)) i ≡ Some x → slice_get row i ≡ Some y → x ≡ y
        each i x y here there =
            let own = map_some settled_bit (input_nets net) i x here in
            sym own.2 ∙ input_bit i own.0 y own.1 there

  -- the stored bits after a clock, and at the start
  abbrev stored_next : (ℕ → Bool) → (ℕ → ℕ → Bool) → ℕ → ℕ → Bool
  stored_next bit content c i = option_map_or (λ (cell : Cell). next_content cell.kind (input_pins bit cell) (content c) i) (slice_get net.cells c) false

  abbrev stored_first : ℕ → ℕ → Bool
  stored_first c i = option_map_or (λ (cell : Cell). initial cell.kind i) (slice_get net.cells c) false

  next_is : (bit : ℕ → Bool) (content : ℕ → ℕ → Bool) → IsNext net bit content (stored_next bit content)
  next_is bit content c cell at i within = ap (λ o. option_map_or (λ (cell : Cell). next_content cell.kind (input_pins bit cell) (content c) i) o false) at

  first_is : IsStart net stored_first
  first_is c cell at i within = ap (λ o. option_map_or (λ (cell : Cell). initial cell.kind i) o false) at

  -- bits and stored bits that stand for the first rows
  stands_for : (rows : List (List Bool)) → Each (IsRowOf net) rows → (k : ℕ) → k ≤ length rows → (bit : ℕ → Bool) × (content : ℕ → ℕ → Bool) × StandsFor net bit content (take k rows)
  stands_for rows fit zero low = ((λ n. false), stored_first, stands_none net (λ n. false) stored_first first_is)
  stands_for rows fit (suc k) low =
      let before = stands_for rows fit k (omega (arith, low)) in
      let row = get_or rows k [] in
      let at : slice_get rows k ≡ Some (get_or rows k []) = slice_get-get_or rows k [] (omega (arith, low)) in
      let more : take (suc k) rows ≡ take k rows ++ get_or rows k [] ∷ [] = (let e : suc k ≡ k + 1 = omega arith in ap (λ j. take j rows) e) ∙ take_more rows k [] (omega (arith, low)) in (
        settled_bit (get_or rows k []) before.1,
        stored_next (settled_bit (get_or rows k []) before.1) before.1,
        subst (λ (own : List (List Bool)). StandsFor net (settled_bit (get_or rows k []) before.1) (stored_next (settled_bit (get_or rows k []) before.1) before.1) own) (sym more)
            (stands_next net flat rank ranked before.0 before.1 (take k rows) (get_or rows k []) (settled_bit (get_or rows k []) before.1) (stored_next (settled_bit (get_or rows k []) before.1) before.1)
            before.2 (settles (get_or rows k []) before.1 (fit k (get_or rows k []) at)) (next_is (settled_bit (get_or rows k []) before.1) before.1)),
      )

  pub one_run : HasOneRun net
  one_run rows fit =
      let all = stands_for rows fit (length rows) (omega arith) in
      (all.2.history, subst (λ (own : List (List Bool)). IsOneRun net own all.2.history) (take_all (length rows) rows (omega arith)) all.2.one)
