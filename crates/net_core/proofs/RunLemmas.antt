-- Runs: what flat netlists give them, that ranks make them unique, and that one clock more makes a longer one.
use Rattle.std.proofs.Common.{◌≡◌, ◌≢◌, ℕ, zero, suc, ◌+◌, ◌<◌, ◌≤◌, Bool, true, false, not, List, [], ◌∷◌, ◌++◌, map, length, slice_get, Option, Some, None, refl, ap, sym, ◌∙◌, subst, arith, inl, inr, ◌⊎◌, true≢false, if◌then◌else◌, ◌==◌}
use Rattle.std.specs.Option.{option_map, unwrap_or}
use Rattle.std.proofs.lemmas.Bool.{cases_eq, false_from_ne_true}
use Rattle.std.proofs.lemmas.Bool.Decides.{Decides-eqb}
use Rattle.std.proofs.lemmas.List.{length-map, length-append}
use Rattle.std.proofs.lemmas.Option.{slice_get-map, slice_get_within, unwrap_or-slice_get, get_or_from_slice_get, same_Some}
use Rattle.net_core.specs.declared.parts.Pin.{Pin}
use Rattle.net_core.specs.declared.parts.Pin.TheVariants as pins
use Rattle.net_core.specs.declared.parts.Cell.{Cell}
use Rattle.net_core.specs.declared.kind.CellKind.{CellKind}
use Rattle.net_core.specs.declared.kind.CellKind.TheVariants.{Gate, Ibuf, Bufg}
use Rattle.net_core.specs.declared.kind.GateCode.TheVariants.{Buf}
use Rattle.net_core.specs.CellTable.{pin, content_size, is_clock_buffer, input_widths, IsPinCount}
use Rattle.net_core.specs.Netlist.{Netlist, parts_of, Drives, Reads, HasDriver, IsIn, IsData, through, is_clock, is_driven, input_nets, input_bits}
use Rattle.net_core.specs.WellFormed.{IsFlat}
use Rattle.net_core.specs.Run.{History, pin_bit, input_pins, IsSettled, IsStart, IsNext, IsRun, SameBits, SameContent, SameHistory, StandsFor}
use Rattle.net_core.specs.Cycle.{IsRanked}
use Rattle.net_core.proofs.ListLemmas.{slice_get_append, slice_get_left, slice_get_right}
use Rattle.net_core.proofs.PartsLemmas.{filter_some, filter_at, not_true}
use Rattle.net_core.proofs.DependLemmas.{output_same, next_same, same_pins}

-- What a flat netlist gives

-- a clock buffer has one input pin
buffer_pin : (kind : CellKind) (count i : ℕ) → is_clock_buffer kind ≡ true → IsPinCount (input_widths kind) count → i < count → i ≡ 0
buffer_pin (Gate Buf) count i buffer size low = omega (arith, size, low)
buffer_pin Ibuf count i buffer size low = omega (arith, size, low)
buffer_pin Bufg count i buffer size low = omega (arith, size, low)
buffer_pin _ count i buffer size low = absurd (true≢false (sym buffer))

-- a clock buffer stores nothing
buffer_stores : (kind : CellKind) → is_clock_buffer kind ≡ true → content_size kind ≡ 0
buffer_stores (Gate Buf) buffer = refl
buffer_stores Ibuf buffer = refl
buffer_stores Bufg buffer = refl
buffer_stores _ buffer = absurd (true≢false (sym buffer))

module _ (net : Netlist) (flat : IsFlat net) where
  -- a data net has one source: an input bit, or an output pin
  pub data_source : (n : ℕ) → IsData net n → IsIn (input_nets net) n ⊎ HasDriver net.cells n
  data_source n is = elim ((flat.tables.driven n).0 is.driven) [
    | inl (k, at) ↦ inl (filter_at (λ m. not (is_clock net m)) (input_bits (parts_of net)) k n at (ap not is.no_clock))
    | inr driver ↦ inr driver
  ]

  pub input_data : (n : ℕ) → IsIn (input_nets net) n → IsData net n
  input_data n (k, at) =
      let own = filter_some (λ m. not (is_clock net m)) (input_bits (parts_of net)) k n at in
      record { driven = (flat.tables.driven n).1 (inl (own.0, own.1)); no_clock = not_true (is_clock net n) own.2 }

  read_driven : (c : ℕ) (cell : Cell) (i m : ℕ) → Reads net.cells c cell i m → is_driven net m ≡ true
  read_driven c cell i m reads = (flat.tables.driven m).1 (flat.formed.reads.pins c cell i m reads)

  -- what a cell with a data output reads is data
  pub reads_data : (c : ℕ) (cell : Cell) (k n i m : ℕ) → Drives net.cells c cell k n → IsData net n → Reads net.cells c cell i m → IsData net m
  reads_data c cell k n i m drives is reads = record { driven = read_driven c cell i m reads; no_clock = false_from_ne_true (is_clock net m) clocked }
    where
      clocked : is_clock net m ≡ true → ⊥
      clocked t =
          let clock = (flat.tables.clocked m).0 t in
          let buffer = flat.formed.clocking.readers c cell i m reads clock in
          let first : i ≡ 0 = buffer_pin cell.kind (length cell.ins) i buffer (flat.formed.rows c cell reads.at).input_count (slice_get_within cell.ins i (pins.Net (record { 0 = m })) reads.from) in
          let own : Reads net.cells c cell 0 m = record { at = reads.at; from = sym (ap (slice_get cell.ins) first) ∙ reads.from } in
          true≢false (sym ((flat.tables.clocked n).1 (clock.0, clock.1, through c cell k buffer own drives clock.2)) ∙ is.no_clock)

  -- what a cell that stores reads is data
  pub keeps_data : (c : ℕ) (cell : Cell) (i m : ℕ) → 0 < content_size cell.kind → Reads net.cells c cell i m → IsData net m
  keeps_data c cell i m stores reads = record { driven = read_driven c cell i m reads; no_clock = false_from_ne_true (is_clock net m) clocked }
    where
      clocked : is_clock net m ≡ true → ⊥
      clocked t =
          let buffer = flat.formed.clocking.readers c cell i m reads ((flat.tables.clocked m).0 t) in
          omega (arith, stores, buffer_stores cell.kind buffer)

-- Pins of a cell

pin_of : (bit : ℕ → Bool) (cell : Cell) (i : ℕ) (own : Pin) → slice_get cell.ins i ≡ Some own → pin (input_pins bit cell) i ≡ pin_bit bit own
pin_of bit cell i own at = get_or_from_slice_get (input_pins bit cell) i (pin_bit bit own) false (slice_get-map (pin_bit bit) cell.ins i ∙ ap (option_map (pin_bit bit)) at)

pin_past : (bit : ℕ → Bool) (cell : Cell) (i : ℕ) → slice_get cell.ins i ≡ None → pin (input_pins bit cell) i ≡ false
pin_past bit cell i at = sym (unwrap_or-slice_get (input_pins bit cell) i false) ∙ ap (λ (o : Option Bool). unwrap_or o false) (slice_get-map (pin_bit bit) cell.ins i ∙ ap (option_map (pin_bit bit)) at)

-- two assignments give a pin the same bit where they give its net the same
pub pins_agree : (a b : ℕ → Bool) (cell : Cell) (i : ℕ) → ((m : ℕ) → slice_get cell.ins i ≡ Some (pins.Net (record { 0 = m })) → a m ≡ b m) → pin (input_pins a cell) i ≡ pin (input_pins b cell) i
pins_agree a b cell i same = by (slice_get cell.ins i) refl
  where
    by : (o : Option Pin) → slice_get cell.ins i ≡ o → pin (input_pins a cell) i ≡ pin (input_pins b cell) i
    by None at = pin_past a cell i at ∙ sym (pin_past b cell i at)
    by (Some (pins.Net net)) at = pin_of a cell i (pins.Net net) at ∙ same net.0 at ∙ sym (pin_of b cell i (pins.Net net) at)
    by (Some pins.Zero) at = pin_of a cell i pins.Zero at ∙ sym (pin_of b cell i pins.Zero at)
    by (Some pins.One) at = pin_of a cell i pins.One at ∙ sym (pin_of b cell i pins.One at)

pub same_size : (a b : ℕ → Bool) (cell : Cell) → length (input_pins a cell) ≡ length (input_pins b cell)
same_size a b cell = length-map cell.ins (pin_bit a) ∙ sym (length-map cell.ins (pin_bit b))

-- One clock

map_at : (bit other : ℕ → Bool) (nets : List ℕ) (row : List Bool) (i n : ℕ) → map bit nets ≡ row → map other nets ≡ row → slice_get nets i ≡ Some n → bit n ≡ other n
map_at bit other nets row i n one two at =
    same_Some _ _ (sym (slice_get-map bit nets i ∙ ap (option_map bit) at) ∙ ap (λ xs. slice_get xs i) (one ∙ sym two) ∙ (slice_get-map other nets i ∙ ap (option_map other) at))

module _ (net : Netlist) (flat : IsFlat net) (rank : ℕ → ℕ) (ranked : IsRanked net rank) where
  -- two settled assignments over one row and the same stored bits are the same
  settled_below : (row : List Bool) (a b : ℕ → Bool) (stored other : ℕ → ℕ → Bool) → IsSettled net row a stored → IsSettled net row b other → SameContent net stored other
      → (bound n : ℕ) → rank n < bound → IsData net n → a n ≡ b n
  settled_below row a b stored other one two same zero n low is = absurd (omega (arith, low))
  settled_below row a b stored other one two same (suc bound) n low is = by (data_source net flat n is)
      (λ m smaller own. settled_below row a b stored other one two same bound m (omega (arith, low, smaller)) own)
    where
      by : IsIn (input_nets net) n ⊎ HasDriver net.cells n → ((m : ℕ) → rank m < rank n → IsData net m → a m ≡ b m) → a n ≡ b n
      by (inl (k, at)) before = map_at a b (input_nets net) row k n one.inputs two.inputs at
      by (inr (c, cell, k, drives)) before =
          one.outputs c cell drives.at k n drives.on is
          ∙ output_same cell.kind (input_pins a cell) (input_pins b cell) (stored c) (other c) k (same_size a b cell)
          (λ i counts. pins_agree a b cell i (λ m from.
          let reads : Reads net.cells c cell i m = record { at = drives.at; from = from } in
          before m (ranked m n (record { c = c; cell = cell; k = k; i = i; drives = drives; reads = reads; depends_on = counts; carries_data = is })) (reads_data net flat c cell k n i m drives is reads)))
          (λ i stores. same c cell i drives.at stores)
          ∙ sym (two.outputs c cell drives.at k n drives.on is)

  pub settled_once : (row : List Bool) (a b : ℕ → Bool) (stored other : ℕ → ℕ → Bool) → IsSettled net row a stored → IsSettled net row b other → SameContent net stored other → SameBits net a b
  settled_once row a b stored other one two same n is = settled_below row a b stored other one two same (suc (rank n)) n (omega arith) is

module _ (net : Netlist) (flat : IsFlat net) where
  -- a settled assignment is one over the same stored bits
  pub settled_stored : (row : List Bool) (bit : ℕ → Bool) (stored other : ℕ → ℕ → Bool) → IsSettled net row bit stored → SameContent net stored other → IsSettled net row bit other
  settled_stored row bit stored other is same = record {
    inputs = is.inputs;
    outputs = λ c cell at k n on own. is.outputs c cell at k n on own
        ∙ output_same cell.kind (input_pins bit cell) (input_pins bit cell) (stored c) (other c) k refl (λ i counts. refl) (λ i stores. same c cell i at stores);
  }

  -- all pins of a cell that stores agree where the data nets do
  storing_pins : (a b : ℕ → Bool) → SameBits net a b → (c : ℕ) (cell : Cell) → slice_get net.cells c ≡ Some cell → 0 < content_size cell.kind → input_pins a cell ≡ input_pins b cell
  storing_pins a b same c cell at stores =
      same_pins (input_pins a cell) (input_pins b cell) (same_size a b cell) (λ i. pins_agree a b cell i (λ m from. same m (keeps_data net flat c cell i m stores (record { at = at; from = from }))))

  -- the next stored bits are determined by the data nets and the stored bits
  pub next_once : (a b : ℕ → Bool) (stored other next after : ℕ → ℕ → Bool) → SameBits net a b → SameContent net stored other → IsNext net a stored next → IsNext net b other after → SameContent net next after
  next_once a b stored other next after bits same one two c cell i at within =
      one c cell at i within
      ∙ next_same cell.kind (input_pins a cell) (input_pins b cell) (stored c) (other c) i (storing_pins a b bits c cell at (omega (arith, within))) (same c cell i at within)
      ∙ sym (two c cell at i within)

  pub next_stored : (bit : ℕ → Bool) (stored other next : ℕ → ℕ → Bool) → SameContent net stored other → IsNext net bit stored next → IsNext net bit other next
  next_stored bit stored other next same one c cell at i within =
      one c cell at i within ∙ next_same cell.kind (input_pins bit cell) (input_pins bit cell) (stored c) (other c) i refl (same c cell i at within)

-- One clock more

-- a function of clocks with another value at one clock
abbrev pub at_clock : {A : Type 0} → ℕ → A → (ℕ → A) → ℕ → A
at_clock clock value before t = if t == clock then value else before t

at_clock_same : {A : Type 0} (clock : ℕ) (value : A) (before : ℕ → A) (t : ℕ) → t ≡ clock → at_clock clock value before t ≡ value
at_clock_same clock value before t is = ap (λ b. if b then value else before t) ((Decides-eqb t clock).1 is)

at_clock_other : {A : Type 0} (clock : ℕ) (value : A) (before : ℕ → A) (t : ℕ) → t ≢ clock → at_clock clock value before t ≡ before t
at_clock_other clock value before t other = ap (λ b. if b then value else before t) (false_from_ne_true (t == clock) (λ e. other ((Decides-eqb t clock).0 e)))

abbrev pub longer : History → ℕ → (ℕ → Bool) → (ℕ → ℕ → Bool) → History
longer history clocks bit next = record { bit = at_clock clocks bit history.bit; content = at_clock (clocks + 1) next history.content }

last_row : (rows : List (List Bool)) (row last : List Bool) → slice_get (rows ++ row ∷ []) (length rows) ≡ Some last → last ≡ row
last_row rows row last at = same_Some _ _ (sym at ∙ slice_get_right rows (row ∷ []) (length rows) 0 row (omega arith) refl)

early_row : (rows : List (List Bool)) (row own : List Bool) (t : ℕ) → t < length rows → slice_get (rows ++ row ∷ []) t ≡ Some own → slice_get rows t ≡ Some own
early_row rows row own t low at = elim (slice_get_append rows (row ∷ []) t own at) [ inl here ↦ here | inr later ↦ absurd (omega (arith, low, later.1)) ]

module _ (net : Netlist) (flat : IsFlat net) (rank : ℕ → ℕ) (ranked : IsRanked net rank) where
  -- a run over the first rows
  cut : (rows : List (List Bool)) (row : List Bool) (history : History) → IsRun net (rows ++ row ∷ []) history → IsRun net rows history
  cut rows row history run = record {
    start = run.start;
    settled = λ t own at. run.settled t own (slice_get_left rows (row ∷ []) t own at);
    next = λ t low. run.next t (omega (arith, low, length-append rows (row ∷ [])));
  }

  module _ (old : ℕ → Bool) (stored : ℕ → ℕ → Bool) (rows : List (List Bool)) (row : List Bool) (bit : ℕ → Bool) (next : ℕ → ℕ → Bool)
      (stands : StandsFor net old stored rows) (settled : IsSettled net row bit stored) (is_next : IsNext net bit stored next) where
    size : length (rows ++ row ∷ []) ≡ length rows + 1
    size = length-append rows (row ∷ [])

    settled_last : IsSettled net row bit (stands.history.content (length rows))
    settled_last = settled_stored net flat row bit stored (stands.history.content (length rows)) settled stands.contents

    next_last : IsNext net bit (stands.history.content (length rows)) next
    next_last = next_stored net flat bit stored (stands.history.content (length rows)) next stands.contents is_next

    -- what the longer history has at its clocks
    bit_last : (t : ℕ) → t ≡ length rows → (longer stands.history (length rows) bit next).bit t ≡ bit
    bit_last t is = at_clock_same (length rows) bit stands.history.bit t is

    bit_early : (t : ℕ) → t ≢ length rows → (longer stands.history (length rows) bit next).bit t ≡ stands.history.bit t
    bit_early t other = at_clock_other (length rows) bit stands.history.bit t other

    content_last : (t : ℕ) → t ≡ length rows + 1 → (longer stands.history (length rows) bit next).content t ≡ next
    content_last t is = at_clock_same (length rows + 1) next stands.history.content t is

    content_early : (t : ℕ) → t ≢ length rows + 1 → (longer stands.history (length rows) bit next).content t ≡ stands.history.content t
    content_early t other = at_clock_other (length rows + 1) next stands.history.content t other

    run_settled : (t : ℕ) (own : List Bool) → slice_get (rows ++ row ∷ []) t ≡ Some own
        → IsSettled net own ((longer stands.history (length rows) bit next).bit t) ((longer stands.history (length rows) bit next).content t)
    run_settled t own at = elim (cases_eq t (length rows)) [
      | inl last ↦ (
          let is : own ≡ row = last_row rows row own (sym (ap (slice_get (rows ++ row ∷ [])) last) ∙ at) in
          let contents : (longer stands.history (length rows) bit next).content t ≡ stands.history.content (length rows) = content_early t (omega (arith, last)) ∙ ap stands.history.content last in
          subst (λ (o : List Bool). IsSettled net o ((longer stands.history (length rows) bit next).bit t) ((longer stands.history (length rows) bit next).content t)) (sym is)
          (subst (λ (b : ℕ → Bool). IsSettled net row b ((longer stands.history (length rows) bit next).content t)) (sym (bit_last t last))
          (subst (λ (k : ℕ → ℕ → Bool). IsSettled net row bit k) (sym contents) settled_last)))
      | inr other ↦ (
          let low : t < length rows = omega (arith, slice_get_within (rows ++ row ∷ []) t own at, size, other) in
          subst (λ (b : ℕ → Bool). IsSettled net own b ((longer stands.history (length rows) bit next).content t)) (sym (bit_early t other))
          (subst (λ (k : ℕ → ℕ → Bool). IsSettled net own (stands.history.bit t) k) (sym (content_early t (omega (arith, low))))
          (stands.one.run.settled t own (early_row rows row own t low at))))
    ]

    run_next : (t : ℕ) → t < length (rows ++ row ∷ [])
        → IsNext net ((longer stands.history (length rows) bit next).bit t) ((longer stands.history (length rows) bit next).content t) ((longer stands.history (length rows) bit next).content (t + 1))
    run_next t within = elim (cases_eq t (length rows)) [
      | inl last ↦ (
          let contents : (longer stands.history (length rows) bit next).content t ≡ stands.history.content (length rows) = content_early t (omega (arith, last)) ∙ ap stands.history.content last in
          subst (λ (b : ℕ → Bool). IsNext net b ((longer stands.history (length rows) bit next).content t) ((longer stands.history (length rows) bit next).content (t + 1))) (sym (bit_last t last))
          (subst (λ (k : ℕ → ℕ → Bool). IsNext net bit k ((longer stands.history (length rows) bit next).content (t + 1))) (sym contents)
          (subst (λ (k : ℕ → ℕ → Bool). IsNext net bit (stands.history.content (length rows)) k) (sym (content_last (t + 1) (omega (arith, last)))) next_last)))
      | inr other ↦ (
          let low : t < length rows = omega (arith, within, size, other) in
          subst (λ (b : ℕ → Bool). IsNext net b ((longer stands.history (length rows) bit next).content t) ((longer stands.history (length rows) bit next).content (t + 1))) (sym (bit_early t other))
          (subst (λ (k : ℕ → ℕ → Bool). IsNext net (stands.history.bit t) k ((longer stands.history (length rows) bit next).content (t + 1))) (sym (content_early t (omega (arith, low))))
          (subst (λ (k : ℕ → ℕ → Bool). IsNext net (stands.history.bit t) (stands.history.content t) k) (sym (content_early (t + 1) (omega (arith, low)))) (stands.one.run.next t low))))
    ]

    only_bits : (other : History) → IsRun net (rows ++ row ∷ []) other → SameBits net (other.bit (length rows)) bit
    only_bits other run =
        settled_once net flat rank ranked row (other.bit (length rows)) bit (other.content (length rows)) (stands.history.content (length rows))
        (run.settled (length rows) row (slice_get_right rows (row ∷ []) (length rows) 0 row (omega arith) refl)) settled_last
        ((stands.one.only other (cut rows row other run)).contents (length rows) (omega arith))

    only_content : (other : History) → IsRun net (rows ++ row ∷ []) other → SameContent net (other.content (length rows + 1)) next
    only_content other run =
        next_once net flat (other.bit (length rows)) bit (other.content (length rows)) (stands.history.content (length rows)) (other.content (length rows + 1)) next
        (only_bits other run) ((stands.one.only other (cut rows row other run)).contents (length rows) (omega arith)) (run.next (length rows) (omega (arith, size))) next_last

    only_same : (other : History) → IsRun net (rows ++ row ∷ []) other → SameHistory net (length (rows ++ row ∷ [])) other (longer stands.history (length rows) bit next)
    only_same other run = record { bits = bits; contents = contents }
      where
        bits : (t : ℕ) → t < length (rows ++ row ∷ []) → SameBits net (other.bit t) ((longer stands.history (length rows) bit next).bit t)
        bits t within = elim (cases_eq t (length rows)) [
          | inl last ↦ subst (λ (b : ℕ → Bool). SameBits net (other.bit t) b) (sym (bit_last t last))
              (subst (λ (k : ℕ). SameBits net (other.bit k) bit) (sym last) (only_bits other run))
          | inr early ↦ subst (λ (b : ℕ → Bool). SameBits net (other.bit t) b) (sym (bit_early t early))
              ((stands.one.only other (cut rows row other run)).bits t (omega (arith, within, size, early)))
        ]

        contents : (t : ℕ) → t ≤ length (rows ++ row ∷ []) → SameContent net (other.content t) ((longer stands.history (length rows) bit next).content t)
        contents t within = elim (cases_eq t (length rows + 1)) [
          | inl last ↦ subst (λ (k : ℕ → ℕ → Bool). SameContent net (other.content t) k) (sym (content_last t last))
              (subst (λ (k : ℕ). SameContent net (other.content k) next) (sym last) (only_content other run))
          | inr early ↦ subst (λ (k : ℕ → ℕ → Bool). SameContent net (other.content t) k) (sym (content_early t early))
              ((stands.one.only other (cut rows row other run)).contents t (omega (arith, within, size, early)))
        ]

    -- bits that are settled for one row more, and the stored bits after them, stand for the rows with this one behind
    pub stands_next : StandsFor net bit next (rows ++ row ∷ [])
    stands_next = record {
      history = longer stands.history (length rows) bit next;
      one = record {
        run = record {
          start = subst (IsStart net) (sym (content_early 0 (omega arith))) stands.one.run.start;
          settled = run_settled;
          next = run_next;
        };
        only = only_same;
      };
      bits = λ t last. subst (λ (b : ℕ → Bool). SameBits net bit b) (sym (bit_last t (omega (arith, last, size)))) (λ n is. refl);
      contents = subst (λ (k : ℕ → ℕ → Bool). SameContent net next k) (sym (content_last (length (rows ++ row ∷ [])) size)) (λ c cell i at within. refl);
    }

-- stored bits as they start stand for no rows
pub stands_none : (net : Netlist) (bit : ℕ → Bool) (content : ℕ → ℕ → Bool) → IsStart net content → StandsFor net bit content []
stands_none net bit content start = record {
  history = record { bit = λ t. bit; content = λ t. content };
  one = record {
    run = record { start = start; settled = λ t row at. absurd (cc at); next = λ t low. absurd (omega (arith, low)) };
    only = λ other run. record { bits = λ t low. absurd (omega (arith, low)); contents = λ t low. same other run t low };
  };
  bits = λ t last. absurd (omega (arith, last));
  contents = λ c cell i at within. refl;
}
  where
    same : (other : History) → IsRun net [] other → (t : ℕ) → t ≤ 0 → SameContent net (other.content t) content
    same other run t low c cell i at within =
        let first : t ≡ 0 = omega (arith, low) in
        ap (λ (k : ℕ). other.content k c i) first ∙ run.start c cell at i within ∙ sym (start c cell at i within)
