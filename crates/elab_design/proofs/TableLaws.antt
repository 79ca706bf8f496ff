-- What the table of cells says of pins and parameters.
use Rattle.std.proofs.Common.{◌≡◌, ℕ, zero, suc, ◌*◌, ◌^◌, ◌<◌, ◌≤◌, nat_lt, nat_le, Bool, true, false, not, cond, ◌&&◌, ◌||◌, if◌then◌else◌, List, [], ◌∷◌, map, take, slice_get, codes, Option, Some, None, is_some, inl, inr, refl, ap, sym, ◌∙◌, subst, arith, true≢false, pow_pos}
use Rattle.std.specs.List.{list_any, list_all, find, filter, cons_option}
use Rattle.std.specs.Option.{option_map_or, option_and_then, unwrap_or}
use Rattle.std.specs.Str.{bytes_eq}
use Rattle.std.proofs.lemmas.Bool.Decides.{nat_tests}
use Rattle.std.proofs.lemmas.Option.{same_Some}
use Rattle.net_core.specs.CellTable.{IsAllowed, input_widths, output_widths, is_storage, is_gate}
use Rattle.vlog_parse.specs.declared.tree.Value.{Value}
use Rattle.vlog_parse.specs.ReadTree.{In}
use Rattle.vlog_check.specs.declared.primitive.Primitive.{Primitive}
use Rattle.vlog_check.specs.declared.primitive.Primitive.TheVariants.{Lut1, Lut2, Lut3, Lut4, Lut5, Lut6, Inv, Ibuf, Obuf, Bufg, Gnd, Vcc, Muxf7, Muxf8, Carry4, Fdre, Fdse, Fdce, Fdpe, Mem}
use Rattle.vlog_check.specs.declared.primitive.Size.{Size}
use Rattle.vlog_check.specs.declared.primitive.Size.TheVariants.{One, Four, Address, Data}
use Rattle.vlog_check.specs.Cells.{PinRow, pins, accepts, is_memory, is_below, number_in, amount_in, values_of, address_limit, data_limit}
use Rattle.vlog_check.specs.CellRows.{kind_with, is_in, is_data_input, is_data_output, bits_with, bits_sized}
use Rattle.vlog_check.specs.Scope.{value_of}
use Rattle.elab_design.specs.DesignCells.{is_clock_pin, parameter, own_init}
use Rattle.elab_design.proofs.Lists.{in_none}
use Rattle.elab_design.proofs.MentionLaws.{names_same, same_names, either_way}
use Rattle.elab_design.proofs.KnownLaws.{and_both}

-- Facts by cases

abbrev pub rows_differ : List PinRow → Bool
rows_differ [] = true
rows_differ (row ∷ rows) = not (list_any (λ (other : PinRow). bytes_eq row.name other.name) rows) && rows_differ rows

abbrev pub is_plain : Size → Bool
is_plain One = true
is_plain Four = true
is_plain Address = false
is_plain Data = false

abbrev pub is_one : Size → Bool
is_one One = true
is_one Four = false
is_one Address = false
is_one Data = false

-- names of pins differ; only a memory's pins have parameters for their widths, and none of its outputs; a clock pin is one bit
abbrev pub is_table_row : Primitive → Bool
is_table_row cell =
    rows_differ (pins cell) && list_all (λ (row : PinRow). is_plain row.size || is_memory cell) (pins cell) && list_all (λ (row : PinRow). is_plain row.size) (filter is_data_output (pins cell))
    && option_map_or (λ (row : PinRow). is_one row.size && is_in row.way) (find is_clock_pin (pins cell)) true

pub table_row : (cell : Primitive) → is_table_row cell ≡ true
table_row Lut1 = refl
table_row Lut2 = refl
table_row Lut3 = refl
table_row Lut4 = refl
table_row Lut5 = refl
table_row Lut6 = refl
table_row Inv = refl
table_row Ibuf = refl
table_row Obuf = refl
table_row Bufg = refl
table_row Gnd = refl
table_row Vcc = refl
table_row Muxf7 = refl
table_row Muxf8 = refl
table_row Carry4 = refl
table_row Fdre = refl
table_row Fdse = refl
table_row Fdce = refl
table_row Fdpe = refl
table_row Mem = refl

stores : (aw dw : ℕ) → 0 < dw → nat_lt 0 (2 ^ aw * dw) ≡ true
stores aw dw low = let many : 0 < 2 ^ aw * dw = grind (arith, pow_pos aw, low) in grind (arith, nat_tests)

-- both tables have the same pins; a cell with a clock pin stores bits; no cell is a gate
pub record IsSameRow (cell : Primitive) (init : ℕ) (bit : Bool) (aw dw : ℕ) : Type 0 where
  pub inputs : input_widths (kind_with cell init bit aw dw) ≡ Some (map (bits_with aw dw) (filter is_data_input (pins cell)))
  pub outputs : output_widths (kind_with cell init bit aw dw) ≡ Some (map (bits_with aw dw) (filter is_data_output (pins cell)))
  pub clock : is_storage (kind_with cell init bit aw dw) ≡ is_some (find is_clock_pin (pins cell))
  pub no_gate : is_gate (kind_with cell init bit aw dw) ≡ false

pub same_row : (cell : Primitive) (init : ℕ) (bit : Bool) (aw dw : ℕ) → (is_memory cell ≡ true → 0 < dw) → IsSameRow cell init bit aw dw
same_row Lut1 init bit aw dw low = record { inputs = refl; outputs = refl; clock = refl; no_gate = refl }
same_row Lut2 init bit aw dw low = record { inputs = refl; outputs = refl; clock = refl; no_gate = refl }
same_row Lut3 init bit aw dw low = record { inputs = refl; outputs = refl; clock = refl; no_gate = refl }
same_row Lut4 init bit aw dw low = record { inputs = refl; outputs = refl; clock = refl; no_gate = refl }
same_row Lut5 init bit aw dw low = record { inputs = refl; outputs = refl; clock = refl; no_gate = refl }
same_row Lut6 init bit aw dw low = record { inputs = refl; outputs = refl; clock = refl; no_gate = refl }
same_row Inv init bit aw dw low = record { inputs = refl; outputs = refl; clock = refl; no_gate = refl }
same_row Ibuf init bit aw dw low = record { inputs = refl; outputs = refl; clock = refl; no_gate = refl }
same_row Obuf init bit aw dw low = record { inputs = refl; outputs = refl; clock = refl; no_gate = refl }
same_row Bufg init bit aw dw low = record { inputs = refl; outputs = refl; clock = refl; no_gate = refl }
same_row Gnd init bit aw dw low = record { inputs = refl; outputs = refl; clock = refl; no_gate = refl }
same_row Vcc init bit aw dw low = record { inputs = refl; outputs = refl; clock = refl; no_gate = refl }
same_row Muxf7 init bit aw dw low = record { inputs = refl; outputs = refl; clock = refl; no_gate = refl }
same_row Muxf8 init bit aw dw low = record { inputs = refl; outputs = refl; clock = refl; no_gate = refl }
same_row Carry4 init bit aw dw low = record { inputs = refl; outputs = refl; clock = refl; no_gate = refl }
same_row Fdre init bit aw dw low = record { inputs = refl; outputs = refl; clock = refl; no_gate = refl }
same_row Fdse init bit aw dw low = record { inputs = refl; outputs = refl; clock = refl; no_gate = refl }
same_row Fdce init bit aw dw low = record { inputs = refl; outputs = refl; clock = refl; no_gate = refl }
same_row Fdpe init bit aw dw low = record { inputs = refl; outputs = refl; clock = refl; no_gate = refl }
same_row Mem init bit aw dw low = record { inputs = refl; outputs = refl; clock = stores aw dw (low refl); no_gate = refl }

-- A pin is found by its name

no_any : {X : Type 0} (p : X → Bool) (xs : List X) (x : X) → not (list_any p xs) ≡ true → In xs x → p x ≡ false
no_any p [] x none at = absurd (in_none x at)
no_any p (y ∷ xs) x none (zero, at) = sym (ap p (same_Some y x at)) ∙ left (p y) (list_any p xs) none
  where
    left : (a b : Bool) → not (a || b) ≡ true → a ≡ false
    left true b is = absurd (true≢false (sym is))
    left false b is = refl
no_any p (y ∷ xs) x none (suc k, at) = no_any p xs x (right (p y) (list_any p xs) none) (k, at)
  where
    right : (a b : Bool) → not (a || b) ≡ true → not b ≡ true
    right true b is = absurd (true≢false (sym is))
    right false b is = is

find_named : (rows : List PinRow) (row : PinRow) → rows_differ rows ≡ true → In rows row → find (λ (other : PinRow). bytes_eq row.name other.name) rows ≡ Some row
find_named [] row differ at = absurd (in_none row at)
find_named (first ∷ rows) row differ (zero, at) =
    let same : first ≡ row = same_Some first row at in
    ap (λ b. cond b (Some first) (find (λ (other : PinRow). bytes_eq row.name other.name) rows)) (same_names row.name first.name (sym (ap (λ (r : PinRow). r.name) same))) ∙ ap (λ r. Some r) same
find_named (first ∷ rows) row differ (suc k, at) =
    let both = and_both (not (list_any (λ (other : PinRow). bytes_eq first.name other.name) rows)) (rows_differ rows) differ in
    ap (λ b. cond b (Some first) (find (λ (other : PinRow). bytes_eq row.name other.name) rows)) (turned (no_any (λ (other : PinRow). bytes_eq first.name other.name) rows row both.0 (k, at)))
    ∙ find_named rows row both.1 (k, at)
  where
    turned : bytes_eq first.name row.name ≡ false → bytes_eq row.name first.name ≡ false
    turned is = elim (either_way (bytes_eq row.name first.name)) [
      | inl same ↦ absurd (true≢false (sym (same_names first.name row.name (sym (names_same row.name first.name same))) ∙ is))
      | inr other ↦ other
    ]

all_in : {X : Type 0} (p : X → Bool) (xs : List X) (x : X) → list_all p xs ≡ true → In xs x → p x ≡ true
all_in p [] x all at = absurd (in_none x at)
all_in p (y ∷ xs) x all (zero, at) = sym (ap p (same_Some y x at)) ∙ (and_both (p y) (list_all p xs) all).0
all_in p (y ∷ xs) x all (suc k, at) = all_in p xs x (and_both (p y) (list_all p xs) all).1 (k, at)

pub found_in : {X : Type 0} (p : X → Bool) (xs : List X) (x : X) → find p xs ≡ Some x → In xs x × (p x ≡ true)
found_in p [] x is = absurd (cc is)
found_in {X} p (y ∷ xs) x is = by (p y) refl (found_in p xs x) is
  where
    by : (b : Bool) → p y ≡ b → (find p xs ≡ Some x → In xs x × (p x ≡ true)) → cond b (Some y) (find p xs) ≡ Some x → In (y ∷ xs) x × (p x ≡ true)
    by true t rest is = ((0, is), sym (ap p (same_Some y x is)) ∙ t)
    by false f rest is = let own = rest is in ((suc own.0.0, own.0.1), own.1)

module _ (cell : Primitive) where
  facts : (rows_differ (pins cell) ≡ true) × (list_all (λ (row : PinRow). is_plain row.size || is_memory cell) (pins cell) ≡ true)
      × (list_all (λ (row : PinRow). is_plain row.size) (filter is_data_output (pins cell)) ≡ true)
      × (option_map_or (λ (row : PinRow). is_one row.size && is_in row.way) (find is_clock_pin (pins cell)) true ≡ true)
  facts =
      let three = and_both _ (option_map_or (λ (row : PinRow). is_one row.size && is_in row.way) (find is_clock_pin (pins cell)) true) (table_row cell) in
      let two = and_both _ (list_all (λ (row : PinRow). is_plain row.size) (filter is_data_output (pins cell))) three.0 in
      let one = and_both (rows_differ (pins cell)) (list_all (λ (row : PinRow). is_plain row.size || is_memory cell) (pins cell)) two.0 in
      (one.0, one.1, two.1, three.1)

  pub pin_found : (row : PinRow) → In (pins cell) row → find (λ (other : PinRow). bytes_eq row.name other.name) (pins cell) ≡ Some row
  pin_found row at = find_named (pins cell) row facts.0 at

  pub plain_or_memory : (row : PinRow) → In (pins cell) row → (is_plain row.size || is_memory cell) ≡ true
  plain_or_memory row at = all_in (λ (row : PinRow). is_plain row.size || is_memory cell) (pins cell) row facts.1 at

  pub plain_output : (row : PinRow) → In (filter is_data_output (pins cell)) row → is_plain row.size ≡ true
  plain_output row at = all_in (λ (row : PinRow). is_plain row.size) (filter is_data_output (pins cell)) row facts.2 at

  pub clock_row : (row : PinRow) → find is_clock_pin (pins cell) ≡ Some row → (is_one row.size ≡ true) × (is_in row.way ≡ true)
  clock_row row is = and_both (is_one row.size) (is_in row.way) (sym (ap (λ (o : Option PinRow). option_map_or (λ (row : PinRow). is_one row.size && is_in row.way) o true) is) ∙ facts.3)

pub plain_bits : (aw dw : ℕ) (size : Size) → is_plain size ≡ true → bits_sized 0 0 size ≡ bits_sized aw dw size
plain_bits aw dw One is = refl
plain_bits aw dw Four is = refl
plain_bits aw dw Address is = absurd (true≢false (sym is))
plain_bits aw dw Data is = absurd (true≢false (sym is))

pub one_bit : (aw dw : ℕ) (size : Size) → is_one size ≡ true → bits_sized aw dw size ≡ 1
one_bit aw dw One is = refl
one_bit aw dw Four is = absurd (true≢false (sym is))
one_bit aw dw Address is = absurd (true≢false (sym is))
one_bit aw dw Data is = absurd (true≢false (sym is))

-- Parameters

abbrev pub Params : Type 0
Params = List (List ℕ × Value)

-- no parameter is given twice
abbrev pub AreOnce : Params → Type 0
AreOnce params = (k : ℕ) (p : List ℕ × Value) → slice_get params k ≡ Some p → is_some (value_of (take k params) p.0) ≡ false

pub value_in : (params : Params) (name : List ℕ) (v : Value) → value_of params name ≡ Some v → (p : List ℕ × Value) × In params p × (name ≡ p.0) × (p.1 ≡ v)
value_in [] name v is = absurd (cc is)
value_in (p ∷ params) name v is = by (bytes_eq name p.0) refl (value_in params name v) is
  where
    by : (b : Bool) → bytes_eq name p.0 ≡ b → (value_of params name ≡ Some v → (q : List ℕ × Value) × In params q × (name ≡ q.0) × (q.1 ≡ v)) → cond b (Some p.1) (value_of params name) ≡ Some v
        → (q : List ℕ × Value) × In (p ∷ params) q × (name ≡ q.0) × (q.1 ≡ v)
    by true same rest is = (p, (0, refl), (names_same name p.0 same), same_Some p.1 v is)
    by false other rest is = let own = rest is in (own.0, (suc own.1.0, own.1.1), own.2, own.3)

no_values : (params : Params) (name : List ℕ) → ((p : List ℕ × Value) → In params p → bytes_eq name p.0 ≡ false) → values_of name params ≡ []
no_values [] name none = refl
no_values (p ∷ params) name none =
    ap (λ (b : Bool). cons_option (if b then Some p.1 else None) (values_of name params)) (none p (0, refl)) ∙ no_values params name (λ q at. none q (suc at.0, at.1))

either_none : (b : Bool) (v : Value) (o : Option Value) → is_some (cond b (Some v) o) ≡ false → (b ≡ false) × (is_some o ≡ false)
either_none true v o is = absurd (true≢false is)
either_none false v o is = (refl, is)

once_tail : (p : List ℕ × Value) (params : Params) → AreOnce (p ∷ params) → AreOnce params
once_tail p params once k q at = (either_none (bytes_eq q.0 p.0) p.1 (value_of (take k params) q.0) (once (suc k) q at)).1

-- a parameter that is given once has one value
pub only_value : (params : Params) (name : List ℕ) (v : Value) → AreOnce params → value_of params name ≡ Some v → values_of name params ≡ v ∷ []
only_value [] name v once is = absurd (cc is)
only_value (p ∷ params) name v once is = by (bytes_eq name p.0) refl (only_value params name v (once_tail p params once)) is
  where
    others : name ≡ p.0 → (q : List ℕ × Value) → In params q → bytes_eq name q.0 ≡ false
    others same q (k, at) = elim (either_way (bytes_eq name q.0)) [
      | inl equal ↦ absurd (true≢false (sym (same_names q.0 p.0 (sym (names_same name q.0 equal) ∙ same)) ∙ (either_none (bytes_eq q.0 p.0) p.1 (value_of (take k params) q.0) (once (suc k) q at)).0))
      | inr other ↦ other
    ]

    by : (b : Bool) → bytes_eq name p.0 ≡ b → (value_of params name ≡ Some v → values_of name params ≡ v ∷ []) → cond b (Some p.1) (value_of params name) ≡ Some v
        → cons_option (if b then Some p.1 else None) (values_of name params) ≡ v ∷ []
    by true same rest is = ap (λ vs. p.1 ∷ vs) (no_values params name (others (names_same name p.0 same))) ∙ ap (λ w. w ∷ []) (same_Some p.1 v is)
    by false other rest is = rest is

pub amount_is : (limit n : ℕ) (v : Value) → amount_in limit v ≡ Some n → (number_in v ≡ Some n) × (0 < n) × (n ≤ limit)
amount_is limit n v is = by (number_in v) refl is
  where
    test : (k : ℕ) (b : Bool) → (nat_lt 0 k && nat_le k limit) ≡ b → (if b then Some k else None) ≡ Some n → (k ≡ n) × (0 < k) × (k ≤ limit)
    test k true t is = let both = and_both (nat_lt 0 k) (nat_le k limit) t in (same_Some k n is, lower k both.0, upper k both.1)
      where
        lower : (k : ℕ) → nat_lt 0 k ≡ true → 0 < k
        lower k t = grind (arith, nat_tests)

        upper : (k : ℕ) → nat_le k limit ≡ true → k ≤ limit
        upper k t = grind (arith, nat_tests)
    test k false t is = absurd (cc is)

    by : (o : Option ℕ) → number_in v ≡ o → option_map_or (λ n. if nat_lt 0 n && nat_le n limit then Some n else None) o None ≡ Some n → (number_in v ≡ Some n) × (0 < n) × (n ≤ limit)
    by None number is = absurd (cc is)
    by (Some k) number is =
        let own = test k (nat_lt 0 k && nat_le k limit) refl is in
        (number ∙ ap (λ x. Some x) own.0, omega (arith, own.0, own.1), omega (arith, own.0, own.2))

some_amount : (o : Option ℕ) → ((option_map_or (λ (n : ℕ). true) o false || false) || false) ≡ true → (n : ℕ) × (o ≡ Some n)
some_amount None is = absurd (true≢false (sym is))
some_amount (Some n) is = (n, refl)

last_amount : (o : Option ℕ) → (option_map_or (λ (n : ℕ). true) o false || false) ≡ true → (n : ℕ) × (o ≡ Some n)
last_amount None is = absurd (true≢false (sym is))
last_amount (Some n) is = (n, refl)

pub address_amount : (v : Value) → accepts Mem (codes "AW") v ≡ true → (n : ℕ) × (amount_in address_limit v ≡ Some n)
address_amount v is = some_amount (amount_in address_limit v) is

pub data_amount : (v : Value) → accepts Mem (codes "DW") v ≡ true → (n : ℕ) × (amount_in data_limit v ≡ Some n)
data_amount v is = last_amount (amount_in data_limit v) is

pub parameter_is : (params : Params) (name : List ℕ) (missing n : ℕ) (v : Value) → value_of params name ≡ Some v → number_in v ≡ Some n → parameter params name missing ≡ n
parameter_is params name missing n v is number = ap (λ o. unwrap_or (option_and_then number_in o) missing) is ∙ ap (λ o. unwrap_or o missing) number

-- INIT of a LUT

below_limit : (params : Params) (limit : ℕ) → 0 < limit → ((v : Value) → value_of params (codes "INIT") ≡ Some v → is_below limit v ≡ true) → parameter params (codes "INIT") 0 < limit
below_limit params limit low accepted = by (value_of params (codes "INIT")) refl
  where
    small : (n : ℕ) → nat_lt n limit ≡ true → n < limit
    small n t = grind (arith, nat_tests)

    number : (o : Option ℕ) → option_map_or (λ n. nat_lt n limit) o false ≡ true → unwrap_or o 0 < limit
    number None is = absurd (true≢false (sym is))
    number (Some n) is = small n is

    by : (o : Option Value) → value_of params (codes "INIT") ≡ o → unwrap_or (option_and_then number_in o) 0 < limit
    by None is = low
    by (Some v) is = number (number_in v) (accepted v is)

left_only : (a : Bool) → ((a || false) || false) ≡ true → a ≡ true
left_only true is = refl
left_only false is = is

-- the parameters of a cell are allowed
pub allowed : (cell : Primitive) (params : Params) (bit : Bool) (aw dw : ℕ) → ((v : Value) → value_of params (codes "INIT") ≡ Some v → accepts cell (codes "INIT") v ≡ true)
    → (is_memory cell ≡ true → (0 < aw) × (aw ≤ 17) × (0 < dw) × (dw ≤ 1024)) → (init : ℕ) → init ≡ parameter params (codes "INIT") (own_init cell) → IsAllowed (kind_with cell init bit aw dw)
allowed Lut1 params bit aw dw accepted memory init is = (omega arith, omega arith, (let low = below_limit params (2 ^ 2) (omega arith) (λ v at. left_only (is_below (2 ^ 2) v) (accepted v at)) in subst (λ (n : ℕ). n < 2 ^ 2) (sym is) low))
allowed Lut2 params bit aw dw accepted memory init is = (omega arith, omega arith, (let low = below_limit params (2 ^ 4) (omega arith) (λ v at. left_only (is_below (2 ^ 4) v) (accepted v at)) in subst (λ (n : ℕ). n < 2 ^ 4) (sym is) low))
allowed Lut3 params bit aw dw accepted memory init is = (omega arith, omega arith, (let low = below_limit params (2 ^ 8) (omega arith) (λ v at. left_only (is_below (2 ^ 8) v) (accepted v at)) in subst (λ (n : ℕ). n < 2 ^ 8) (sym is) low))
allowed Lut4 params bit aw dw accepted memory init is = (omega arith, omega arith, (let low = below_limit params (2 ^ 16) (omega arith) (λ v at. left_only (is_below (2 ^ 16) v) (accepted v at)) in subst (λ (n : ℕ). n < 2 ^ 16) (sym is) low))
allowed Lut5 params bit aw dw accepted memory init is = (omega arith, omega arith, (let low = below_limit params (2 ^ 32) (omega arith) (λ v at. left_only (is_below (2 ^ 32) v) (accepted v at)) in subst (λ (n : ℕ). n < 2 ^ 32) (sym is) low))
allowed Lut6 params bit aw dw accepted memory init is = (omega arith, omega arith, (let low = below_limit params (2 ^ 64) (omega arith) (λ v at. left_only (is_below (2 ^ 64) v) (accepted v at)) in subst (λ (n : ℕ). n < 2 ^ 64) (sym is) low))
allowed Inv params bit aw dw accepted memory init is = tt
allowed Ibuf params bit aw dw accepted memory init is = tt
allowed Obuf params bit aw dw accepted memory init is = tt
allowed Bufg params bit aw dw accepted memory init is = tt
allowed Gnd params bit aw dw accepted memory init is = tt
allowed Vcc params bit aw dw accepted memory init is = tt
allowed Muxf7 params bit aw dw accepted memory init is = tt
allowed Muxf8 params bit aw dw accepted memory init is = tt
allowed Carry4 params bit aw dw accepted memory init is = tt
allowed Fdre params bit aw dw accepted memory init is = tt
allowed Fdse params bit aw dw accepted memory init is = tt
allowed Fdce params bit aw dw accepted memory init is = tt
allowed Fdpe params bit aw dw accepted memory init is = tt
allowed Mem params bit aw dw accepted memory init is = memory refl
