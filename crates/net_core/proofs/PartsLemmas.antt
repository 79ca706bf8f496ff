-- What well-formed parts give the tables.
use Rattle.std.proofs.Common.{◌≡◌, ℕ, zero, suc, ◌+◌, ◌<◌, ◌≤◌, ◌^◌, Bool, true, false, not, List, [], ◌∷◌, map, filter, length, sum_by, slice_get, Option, Some, None, inl, inr, refl, ap, sym, ◌∙◌, arith, cond}
use Rattle.std.proofs.lemmas.List.Sums.{sum_by-cons}
use Rattle.std.specs.List.{filter_map}
use Rattle.std.specs.Option.{option_map_or}
use Rattle.std.proofs.lemmas.Option.{same_Some}
use Rattle.std.proofs.lemmas.List.{length-map, length-append}
use Rattle.net_core.specs.declared.parts.Cell.{Cell}
use Rattle.net_core.specs.declared.parts.Group.{Group}
use Rattle.net_core.specs.declared.parts.Port.{Port}
use Rattle.net_core.specs.Netlist.{Parts, Drives, Reads, HasDriver, IsIn, IsDriven, IsClockPort, IsBuffered, itself, through, input_bits, port_nets, group_nets, net_count}
use Rattle.net_core.specs.WellFormed.{IsWellFormed, HasTables, AllDiffer, Each, identifiers}
use Rattle.net_core.specs.Tables.{IsClockTable, IsDrivenTable, IsInputOf}
use Rattle.net_core.proofs.ListLemmas.{slice_get_left, slice_get_right, flat_map_some, flat_map_at}
use Rattle.net_core.proofs.NetNameLemmas.{range_number}

-- a test picks elements
pub filter_some : {A : Type 0} (test : A → Bool) (xs : List A) (i : ℕ) (x : A) → slice_get (filter test xs) i ≡ Some x → (j : ℕ) × (slice_get xs j ≡ Some x) × (test x ≡ true)
filter_some test [] i x at = absurd (cc at)
filter_some {A} test (y ∷ ys) i x at = by (filter_some test ys) (test y) refl i at
  where
    by : ((i : ℕ) (x : A) → slice_get (filter test ys) i ≡ Some x → (j : ℕ) × (slice_get ys j ≡ Some x) × (test x ≡ true))
        → (b : Bool) → test y ≡ b → (i : ℕ) → slice_get (cond b (y ∷ filter test ys) (filter test ys)) i ≡ Some x → (j : ℕ) × (slice_get (y ∷ ys) j ≡ Some x) × (test x ≡ true)
    by rest true t zero at = (0, at, sym (ap test (same_Some _ _ at)) ∙ t)
    by rest true t (suc i) at = let own = rest i x at in (suc own.0, own.1, own.2)
    by rest false t i at = let own = rest i x at in (suc own.0, own.1, own.2)

pub filter_at : {A : Type 0} (test : A → Bool) (xs : List A) (j : ℕ) (x : A) → slice_get xs j ≡ Some x → test x ≡ true → (i : ℕ) × (slice_get (filter test xs) i ≡ Some x)
filter_at test [] j x at passes = absurd (cc at)
filter_at test (y ∷ ys) zero x at passes =
    let kept : test y ≡ true = ap test (same_Some y x at) ∙ passes in
    (0, ap (λ b. slice_get (cond b (y ∷ filter test ys) (filter test ys)) 0) kept ∙ at)
filter_at {A} test (y ∷ ys) (suc j) x at passes = by (filter_at test ys j x at passes) (test y)
  where
    by : (i : ℕ) × (slice_get (filter test ys) i ≡ Some x) → (b : Bool) → (i : ℕ) × (slice_get (cond b (y ∷ filter test ys) (filter test ys)) i ≡ Some x)
    by rest true = (suc rest.0, rest.1)
    by rest false = rest

pub not_true : (b : Bool) → not b ≡ true → b ≡ false
not_true true e = sym e
not_true false e = refl

length-le-sum : (xs : List (List ℕ)) → Each (λ x. 0 < length x) xs → length xs ≤ sum_by length xs
length-le-sum [] each = omega arith
length-le-sum (x ∷ xs) each = let rest = length-le-sum xs (λ i. each (suc i)) in omega (arith, rest, each 0 x refl, sum_by-cons length x xs)

module _ (parts : Parts) (formed : IsWellFormed parts) where
  pub group_names_differ : AllDiffer (map (λ (group : Group). group.name) parts.groups)
  group_names_differ i j name at there =
      formed.identifiers_differ i j name
      (slice_get_left (map (λ (group : Group). group.name) parts.groups) (filter_map (λ (cell : Cell). cell.name) parts.cells) i name at)
      (slice_get_left (map (λ (group : Group). group.name) parts.groups) (filter_map (λ (cell : Cell). cell.name) parts.cells) j name there)

  pub cell_names_differ : AllDiffer (filter_map (λ (cell : Cell). cell.name) parts.cells)
  cell_names_differ i j name at there =
      let front = map (λ (group : Group). group.name) parts.groups in
      let same : length front + i ≡ length front + j = formed.identifiers_differ (length front + i) (length front + j) name
      (slice_get_right front (filter_map (λ (cell : Cell). cell.name) parts.cells) (length front + i) i name refl at)
      (slice_get_right front (filter_map (λ (cell : Cell). cell.name) parts.cells) (length front + j) j name refl there) in
      omega arith

  pub few_groups : length parts.groups ≤ 2 ^ 32
  few_groups =
      let front = map (λ (group : Group). group.name) parts.groups in
      let all = length-le-sum (identifiers parts) (λ i name at. (formed.spelling i name at).0) in
      omega (arith, all, formed.limits.names, length-append front (filter_map (λ (cell : Cell). cell.name) parts.cells), length-map parts.groups (λ (group : Group). group.name))

  -- every net in use is one of the groups'
  in_groups : (j i n : ℕ) (group : Group) → slice_get parts.groups j ≡ Some group → slice_get (group_nets group) i ≡ Some n → n < net_count parts.groups
  in_groups j i n group at own =
      let flat = flat_map_at group_nets parts.groups j group i n at own in
      let number = range_number 0 (net_count parts.groups) flat.0 n (sym (ap (λ nets. slice_get nets flat.0) formed.numbering) ∙ flat.1) in
      omega (arith, number.0, number.1)

  port_within : (port : Port) (i n : ℕ) → slice_get (port_nets parts.groups port) i ≡ Some n → n < net_count parts.groups
  port_within port i n at = by (slice_get parts.groups port.group) refl at
    where
      by : (o : Option Group) → slice_get parts.groups port.group ≡ o → slice_get (option_map_or group_nets o []) i ≡ Some n → n < net_count parts.groups
      by None there at = absurd (cc at)
      by (Some group) there at = in_groups port.group i n group there at

  -- the input bits are those of the input ports
  pub input_of : (n : ℕ) → IsIn (input_bits parts) n → (p : ℕ) × (port : Port) × (slice_get parts.ports p ≡ Some port) × IsInputOf parts.groups port n
  input_of n (k, at) =
      let own = flat_map_some (port_nets parts.groups) (filter (λ (port : Port). not port.output) parts.ports) k n at in
      let port = filter_some (λ (port : Port). not port.output) parts.ports own.0 own.1 own.3 in
      (port.0, own.1, port.1, (not_true own.1.output port.2, (own.2, own.4)))

  pub input_in : (n p : ℕ) (port : Port) → slice_get parts.ports p ≡ Some port → IsInputOf parts.groups port n → IsIn (input_bits parts) n
  input_in n p port at is =
      let kept = filter_at (λ (port : Port). not port.output) parts.ports p port at (ap not is.0) in
      flat_map_at (port_nets parts.groups) (filter (λ (port : Port). not port.output) parts.ports) kept.0 port is.1.0 n kept.1 is.1.1

  pub input_within : (n p : ℕ) (port : Port) → slice_get parts.ports p ≡ Some port → IsInputOf parts.groups port n → n < net_count parts.groups
  input_within n p port at is = port_within port is.1.0 n is.1.1

  pub driver_within : (n : ℕ) → HasDriver parts.cells n → n < net_count parts.groups
  driver_within n (c, cell, k, drives) = formed.outputs c cell k n drives

  pub driven_within : (n : ℕ) → IsDriven parts n → n < net_count parts.groups
  driven_within n (inl input) = let own = input_of n input in input_within n own.0 own.1 own.2 own.3
  driven_within n (inr driver) = driver_within n driver

  pub read_within : (c i m : ℕ) (cell : Cell) → Reads parts.cells c cell i m → m < net_count parts.groups
  read_within c i m cell reads = driven_within m (formed.reads.pins c cell i m reads)

  pub one_driver : (c d k l n : ℕ) (a b : Cell) → Drives parts.cells c a k n → Drives parts.cells d b l n → c ≡ d
  one_driver c d k l n a b one two = (formed.sources.one_driver c d a b k l n one two).0

  -- the clock port's bit is an input bit
  pub port_input : (n : ℕ) → IsClockPort parts n → IsIn (input_bits parts) n
  port_input n port = input_in n port.place port.port port.at (port.input, (0, ap (λ nets. slice_get nets 0) port.bit))

  pub port_bit_within : (n : ℕ) → IsClockPort parts n → n < net_count parts.groups
  port_bit_within n port = driven_within n (inl (port_input n port))

  pub port_undriven : (n : ℕ) → IsClockPort parts n → ¬ HasDriver parts.cells n
  port_undriven n port = formed.sources.no_driven_input n (port_input n port)

  pub buffered_within : (root n : ℕ) → root < net_count parts.groups → IsBuffered parts.cells root n → n < net_count parts.groups
  buffered_within root _ low itself = low
  buffered_within root _ low (through {m} {n} c cell k buffer reads drives is) = driver_within n (c, cell, k, drives)

  pub clock_within : parts.clock.0 < net_count parts.groups
  clock_within = let port = formed.clocking.port in buffered_within port.0 parts.clock.0 (port_bit_within port.0 port.1) port.1.leads

  -- the tables tell the clock set and the driven bits
  pub tables_tell : (clocked driven : List Bool) → IsClockTable parts.cells (net_count parts.groups) parts.clock.0 clocked
      → IsDrivenTable parts.groups parts.cells parts.ports (net_count parts.groups) driven
      → HasTables (record { groups = parts.groups; cells = parts.cells; ports = parts.ports; clock = parts.clock; clocked = clocked; driven = driven })
  tables_tell clocked driven clocks drivens = record {
    clocked_size = clocks.size;
    driven_size = drivens.size;
    clocked = λ n. (
      (λ t. let port = formed.clocking.port in
          (port.0, port.1, (clocks.marked port.0 (port_bit_within port.0 port.1) (port_undriven port.0 port.1) port.1.leads n).0 t)),
      (λ (bit, port, is). (clocks.marked bit (port_bit_within bit port) (port_undriven bit port) port.leads n).1 is),
    );
    driven = λ n. (
      (λ t. elim ((drivens.marked n).0 t) [ inl own ↦ inl (input_in n own.0 own.1 own.2 own.3) | inr driver ↦ inr driver ]),
      (λ is. elim is [ inl input ↦ (drivens.marked n).1 (inl (input_of n input)) | inr driver ↦ (drivens.marked n).1 (inr driver) ]),
    );
  }
