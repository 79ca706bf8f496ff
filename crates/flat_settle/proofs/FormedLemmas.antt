-- The kept parts are a well-formed netlist where no refusal holds, and the refusals by tables are those of the raw parts.
use Rattle.std.proofs.Common.{◌≡◌, ℕ, ◌<◌, ◌↔◌, Bool, true, false, List, [], ◌∷◌, length, sum_by, slice_get, Option, Some, None, MatchOption, IsTrue, refl, ap, sym, ◌∙◌, subst, arith, inl, inr, ◌⊎◌, true≢false}
use Rattle.std.specs.List.{filter_map}
use Rattle.std.proofs.lemmas.Bool.{cases_eq, false_from_ne_true}
use Rattle.net_core.specs.declared.kind.CellKind.{CellKind}
use Rattle.net_core.specs.declared.parts.NetId.{NetId}
use Rattle.net_core.specs.declared.parts.Pin.{Pin}
use Rattle.net_core.specs.declared.parts.Pin.TheVariants as pins
use Rattle.net_core.specs.declared.parts.Cell.{Cell}
use Rattle.net_core.specs.declared.parts.Group.{Group}
use Rattle.net_core.specs.CellTable.{is_clock_buffer, input_widths, IsPinCount}
use Rattle.net_core.specs.Netlist.{Parts, Drives, HasDriver, input_bits, net_count, IsBuffered, IsClock, IsClockPort}
use Rattle.net_graph.specs.Lists.{IsIn, is_marked, AllDiffer, Each}
use Rattle.net_core.specs.Netlist as flat
use Rattle.net_core.specs.WellFormed.{IsWellFormed, HasRow, HasOneClock, IsIdentifier, identifiers}
use Rattle.net_core.proofs.ListLemmas.{filter_map_some}
use Rattle.flat_settle.specs.declared.raw.RawCell.{RawCell}
use Rattle.flat_settle.specs.declared.raw.Raw.{Raw}
use Rattle.flat_settle.specs.declared.raw.Unsettled.{Unsettled}
use Rattle.flat_settle.specs.declared.raw.Unsettled.TheVariants as faults
use Rattle.flat_settle.specs.declared.judge.Kept.{Kept}
use Rattle.flat_settle.specs.Raw.{RawDrives, with_cells, raw_identifiers, IsUnfolded}
use Rattle.flat_settle.specs.Driven.{IsDriven, from_port, from_cell, from_constant, from_driven, zero_pin, one_pin, IsDropped, IsClocked, clock_port, Leaves}
use Rattle.flat_settle.specs.Refusals.{HasRepeat, flat_order, IsFirst, input_and_pin, two_pins, IsOnClockPin, IsRead, by_pin, by_clock_pin, by_output, by_data_pin, by_data_output, is_constant, HasConstantClock, IsUndriven, IsOtherClock, IsClockData, IsFaultOf, HasNoFault, IsFirstClock, Settles}
use Rattle.flat_settle.specs.Judged.{HasMarks, IsReadUndriven, IsOffClock, IsReadClock, IsJudgedFault, IsJudgedSound}
use Rattle.flat_settle.proofs.PortLemmas.{inputs_to, outputs_from, ports_within}
use Rattle.flat_settle.proofs.KeepLemmas.{left_from}
use Rattle.flat_settle.proofs.DistinctLemmas.{identifiers_distinct, names_distinct}
use Rattle.flat_settle.proofs.LeftLemmas.{fewer_cells, fewer_pins, row_left, same_root, identifiers_left, drives_from, reads_from, driven_left, buffered_from, clocked_from}

-- a test is 1 or 0
pub either_way : (b : Bool) → (b ≡ true) ⊎ (b ≡ false)
either_way true = inl refl
either_way false = inr refl

first_as : (groups : List Group) (P Q : ℕ → Type 0) (name : List ℕ) → ((n : ℕ) → P n → Q n) → ((n : ℕ) → Q n → P n) → IsFirst groups P name → IsFirst groups Q name
first_as groups P Q name gives takes own = record { number = own.number; holds = gives own.number own.holds; first = λ n low q. own.first n low (takes n q); called = own.called }

module _ (raw : Raw) (unfolded : IsUnfolded raw) (distinct : ¬ HasRepeat (flat_order raw)) (cells : List Cell) (leaves : Leaves raw raw.cells cells) where
  abbrev kept_of : Kept
  kept_of = record { groups = raw.groups; cells = cells; ports = raw.ports; clock = raw.clock }

  drives_low : (c k n : ℕ) (cell : Cell) → Drives cells c cell k n → n < net_count raw.groups
  drives_low c k n cell drives = let own = drives_from raw unfolded cells leaves c k n cell drives in unfolded.nets.outputs own.0 own.1 k n own.2

  reads_low : (n : ℕ) → IsRead (with_cells raw cells) n → n < net_count raw.groups
  reads_low n (by_pin c cell i reads) = let own = reads_from raw unfolded cells leaves c i n cell reads in unfolded.nets.inputs own.0 own.1 i n own.2
  reads_low n (by_clock_pin (c, cell, at, is)) =
      let own = left_from raw raw.cells cells leaves c cell at in
      unfolded.nets.clocks own.0 own.1 (record { 0 = n }) own.2 (ap (λ (o : Cell). o.clock) own.3 ∙ is)
  reads_low n (by_output own) = ports_within raw unfolded true n (outputs_from (with_cells raw cells) n own)

  pub has_marks : (count : ℕ) → count ≡ net_count raw.groups → HasMarks kept_of count
  has_marks count is = record {
    few = omega (arith, is, unfolded.limits.nets);
    drivers = λ n (c, cell, k, drives). omega (arith, is, drives_low c k n cell drives);
    reads = λ n read. omega (arith, is, reads_low n read);
    ports = λ output n own. omega (arith, is, ports_within raw unfolded output n own);
  }

  module _ (driven clocked : List Bool) (constant : Bool) (drive : (n : ℕ) → (is_marked driven n ≡ true) ↔ IsDriven raw n) (clock : (n : ℕ) → (is_marked clocked n ≡ true) ↔ IsClocked raw n)
      (constants : IsTrue constant ↔ HasConstantClock raw.cells) where
    -- The tables tell what isn't driven and what isn't clocked

    not_driven : (n : ℕ) → is_marked driven n ≡ false → ¬ IsDriven raw n
    not_driven n is own = true≢false (sym ((drive n).1 own) ∙ is)

    undriven_mark : (n : ℕ) → ¬ IsDriven raw n → is_marked driven n ≡ false
    undriven_mark n none = false_from_ne_true (is_marked driven n) (λ t. none ((drive n).0 t))

    not_clocked : (n : ℕ) → is_marked clocked n ≡ false → ¬ IsClocked raw n
    not_clocked n is own = true≢false (sym ((clock n).1 own) ∙ is)

    unclocked_mark : (n : ℕ) → ¬ IsClocked raw n → is_marked clocked n ≡ false
    unclocked_mark n none = false_from_ne_true (is_marked clocked n) (λ t. none ((clock n).0 t))

    undriven_to : (n : ℕ) → IsReadUndriven kept_of driven n → IsUndriven raw cells n
    undriven_to n (read, is) = (read, not_driven n is)

    undriven_of : (n : ℕ) → IsUndriven raw cells n → IsReadUndriven kept_of driven n
    undriven_of n (read, own) = (read, undriven_mark n own)

    other_to : (n : ℕ) → IsOffClock kept_of clocked n → IsOtherClock raw cells n
    other_to n (on, is) = (on, not_clocked n is)

    other_of : (n : ℕ) → IsOtherClock raw cells n → IsOffClock kept_of clocked n
    other_of n (on, own) = (on, unclocked_mark n own)

    data_to : (n : ℕ) → IsReadClock kept_of clocked n → IsClockData raw cells n
    data_to n (read, is) = ((clock n).0 is, read)

    data_of : (n : ℕ) → IsClockData raw cells n → IsReadClock kept_of clocked n
    data_of n (own, read) = (read, (clock n).1 own)

    no_constant : constant ≡ false → ¬ HasConstantClock raw.cells
    no_constant is own = true≢false (sym (constants.1 own) ∙ is)

    pub fault_in : (fault : Unsettled) → IsJudgedFault kept_of driven clocked constant fault → IsFaultOf raw fault
    fault_in (faults.Duplicate name) own = absurd own
    fault_in (faults.ManyDrivers name) own = (cells, leaves, (distinct, own))
    fault_in (faults.Undriven name) own = (cells, leaves, (distinct, own.0, first_as raw.groups (IsReadUndriven kept_of driven) (IsUndriven raw cells) name undriven_to undriven_of own.1))
    fault_in (faults.SecondClock name) own = (
      cells,
      leaves,
      (
        distinct,
        own.0,
        (λ n u. own.1 n (undriven_of n u)),
        elim own.2 [
          | inl first ↦ inl (first_as raw.groups (IsOffClock kept_of clocked) (IsOtherClock raw cells) name other_to other_of first)
          | inr only ↦ inr ((λ n o. only.0 n (other_of n o)), constants.0 only.1, only.2)
        ],
      ),
    )
    fault_in (faults.ClockAsData name) own = (
      cells,
      leaves,
      (
        distinct,
        own.0,
        (λ n u. own.1 n (undriven_of n u)),
        (λ n o. own.2.0 n (other_of n o)),
        no_constant own.2.1,
        first_as raw.groups (IsReadClock kept_of clocked) (IsClockData raw cells) name data_to data_of own.2.2,
      ),
    )
    fault_in faults.NoMemory own = tt

    pub sound_in : IsJudgedSound kept_of driven clocked constant → HasNoFault raw cells
    sound_in own = record {
      names = distinct;
      drivers = own.drivers;
      reads = λ n u. own.reads n (undriven_of n u);
      clocks = λ n o. own.clocks.clocks n (other_of n o);
      constants = no_constant own.clocks.constants;
      data_reads = λ n o. own.clocks.data_reads n (data_of n o);
    }

    -- The netlist is well formed

    module _ (sound : HasNoFault raw cells) (first : NetId) (is_first : IsFirstClock raw cells first) where
      abbrev final : Parts
      final = record { groups = raw.groups; cells = cells; ports = raw.ports; clock = first }

      no_constant_at : (d : ℕ) (own : RawCell) → slice_get raw.cells d ≡ Some own → is_constant own.clock ≡ false
      no_constant_at d own at = false_from_ne_true (is_constant own.clock) (λ t. sound.constants (d, own, at, t))

      rows : Each HasRow cells
      rows c cell at =
          let own = left_from raw raw.cells cells leaves c cell at in
          subst HasRow own.3 (row_left own.1 (unfolded.rows own.0 own.1 own.2) (no_constant_at own.0 own.1 own.2))

      one_driver : (c d : ℕ) (a b : Cell) (k l n : ℕ) → Drives cells c a k n → Drives cells d b l n → (c ≡ d) × (k ≡ l)
      one_driver c d a b k l n one two = elim (cases_eq c d) [
        | inr other ↦ absurd (sound.drivers n (two_pins c d a b k l one two (λ same. other same.0)))
        | inl same ↦ elim (cases_eq k l) [
          | inr other ↦ absurd (sound.drivers n (two_pins c d a b k l one two (λ both. other both.1)))
          | inl pin ↦ (same, pin)
        ]
      ]

      read_driven : (n : ℕ) → IsRead (with_cells raw cells) n → IsDriven raw n
      read_driven n read = elim (either_way (is_marked driven n)) [
        | inl t ↦ (drive n).0 t
        | inr f ↦ absurd (sound.reads n (read, not_driven n f))
      ]

      pin_clocked : (n : ℕ) → IsOnClockPin cells n → IsClocked raw n
      pin_clocked n on = elim (either_way (is_marked clocked n)) [
        | inl t ↦ (clock n).0 t
        | inr f ↦ absurd (sound.clocks n (on, not_clocked n f))
      ]

      -- The clock

      by_first : (o : Option NetId) → slice_get (filter_map (λ (cell : Cell). cell.clock) cells) 0 ≡ o → MatchOption o (first ≡ raw.clock) (λ net. first ≡ net) → IsClocked raw first.0
      by_first None is own = subst (λ (net : NetId). IsClocked raw net.0) (sym own) clock_port
      by_first (Some net) is own =
          let there = filter_map_some (λ (cell : Cell). cell.clock) cells 0 net is in
          subst (λ (net : NetId). IsClocked raw net.0) (sym own) (pin_clocked net.0 (there.0, there.1, there.2, there.3))

      first_clocked : IsClocked raw first.0
      first_clocked = by_first (slice_get (filter_map (λ (cell : Cell). cell.clock) cells) 0) refl is_first

      port : IsClockPort final raw.clock.0
      port = let own = unfolded.clock_port in
          record { port = own.port; place = own.place; at = own.at; input = own.input; bit = own.bit; leads = buffered_from raw unfolded cells leaves first.0 first_clocked }

      free_input : (n : ℕ) → IsIn (input_bits (with_cells raw cells)) n → ¬ HasDriver cells n
      free_input n input driver = sound.drivers n (input_and_pin input driver)

      port_input : (n : ℕ) → IsClockPort final n → IsIn (input_bits (with_cells raw cells)) n
      port_input n own = inputs_to (with_cells raw cells) n (own.place, own.port, own.at, (own.input, (0, ap (λ nets. slice_get nets 0) own.bit)))

      one_port : (n : ℕ) → IsClockPort final n → n ≡ raw.clock.0
      one_port n own =
          same_root cells (λ c d a b k l n one two. (one_driver c d a b k l n one two).0) n raw.clock.0 first.0 (free_input n (port_input n own)) (free_input raw.clock.0 (port_input raw.clock.0 port)) own.leads port.leads

      clock_clocked : (n : ℕ) → IsClock final n → IsClocked raw n
      clock_clocked n (bit, own, leads) = clocked_from raw unfolded cells leaves n (subst (λ (m : ℕ). IsBuffered cells m n) (one_port bit own) leads)

      clocked_clock : (n : ℕ) → IsClocked raw n → IsClock final n
      clocked_clock n own = (raw.clock.0, port, buffered_from raw unfolded cells leaves n own)

      first_named : (o : Option NetId) → MatchOption o (first ≡ raw.clock) (λ net. first ≡ net) → MatchOption o (IsClockPort final first.0) (λ net. net ≡ first)
      first_named None own = subst (λ (net : NetId). IsClockPort final net.0) (sym own) port
      first_named (Some net) own = sym own

      -- The driven bits

      empty_pins : (xs : List Pin) → length xs ≡ 1 → slice_get xs 0 ≡ None → ⊥
      empty_pins [] size at = omega (arith, size)
      empty_pins (x ∷ xs) size at = cc at

      -- what a link that is left leads to is driven
      link_drives : (c k n : ℕ) (own : RawCell) → RawDrives raw.cells c own k n → ¬ IsDropped raw own → own.link ≡ true → IsDriven raw n
      link_drives c k n own drives stays link = by (slice_get own.ins 0) refl
        where
          one_pin_in : length own.ins ≡ 1
          one_pin_in = let row = unfolded.rows c own drives.at in subst (λ (kind : CellKind). IsPinCount (input_widths kind) (length own.ins)) (row.link link).kind row.input_count

          by : (o : Option Pin) → slice_get own.ins 0 ≡ o → IsDriven raw n
          by None at = absurd (empty_pins own.ins one_pin_in at)
          by (Some pins.Zero) at = from_constant c own k n drives link (zero_pin at)
          by (Some pins.One) at = from_constant c own k n drives link (one_pin at)
          by (Some (pins.Net net)) at = elim (either_way (is_marked driven net.0)) [
            | inl t ↦ from_driven c own k net.0 n drives link (record { at = drives.at; from = at }) ((drive net.0).0 t)
            | inr f ↦ absurd (stays (record { link = link; source = net.0; from = at; undriven = not_driven net.0 f }))
          ]

      pin_drives : (n : ℕ) → HasDriver cells n → IsDriven raw n
      pin_drives n (c, cell, k, drives) =
          let own = drives_from raw unfolded cells leaves c k n cell drives in
          elim (either_way own.1.link) [
            | inl link ↦ link_drives own.0 k n own.1 own.2 own.4 link
            | inr link ↦ from_cell own.0 own.1 k n own.2 link
          ]

      driven_same : (n : ℕ) → flat.IsDriven final n ↔ IsDriven raw n
      driven_same n = (λ own. elim own [ inl input ↦ from_port n input | inr driver ↦ pin_drives n driver ], λ own. driven_left raw unfolded cells leaves n own)

      pub settles : Settles raw final
      settles = record {
        groups = refl;
        ports = refl;
        cells = leaves;
        clock = is_first;
        sound = sound;
        driven = driven_same;
        clocked = λ n. (clock_clocked n, clocked_clock n);
      }

      clocking : HasOneClock final
      clocking = record {
        port = (raw.clock.0, port);
        pins = λ c cell net at is. clocked_clock net.0 (pin_clocked net.0 (c, cell, at, is));
        readers = λ c cell i n reads own. elim (either_way (is_clock_buffer cell.kind)) [
          | inl t ↦ t
          | inr f ↦ absurd (sound.data_reads n (clock_clocked n own, by_data_pin c cell i reads f))
        ];
        outputs = λ n output own. sound.data_reads n (clock_clocked n own, by_data_output output);
        first = first_named (slice_get (filter_map (λ (cell : Cell). cell.clock) cells) 0) is_first;
      }

      same_names : identifiers final ≡ raw_identifiers raw
      same_names = identifiers_left raw unfolded cells leaves

      pub formed : IsWellFormed final
      formed = record {
        numbering = unfolded.numbering;
        port_order = unfolded.port_order;
        port_groups = unfolded.port_groups;
        ranges = unfolded.ranges;
        rows = rows;
        outputs = λ c cell k n drives. drives_low c k n cell drives;
        sources = record { one_driver = one_driver; no_driven_input = free_input };
        reads = record {
          pins = λ c cell i n reads. driven_left raw unfolded cells leaves n (read_driven n (by_pin c cell i reads));
          outputs = λ n output. driven_left raw unfolded cells leaves n (read_driven n (by_output output));
        };
        clocking = clocking;
        identifiers_differ = subst (λ (names : List (List ℕ)). AllDiffer names) (sym same_names) (identifiers_distinct raw distinct);
        names_differ = names_distinct raw distinct;
        spelling = subst (λ (names : List (List ℕ)). Each IsIdentifier names) (sym same_names) unfolded.spelling;
        limits = record {
          cells = omega (arith, fewer_cells raw raw.cells cells leaves, unfolded.limits.cells);
          nets = unfolded.limits.nets;
          pins = omega (arith, fewer_pins raw raw.cells cells leaves, unfolded.limits.pins);
          names = omega (arith, ap (sum_by length) same_names, unfolded.limits.names);
        };
      }
