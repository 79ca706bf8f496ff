-- One step of the plain simulator is one clock of the run.
use Rattle.std.proofs.Common.{◌≡◌, ◌≢◌, ℕ, ◌+◌, ◌<◌, Bool, List, [], ◌∷◌, ◌++◌, map, length, get_or, slice_get, slice_range, Some, ap, sym, ◌∙◌, subst, arith}
use Rattle.std.proofs.lemmas.List.{length-map, same_lists}
use Rattle.std.proofs.lemmas.Option.{slice_get-get_or, slice_get_within, slice_get-map, get_or_from_slice_get}
use Rattle.std.specs.Option.{option_map}
use Rattle.net_core.specs.declared.kind.CellKind.{CellKind}
use Rattle.net_core.specs.declared.parts.Cell.{Cell}
use Rattle.net_core.specs.CellTable.{content_size, next_content, output}
use Rattle.net_core.specs.Netlist.{Netlist, Drives, HasDriver, input_nets, input_bits, parts_of}
use Rattle.net_core.specs.Run.{input_pins, IsSettled, IsNext, StandsFor}
use Rattle.net_core.proofs.RunLemmas.{stands_next}
use Rattle.net_core.proofs.DependLemmas.{next_same}
use Rattle.net_core.proofs.InputLemmas.{inputs_differ}
use Rattle.net_core.proofs.PartsLemmas.{filter_some}
use Rattle.clock_sim.specs.declared.plan.Row.{Row}
use Rattle.clock_sim.specs.declared.plan.Slot.{Slot}
use Rattle.clock_sim.specs.declared.plan.Formula.{Formula}
use Rattle.clock_sim.specs.Reading.{bit_at_place, net_bit, read_all}
use Rattle.clock_sim.specs.Plan.{base_of, stored_bit, IsPlan, IsWithin, AreWithin, HasConstants, IsPlaced, IsSettledTo, IsRow, IsAdvancedTo, KeepsPlan}
use Rattle.clock_sim.proofs.SettleLemmas.{read_pins}

module _ (net : Netlist) (inputs bases pins : List ℕ) (registers : List Row) (places : List ℕ) (formulas : List Formula) (old stored : List Bool) (keeps : KeepsPlan net inputs bases pins registers places formulas old stored) where
  module _ (row placed settled after : List Bool) (size : length row ≡ length (input_nets net)) (puts : IsPlaced inputs row (length inputs) old placed)
      (settles : (net : Netlist) (rank : ℕ → ℕ) (slots : List Slot) → IsPlan net rank slots places formulas → IsSettledTo net slots stored (length slots) placed settled)
      (advanced : IsAdvancedTo settled pins registers (length registers) stored after) where
    done : IsSettledTo net keeps.slots stored (length keeps.slots) placed settled
    done = settles net keeps.rank keeps.slots keeps.plan

    constants : HasConstants settled
    constants = record { zero_place = done.zero_place; one_place = done.one_place }

    -- an input's net is on no slot
    no_slot : (i n : ℕ) → slice_get (input_nets net) i ≡ Some n → (j : ℕ) (slot : Slot) → slice_get keeps.slots j ≡ Some slot → slot.net ≢ n
    no_slot i n at j slot there is =
        let own = filter_some _ (input_bits (parts_of net)) i n at in
        let drives = keeps.plan.slot_each.sound j slot there in
        keeps.plan.flat.formed.sources.no_driven_input n (own.0, own.1) (subst (HasDriver net.cells) is (slot.cell, drives.0, slot.out, drives.1))

    input_bit : (i n : ℕ) (bit : Bool) → slice_get (input_nets net) i ≡ Some n → slice_get row i ≡ Some bit → net_bit settled n ≡ bit
    input_bit i n bit at own =
        let there : slice_get inputs i ≡ Some n = ap (λ xs. slice_get xs i) keeps.input_each ∙ at in
        done.kept n (no_slot i n at)
        ∙ puts.placed (λ j k m a b. inputs_differ net keeps.plan.flat j k m (sym (ap (λ xs. slice_get xs j) keeps.input_each) ∙ a) (sym (ap (λ xs. slice_get xs k) keeps.input_each) ∙ b))
        i n bit (slice_get_within inputs i n there) there own

    is_settled : IsSettled net row (net_bit settled) (stored_bit net.cells stored)
    is_settled = record {
      inputs = same_lists (map (net_bit settled) (input_nets net)) row (length-map (input_nets net) (net_bit settled) ∙ sym size) each;
      outputs = λ c cell at k n on is.
          let drives : Drives net.cells c cell k n = record { at = at; on = on } in
          let own = keeps.plan.slot_each.complete c cell k n drives is in
          own_output c cell k n drives own.0 own.1 own.2 own.3 own.4 own.5;
    }
      where
        each : (i : ℕ) (d : Bool) → i < length (map (net_bit settled) (input_nets net)) → get_or (map (net_bit settled) (input_nets net)) i d ≡ get_or row i d
        each i d low =
            let within : i < length (input_nets net) = omega (arith, low, length-map (input_nets net) (net_bit settled)) in
            let at = slice_get-get_or (input_nets net) i 0 within in
            let own = slice_get-get_or row i d (omega (arith, within, size)) in
            get_or_from_slice_get (map (net_bit settled) (input_nets net)) i (net_bit settled (get_or (input_nets net) i 0)) d (slice_get-map (net_bit settled) (input_nets net) i ∙ ap (option_map (net_bit settled)) at)
            ∙ input_bit i (get_or (input_nets net) i 0) (get_or row i d) at own

        own_output : (c : ℕ) (cell : Cell) (k n : ℕ) → Drives net.cells c cell k n → (j : ℕ) (slot : Slot) → slice_get keeps.slots j ≡ Some slot → slot.cell ≡ c → slot.out ≡ k → slot.net ≡ n
            → net_bit settled n ≡ output cell.kind (input_pins (net_bit settled) cell) (stored_bit net.cells stored c) k
        own_output c cell k n drives j slot at same_cell same_out same_net =
            sym (ap (net_bit settled) same_net)
            ∙ done.done j slot cell (slice_get_within keeps.slots j slot at) at (ap (slice_get net.cells) same_cell ∙ drives.at)
            ∙ ap (λ (d : ℕ). output cell.kind (input_pins (net_bit settled) cell) (stored_bit net.cells stored d) slot.out) same_cell
            ∙ ap (output cell.kind (input_pins (net_bit settled) cell) (stored_bit net.cells stored c)) same_out

    is_next : IsNext net (net_bit settled) (stored_bit net.cells stored) (stored_bit net.cells after)
    is_next c cell at i within =
        let own = keeps.register_each.complete c cell at (omega (arith, within)) in
        own_next c cell i within own.0 own.1 own.2 own.3
      where
        own_next : (c : ℕ) (cell : Cell) (i : ℕ) → i < content_size cell.kind → (j : ℕ) (register : Row) → slice_get registers j ≡ Some register → IsRow net.cells pins c cell register
            → stored_bit net.cells after c i ≡ next_content cell.kind (input_pins (net_bit settled) cell) (stored_bit net.cells stored c) i
        own_next c cell i within j register at is =
            let place : register.base + i ≡ base_of net.cells c + i = ap (λ b. b + i) is.base in
            let size : content_size register.kind ≡ content_size cell.kind = ap content_size is.kind in
            sym (ap (bit_at_place after) place)
            ∙ advanced.next j register i (slice_get_within registers j register at) at (omega (arith, within, size))
            ∙ ap (λ (kind : CellKind). next_content kind (read_all settled (slice_range pins register.first register.last)) (λ b. bit_at_place stored (register.base + b)) i) is.kind
            ∙ next_same cell.kind (read_all settled (slice_range pins register.first register.last)) (input_pins (net_bit settled) cell) (λ b. bit_at_place stored (register.base + b)) (stored_bit net.cells stored c) i
            (ap (read_all settled) is.places ∙ read_pins settled cell.ins constants.zero_place constants.one_place) (ap (bit_at_place stored) place)

    pub keeps_after : KeepsPlan net inputs bases pins registers places formulas settled after
    keeps_after = record {
      rank = keeps.rank;
      slots = keeps.slots;
      plan = keeps.plan;
      base_each = keeps.base_each;
      register_each = keeps.register_each;
      input_each = keeps.input_each;
      within = subst (λ (n : ℕ). IsWithin pins registers n) (sym advanced.size) keeps.within;
      formulas_within = subst (λ (n : ℕ). AreWithin places formulas n) (sym (done.size ∙ puts.size)) keeps.formulas_within;
      inputs_within = λ i n at. omega (arith, keeps.inputs_within i n at, done.size, puts.size);
      constants = constants;
    }

    pub stands_after : (history : List (List Bool)) → StandsFor net (net_bit old) (stored_bit net.cells stored) history → StandsFor net (net_bit settled) (stored_bit net.cells after) (history ++ row ∷ [])
    stands_after history stands = stands_next net keeps.plan.flat keeps.rank keeps.plan.ranked (net_bit old) (stored_bit net.cells stored) history row (net_bit settled) (stored_bit net.cells after) stands is_settled is_next
