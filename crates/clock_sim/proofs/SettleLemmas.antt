-- One slot more is settled.
use Rattle.std.proofs.Common.{◌≡◌, ◌≢◌, ℕ, ◌+◌, ◌<◌, ◌≤◌, Bool, true, false, List, [], ◌∷◌, map, length, get_or, set, slice_get, slice_range, Some, refl, ap, sym, ◌∙◌, subst, arith, inl, inr, get_or-set_same, get_or-set_other}
use Rattle.std.proofs.Math.ListN.{length-set}
use Rattle.std.proofs.lemmas.Bool.{cases_eq}
use Rattle.std.proofs.lemmas.Option.{slice_get_within, slice_get-get_or, same_Some}
use Rattle.net_core.specs.declared.kind.CellKind.{CellKind}
use Rattle.net_core.specs.declared.kind.CellKind.TheVariants.{Gate, Lut, Inv, Ibuf, Obuf, Bufg, Gnd, Vcc, Muxf7, Muxf8, Carry4, Fdre, Fdse, Fdce, Fdpe, Mem}
use Rattle.net_core.specs.declared.parts.Pin.{Pin}
use Rattle.net_core.specs.declared.parts.Pin.TheVariants as pins
use Rattle.net_core.specs.declared.parts.Cell.{Cell}
use Rattle.net_core.specs.CellTable.{output, content_size, output_widths, IsPinCount}
use Rattle.net_core.specs.Netlist.{Netlist, Drives}
use Rattle.net_core.specs.Run.{pin_bit, input_pins}
use Rattle.net_core.specs.Cycle.{Feeds}
use Rattle.net_core.proofs.DependLemmas.{output_same}
use Rattle.net_core.proofs.RunLemmas.{pins_agree, same_size}
use Rattle.clock_sim.specs.declared.plan.Slot.{Slot}
use Rattle.clock_sim.specs.declared.plan.Formula.{Formula}
use Rattle.clock_sim.specs.Reading.{bit_at_place, net_bit, places_of, read_all}
use Rattle.clock_sim.specs.Plan.{base_of, stored_bit, IsPlan, IsSettledTo, HasConstants, IsPlaced}

-- what places read is what pins read
pub read_pins : (values : List Bool) (ins : List Pin) → bit_at_place values 0 ≡ false → bit_at_place values 1 ≡ true → read_all values (places_of ins) ≡ map (pin_bit (net_bit values)) ins
read_pins values [] zero_place one_place = refl
read_pins values (pins.Net net ∷ ins) zero_place one_place = ap (λ bits. net_bit values net.0 ∷ bits) (read_pins values ins zero_place one_place)
read_pins values (pins.Zero ∷ ins) zero_place one_place = ap (λ b. b ∷ read_all values (places_of ins)) zero_place ∙ ap (λ bits. false ∷ bits) (read_pins values ins zero_place one_place)
read_pins values (pins.One ∷ ins) zero_place one_place = ap (λ b. b ∷ read_all values (places_of ins)) one_place ∙ ap (λ bits. true ∷ bits) (read_pins values ins zero_place one_place)

-- a kind with an output stores one bit at most
one_stored : (kind : CellKind) (count i : ℕ) → IsPinCount (output_widths kind) count → 0 < count → i < content_size kind → i ≡ 0
one_stored (Fdre init) count i size some low = omega (arith, low)
one_stored (Fdse init) count i size some low = omega (arith, low)
one_stored (Fdce init) count i size some low = omega (arith, low)
one_stored (Fdpe init) count i size some low = omega (arith, low)
one_stored (Mem aw dw) count i size some low = absurd (omega (arith, size, some))
one_stored (Gate code) count i size some low = absurd (omega (arith, low))
one_stored (Lut n init) count i size some low = absurd (omega (arith, low))
one_stored Inv count i size some low = absurd (omega (arith, low))
one_stored Ibuf count i size some low = absurd (omega (arith, low))
one_stored Obuf count i size some low = absurd (omega (arith, low))
one_stored Bufg count i size some low = absurd (omega (arith, low))
one_stored Gnd count i size some low = absurd (omega (arith, low))
one_stored Vcc count i size some low = absurd (omega (arith, low))
one_stored Muxf7 count i size some low = absurd (omega (arith, low))
one_stored Muxf8 count i size some low = absurd (omega (arith, low))
one_stored Carry4 count i size some low = absurd (omega (arith, low))

net_bit_set : (values : List Bool) (n m : ℕ) (v : Bool) → m ≢ n → net_bit (set values (n + 2) v) m ≡ net_bit values m
net_bit_set values n m v other = get_or-set_other values (n + 2) (m + 2) v false (λ e. other (omega (arith, e)))

module _ (net : Netlist) (rank : ℕ → ℕ) (slots : List Slot) (places : List ℕ) (formulas : List Formula) (plan : IsPlan net rank slots places formulas) (stored : List Bool) where
  pub settled_none : (values : List Bool) → HasConstants values → IsSettledTo net slots stored 0 values values
  settled_none values constants = record {
    size = refl;
    zero_place = constants.zero_place;
    one_place = constants.one_place;
    done = λ j slot cell low at there. absurd (omega (arith, low));
    kept = λ n on_none. refl;
  }

  module _ (i : ℕ) (slot : Slot) (formula : Formula) (old values : List Bool) (v : Bool) (at : slice_get slots i ≡ Some slot) (formula_at : slice_get formulas i ≡ Some formula)
      (room : slot.net + 2 < length values)
      (is : v ≡ output formula.kind (read_all values (slice_range places formula.first formula.last)) (λ _. bit_at_place stored formula.base) formula.out)
      (so_far : IsSettledTo net slots stored i old values) where
    -- the outputs up to this slot's do not depend on this slot's net
    pins_stay : (j : ℕ) (own : Slot) (cell : Cell) → j ≤ i → slice_get slots j ≡ Some own → slice_get net.cells own.cell ≡ Some cell
        → output cell.kind (input_pins (net_bit values) cell) (stored_bit net.cells stored own.cell) own.out
        ≡ output cell.kind (input_pins (net_bit (set values (slot.net + 2) v)) cell) (stored_bit net.cells stored own.cell) own.out
    pins_stay j own cell low own_at there =
        let sound = plan.slot_each.sound j own own_at in
        let same_cell : sound.0 ≡ cell = same_Some _ _ (sym sound.1.at ∙ there) in
        let drives : Drives net.cells own.cell cell own.out own.net = subst (λ (o : Cell). Drives net.cells own.cell o own.out own.net) same_cell sound.1 in
        output_same cell.kind (input_pins (net_bit values) cell) (input_pins (net_bit (set values (slot.net + 2) v)) cell) (stored_bit net.cells stored own.cell) (stored_bit net.cells stored own.cell) own.out
        (same_size (net_bit values) (net_bit (set values (slot.net + 2) v)) cell)
        (λ k counts. pins_agree (net_bit values) (net_bit (set values (slot.net + 2) v)) cell k (λ m from.
        let feeds : Feeds net m own.net = record { c = own.cell; cell = cell; k = own.out; i = k; drives = drives; reads = record { at = there; from = from }; depends_on = counts; carries_data = sound.2 } in
        let below = plan.ranked m own.net feeds in
        let high = plan.slot_each.ordered j i own slot own_at at low in
        sym (net_bit_set values slot.net m v (λ (e : m ≡ slot.net). rank_clash (ap rank e) below high))))
        (λ k stores. refl)
      where
        rank_clash : {a b c : ℕ} → a ≡ c → a < b → b ≤ c → ⊥
        rank_clash e low high = omega (arith, e, low, high)

    -- the bit written is that of the output
    own_bit : (cell : Cell) → slice_get net.cells slot.cell ≡ Some cell → v ≡ output cell.kind (input_pins (net_bit values) cell) (stored_bit net.cells stored slot.cell) slot.out
    own_bit cell there =
        let own = plan.formula_each i slot cell formula at there formula_at in
        let sound = plan.slot_each.sound i slot at in
        let same_cell : sound.0 ≡ cell = same_Some _ _ (sym sound.1.at ∙ there) in
        let on : slice_get cell.outs slot.out ≡ Some (Some (record { 0 = slot.net })) = subst (λ (o : Cell). slice_get o.outs slot.out ≡ Some (Some (record { 0 = slot.net }))) same_cell sound.1.on in
        let within : slot.out < length cell.outs = slice_get_within cell.outs slot.out (Some (record { 0 = slot.net })) on in
        is ∙ ap (λ (kind : CellKind). output kind (read_all values (slice_range places formula.first formula.last)) (λ _. bit_at_place stored formula.base) formula.out) own.kind
        ∙ ap (λ (ps : List ℕ). output cell.kind (read_all values ps) (λ _. bit_at_place stored formula.base) formula.out) own.places
        ∙ ap (λ (ins : List Bool). output cell.kind ins (λ _. bit_at_place stored formula.base) formula.out) (read_pins values cell.ins so_far.zero_place so_far.one_place)
        ∙ ap (output cell.kind (input_pins (net_bit values) cell) (λ _. bit_at_place stored formula.base)) own.on_pin
        ∙ output_same cell.kind (input_pins (net_bit values) cell) (input_pins (net_bit values) cell) (λ _. bit_at_place stored formula.base) (stored_bit net.cells stored slot.cell) slot.out refl (λ k counts. refl)
        (λ k stores.
        let first : k ≡ 0 = one_stored cell.kind (length cell.outs) k (plan.flat.formed.rows slot.cell cell there).output_count (omega (arith, within)) stores in
        let place : formula.base ≡ base_of net.cells slot.cell + k = omega (arith, own.base, first) in
        ap (bit_at_place stored) place)

    settled_more : IsSettledTo net slots stored (i + 1) old (set values (slot.net + 2) v)
    settled_more = record {
      size = length-set values (slot.net + 2) v ∙ so_far.size;
      zero_place = get_or-set_other values (slot.net + 2) 0 v false (omega arith) ∙ so_far.zero_place;
      one_place = get_or-set_other values (slot.net + 2) 1 v false (omega arith) ∙ so_far.one_place;
      done = done;
      kept = λ n on_none. net_bit_set values slot.net n v (λ e. on_none i slot at (sym e)) ∙ so_far.kept n on_none;
    }
      where
        done : (j : ℕ) (own : Slot) (cell : Cell) → j < i + 1 → slice_get slots j ≡ Some own → slice_get net.cells own.cell ≡ Some cell
            → net_bit (set values (slot.net + 2) v) own.net ≡ output cell.kind (input_pins (net_bit (set values (slot.net + 2) v)) cell) (stored_bit net.cells stored own.cell) own.out
        done j own cell low own_at there = elim (cases_eq j i) [
          | inl same ↦ (
              let is_slot : own ≡ slot = same_Some _ _ (sym own_at ∙ ap (slice_get slots) same ∙ at) in
              let there' : slice_get net.cells slot.cell ≡ Some cell = ap (λ (s : Slot). slice_get net.cells s.cell) (sym is_slot) ∙ there in
              ap (λ (s : Slot). net_bit (set values (slot.net + 2) v) s.net) is_slot
              ∙ get_or-set_same values (slot.net + 2) v false room
              ∙ own_bit cell there'
              ∙ ap (λ (s : Slot). output cell.kind (input_pins (net_bit values) cell) (stored_bit net.cells stored s.cell) s.out) (sym is_slot)
              ∙ pins_stay j own cell (omega (arith, low)) own_at there)
          | inr other ↦ (
              let early : j < i = omega (arith, low, other) in
              net_bit_set values slot.net own.net v (λ e. other (plan.slot_each.apart j i own slot own_at at e))
              ∙ so_far.done j own cell early own_at there
              ∙ pins_stay j own cell (omega (arith, low)) own_at there)
        ]

  -- the same of the formula that stands at this place
  pub settled_formula : (i : ℕ) (formula : Formula) (old values : List Bool) (v : Bool) → slice_get formulas i ≡ Some formula → formula.net + 2 < length values
      → v ≡ output formula.kind (read_all values (slice_range places formula.first formula.last)) (λ _. bit_at_place stored formula.base) formula.out
      → IsSettledTo net slots stored i old values → IsSettledTo net slots stored (i + 1) old (set values (formula.net + 2) v)
  settled_formula i formula old values v there room is so_far =
      let slot : Slot = get_or slots i (record { level = 0; cell = 0; out = 0; net = 0 }) in
      let at : slice_get slots i ≡ Some slot = slice_get-get_or slots i (record { level = 0; cell = 0; out = 0; net = 0 }) (omega (arith, slice_get_within formulas i formula there, plan.size)) in
      let sound = plan.slot_each.sound i slot at in
      let same : slot.net ≡ formula.net = sym (plan.formula_each i slot sound.0 formula at sound.1.at there).on_net in
      subst (λ (n : ℕ). IsSettledTo net slots stored (i + 1) old (set values (n + 2) v)) same
      (settled_more i slot formula old values v at there (omega (arith, same, room)) is so_far)

-- one input more has its bit
pub placed_more : (inputs : List ℕ) (row : List Bool) (i n : ℕ) (bit : Bool) (old values : List Bool) → slice_get inputs i ≡ Some n → slice_get row i ≡ Some bit → n + 2 < length values
    → IsPlaced inputs row i old values → IsPlaced inputs row (i + 1) old (set values (n + 2) bit)
placed_more inputs row i n bit old values at bit_at room so_far = record {
  size = length-set values (n + 2) bit ∙ so_far.size;
  placed = placed;
  kept = λ place apart. get_or-set_other values (n + 2) place bit false (λ e. apart i n at (sym e)) ∙ so_far.kept place apart;
}
  where
    placed : ((j k n : ℕ) → slice_get inputs j ≡ Some n → slice_get inputs k ≡ Some n → j ≡ k)
        → (j m : ℕ) (own : Bool) → j < i + 1 → slice_get inputs j ≡ Some m → slice_get row j ≡ Some own → net_bit (set values (n + 2) bit) m ≡ own
    placed differ j m own low there own_at = elim (cases_eq j i) [
      | inl same ↦ (
          let net : m ≡ n = same_Some _ _ (sym there ∙ ap (slice_get inputs) same ∙ at) in
          ap (λ (k : ℕ). net_bit (set values (n + 2) bit) k) net ∙ get_or-set_same values (n + 2) bit false room ∙ same_Some _ _ (sym bit_at ∙ ap (slice_get row) (sym same) ∙ own_at))
      | inr other ↦ net_bit_set values n m bit (λ e. other (differ j i n (ap (slice_get inputs) refl ∙ there ∙ ap (λ (k : ℕ). Some k) e) at))
          ∙ so_far.placed differ j m own (omega (arith, low, other)) there own_at
    ]
