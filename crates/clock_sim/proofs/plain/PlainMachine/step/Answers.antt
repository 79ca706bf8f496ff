use Rattle.std.proofs.Common.{◌≡◌, ℕ, List, Bool, length, slice_get, arith, ap, sym, ◌∙◌, subst, [], ◌∷◌, ◌++◌}
use Rattle.net_core.specs.Netlist.{Netlist, input_nets}
use Rattle.net_core.specs.Run.{StandsFor}
use Rattle.clock_sim.specs.declared.plan.Row.{Row}
use Rattle.clock_sim.specs.declared.plan.Slot.{Slot}
use Rattle.clock_sim.specs.declared.plan.Formula.{Formula}
use Rattle.clock_sim.specs.Reading.{net_bit}
use Rattle.clock_sim.specs.Plan.{State, IsPlan, HasPinsWithin, IsPlaced, IsSettledTo, IsAdvancedTo, stored_bit, net_bits, net_content}
use Rattle.clock_sim.proofs.PlainLemmas.{keeps_after, stands_after}
use Rattle.clock_sim.proofs.plain.PlainMachine.step.Goals as goal
use Rattle.clock_sim.proofs.plain.PlainMachine.step.Goals.{After-advance}

pub settle-requires-clause-formulas : goal.settle-requires-clause-formulas
settle-requires-clause-formulas c = λ j formula at.
    let own = c.self.invariant.formulas_within j formula (ap (λ (formulas : List Formula). slice_get formulas j) (sym c.as_slice-3.ensures.value) ∙ at) in
    (omega (arith, own.0, c.place_inputs.ensures.size), subst (λ (places : List ℕ). HasPinsWithin places formula) (sym c.as_slice-2.ensures.value) own.1)

size : (c : After-advance) → length c.args.inputs.now ≡ length (input_nets c.self.inside.flat.now)
size c = c.requires ∙ ap (λ (state : State). length (input_nets state.net)) (sym c.self.view_is)

placed : (c : After-advance) → IsPlaced c.self.inside.inputs.items c.args.inputs.now (length c.self.inside.inputs.items) c.self.inside.values.items c.place_inputs.new.values.items
placed c = subst (λ (xs : List ℕ). IsPlaced xs c.args.inputs.now (length xs) c.self.inside.values.items c.place_inputs.new.values.items) c.as_slice.ensures.value c.place_inputs.ensures

settled : (c : After-advance) → (net : Netlist) (rank : ℕ → ℕ) (slots : List Slot) → IsPlan net rank slots c.self.inside.places.items c.self.inside.formulas.items
    → IsSettledTo net slots c.self.inside.stored (length slots) c.place_inputs.new.values.items c.settle.new.values.items
settled c =
    subst (λ (places : List ℕ). (net : Netlist) (rank : ℕ → ℕ) (slots : List Slot) → IsPlan net rank slots places c.self.inside.formulas.items → IsSettledTo net slots c.self.inside.stored (length slots) c.place_inputs.new.values.items c.settle.new.values.items) c.as_slice-2.ensures.value
    (subst (λ (formulas : List Formula). (net : Netlist) (rank : ℕ → ℕ) (slots : List Slot) → IsPlan net rank slots c.as_slice-2.result.now formulas → IsSettledTo net slots c.self.inside.stored (length slots) c.place_inputs.new.values.items c.settle.new.values.items) c.as_slice-3.ensures.value
    c.settle.ensures)

advanced : (c : After-advance) → IsAdvancedTo c.settle.new.values.items c.self.inside.pins.items c.self.inside.registers.items (length c.self.inside.registers.items) c.self.inside.stored c.advance.new.stored
advanced c =
    subst (λ (values : List Bool). IsAdvancedTo values c.self.inside.pins.items c.self.inside.registers.items (length c.self.inside.registers.items) c.self.inside.stored c.advance.new.stored) c.as_slice-4.ensures.value
    (subst (λ (pins : List ℕ). IsAdvancedTo c.as_slice-4.result.now pins c.self.inside.registers.items (length c.self.inside.registers.items) c.self.inside.stored c.advance.new.stored) c.as_slice-5.ensures.value
    (subst (λ (registers : List Row). IsAdvancedTo c.as_slice-4.result.now c.as_slice-5.result.now registers (length registers) c.self.inside.stored c.advance.new.stored) c.as_slice-6.ensures.value
    c.advance.ensures))

pub invariant_of-self : goal.invariant_of-self
invariant_of-self c =
    keeps_after c.self.inside.flat.now c.self.inside.inputs.items c.self.inside.bases.items c.self.inside.pins.items c.self.inside.registers.items c.self.inside.places.items c.self.inside.formulas.items c.self.inside.values.items c.self.inside.stored c.self.invariant
    c.args.inputs.now c.place_inputs.new.values.items c.settle.new.values.items c.advance.new.stored (size c) (placed c) (settled c) (advanced c)

pub returns-clause-stands : goal.returns-clause-stands
returns-clause-stands c = λ history stands.
    let before : StandsFor c.self.inside.flat.now (net_bit c.self.inside.values.items) (stored_bit c.self.inside.flat.now.cells c.self.inside.stored) history =
    subst (λ (state : State). StandsFor state.net (net_bits state) (net_content state) history) (sym c.self.view_is) stands in
    subst (λ (net : Netlist). StandsFor net (net_bit c.settle.new.values.items) (stored_bit c.self.inside.flat.now.cells c.advance.new.stored) (history ++ c.args.inputs.now ∷ [])) (ap (λ (state : State). state.net) c.self.view_is)
    (stands_after c.self.inside.flat.now c.self.inside.inputs.items c.self.inside.bases.items c.self.inside.pins.items c.self.inside.registers.items c.self.inside.places.items c.self.inside.formulas.items c.self.inside.values.items c.self.inside.stored c.self.invariant
    c.args.inputs.now c.place_inputs.new.values.items c.settle.new.values.items c.advance.new.stored (size c) (placed c) (settled c) (advanced c) history before)
