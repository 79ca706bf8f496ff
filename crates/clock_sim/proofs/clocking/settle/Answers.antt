use Rattle.std.proofs.Common.{◌≡◌, ◌+◌, List, Bool, get_or, slice_range, arith, ap, ◌∙◌}
use Rattle.std.proofs.Math.ListN.{length-set}
use Rattle.std.proofs.lemmas.Option.{slice_get-get_or}
use Rattle.net_core.specs.declared.kind.CellKind.TheVariants.{Gate}
use Rattle.net_core.specs.declared.kind.GateCode.TheVariants.{And}
use Rattle.net_core.specs.CellTable.{output}
use Rattle.clock_sim.specs.declared.plan.Formula.{Formula}
use Rattle.clock_sim.specs.Reading.{bit_at_place, read_all}
use Rattle.clock_sim.proofs.SettleLemmas.{settled_formula}
use Rattle.clock_sim.proofs.clocking.settle.Goals as goal

abbrev none : Formula
none = record { kind = Gate And; first = 0; last = 0; base = 0; out = 0; net = 0 }

pub formula_bit-bit-requires : goal.formula_bit-bit-requires
formula_bit-bit-requires c = (c.requires.formulas c.loop-formula.formula-index _ (slice_get-get_or c.args.formulas.now c.loop-formula.formula-index none c.loop-formula-test.true)).1

pub index_mut-requires : goal.index_mut-requires
index_mut-requires c =
    let within = (c.requires.formulas c.loop-formula.formula-index _ (slice_get-get_or c.args.formulas.now c.loop-formula.formula-index none c.loop-formula-test.true)).0 in
    omega (arith, within, c.loop-formula.invariant.0, c.loop-formula.values.ok.0)

pub loop-formula-preserved : goal.loop-formula-preserved
loop-formula-preserved c =
    let at = slice_get-get_or c.args.formulas.now c.loop-formula.formula-index none c.loop-formula-test.true in
    let formula = get_or c.args.formulas.now c.loop-formula.formula-index none in
    let within = (c.requires.formulas c.loop-formula.formula-index formula at).0 in
    let own : c.formula_bit-bit.result ≡ output formula.kind (read_all c.as_slice.result.now (slice_range c.args.pins.now formula.first formula.last)) (λ _. bit_at_place c.args.stored.now formula.base) formula.out =
    c.formula_bit-bit.ensures in
    let bit : c.formula_bit-bit.result ≡ output formula.kind (read_all c.loop-formula.values.items (slice_range c.args.pins.now formula.first formula.last)) (λ _. bit_at_place c.args.stored.now formula.base) formula.out =
    own ∙ ap (λ (values : List Bool). output formula.kind (read_all values (slice_range c.args.pins.now formula.first formula.last)) (λ _. bit_at_place c.args.stored.now formula.base) formula.out) c.as_slice.ensures.value in (
      length-set c.loop-formula.values.items (formula.net + 2) c.formula_bit-bit.result ∙ c.loop-formula.invariant.0,
      λ net rank slots plan. settled_formula net rank slots c.args.pins.now c.args.formulas.now plan c.args.stored.now c.loop-formula.formula-index formula
          c.args.values.now.items c.loop-formula.values.items c.formula_bit-bit.result at (omega (arith, within, c.loop-formula.invariant.0)) bit (c.loop-formula.invariant.1 net rank slots plan),
    )
