use Rattle.std.proofs.Common.{get_or}
use Rattle.std.proofs.lemmas.Option.{slice_get-get_or}
use Rattle.net_core.specs.declared.kind.CellKind.TheVariants.{Gate}
use Rattle.net_core.specs.declared.kind.GateCode.TheVariants.{And}
use Rattle.clock_sim.proofs.AdvanceLemmas.{advanced_more}
use Rattle.clock_sim.proofs.clocking.advance.Goals as goal

pub loop-row-preserved : goal.loop-row-preserved
loop-row-preserved c =
    let at = slice_get-get_or c.args.registers.now c.loop-row.row-index (record { kind = Gate And; first = 0; last = 0; base = 0 }) c.loop-row-test.true in
    let row = get_or c.args.registers.now c.loop-row.row-index (record { kind = Gate And; first = 0; last = 0; base = 0 }) in
    advanced_more c.args.values.now c.args.pins.now c.args.registers.now c.requires.apart c.loop-row.row-index row c.args.stored.now c.loop-row.stored c.advance_row.new.stored at
    c.advance_row.ensures c.loop-row.invariant
