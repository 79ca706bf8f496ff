use Rattle.std.proofs.Common.{◌≡◌, ◌++◌, get_or, length, slice_range, refl, arith}
use Rattle.std.proofs.lemmas.Option.{slice_get-get_or}
use Rattle.net_core.specs.declared.kind.CellKind.TheVariants.{Gate}
use Rattle.net_core.specs.declared.kind.GateCode.TheVariants.{And}
use Rattle.clock_sim.specs.declared.plan.Row.{Row}
use Rattle.clock_sim.specs.declared.plan.Slot.{Slot}
use Rattle.clock_sim.proofs.BuildLemmas.{formulas_more}
use Rattle.clock_sim.proofs.build.push_formulas.Goals as goal

abbrev no_slot : Slot
no_slot = record { level = 0; cell = 0; out = 0; net = 0 }

abbrev no_row : Row
no_row = record { kind = Gate And; first = 0; last = 0; base = 0 }

pub loop-slot-preserved : goal.loop-slot-preserved
loop-slot-preserved c =
    let at = slice_get-get_or c.args.slots.now c.loop-slot.slot-index no_slot c.loop-slot-test.true in
    let slot = get_or c.args.slots.now c.loop-slot.slot-index no_slot in
    let row_at = slice_get-get_or c.args.rows.now slot.cell no_row (c.requires.cells c.loop-slot.slot-index slot at) in
    let row = get_or c.args.rows.now slot.cell no_row in
    let grows : c.extend_from_slice.new.self.items ≡ c.loop-slot.places.items ++ slice_range c.args.pins.now row.first row.last = c.in_ok-extend_from_slice.ensures.items in
    let first : c.len-first.result ≡ length c.loop-slot.places.items = omega (arith, c.len-first.ensures, c.loop-slot.places.ok.0) in
    let last : c.len-last.result ≡ length c.extend_from_slice.new.self.items = omega (arith, c.len-last.ensures, c.extend_from_slice.new.self.ok.0) in
    formulas_more c.args.pins.now c.args.rows.now c.args.slots.now c.loop-slot.slot-index slot row c.loop-slot.places.items c.extend_from_slice.new.self.items c.loop-slot.formulas.items c.push.new.self.items
    (record { kind = row.kind; first = c.len-first.result; last = c.len-last.result; base = row.base; out = slot.out; net = slot.net }) at row_at c.loop-slot.invariant
    grows c.in_ok-push.ensures.items refl first last refl refl refl
