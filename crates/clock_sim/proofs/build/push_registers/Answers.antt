use Rattle.std.proofs.Common.{◌≡◌, ◌+◌, refl, arith, sym, ◌∙◌, subst, List, ℕ, length, take, sum_by, ap, length-append, ◌≤◌, ◌++◌}
use Rattle.std.proofs.lemmas.List.{length-map}
use Rattle.std.proofs.lemmas.Option.{slice_get_read}
use Rattle.net_core.specs.declared.parts.Cell.{Cell}
use Rattle.clock_sim.specs.declared.plan.Row.{Row}
use Rattle.clock_sim.specs.Reading.{place_of, places_of}
use Rattle.clock_sim.specs.Plan.{AreRegisters}
use Rattle.clock_sim.proofs.AdvanceLemmas.{base_more}
use Rattle.clock_sim.proofs.BuildLemmas.{base_fits, pins_more}
use Rattle.clock_sim.proofs.RegisterLemmas.{registers_skip, registers_push}
use Rattle.clock_sim.proofs.build.push_registers.Goals as goal
use Rattle.clock_sim.proofs.build.push_registers.Goals.{then-stores+in_ok-push_row, else-stores}

pub overflow_add-base : goal.overflow_add-base
overflow_add-base c =
    let at = slice_get_read c.args.cells.now _ c.loop-cell.cell-index c.cell-item.result refl c.loop-cell-test.true c.cell-item.is in
    omega (arith, c.content_size-size.ensures, c.loop-cell.invariant.0, base_fits c.args.cells.now c.loop-cell.cell-index c.cell-item.result c.requires.allowed (omega (arith, c.loop-cell-test.true, c.requires.few)) at)

pub loop-cell-preserved : goal.loop-cell-preserved
loop-cell-preserved c =
    let at = slice_get_read c.args.cells.now _ c.loop-cell.cell-index c.cell-item.result refl c.loop-cell-test.true c.cell-item.is in
    let before = c.loop-cell.invariant in
    let pins = pins_more c.args.cells.now c.loop-cell.cell-index c.cell-item.result at in
    let rest : (length c.if-stores.places.items ≤ sum_by (λ (cell : Cell). length cell.ins) (take (c.loop-cell.cell-index + 1) c.args.cells.now))
    × AreRegisters (take (c.loop-cell.cell-index + 1) c.args.cells.now) c.if-stores.places.items c.if-stores.registers.items = elim c.if-stores.branch [
      | then-stores+in_ok-push_row w ↦ (
          let grows : c.if-stores.places.items ≡ c.loop-cell.places.items ++ places_of c.cell-item.result.ins = ap (λ v. v.items) w.places-is ∙ w.in_ok-push_row.ensures.pins in (
            omega (arith, before.1, pins, ap length grows, length-append c.loop-cell.places.items (places_of c.cell-item.result.ins), length-map c.cell-item.result.ins place_of),
            registers_push c.args.cells.now c.loop-cell.cell-index c.cell-item.result c.loop-cell.places.items c.if-stores.places.items c.loop-cell.registers.items c.if-stores.registers.items c.loop-cell.base
                at before.2 before.0 grows (ap (λ v. v.items) w.registers-is ∙ w.in_ok-push_row.ensures.row),
          ))
      | else-stores w ↦ (
        omega (arith, before.1, pins, ap (λ v. length v.items) w.places-is),
        subst (λ (rows : List Row). AreRegisters (take (c.loop-cell.cell-index + 1) c.args.cells.now) c.if-stores.places.items rows) (ap (λ v. v.items) (sym w.registers-is))
            (subst (λ (xs : List ℕ). AreRegisters (take (c.loop-cell.cell-index + 1) c.args.cells.now) xs c.loop-cell.registers.items) (ap (λ v. v.items) (sym w.places-is))
            (registers_skip c.args.cells.now c.loop-cell.cell-index c.cell-item.result c.loop-cell.places.items c.loop-cell.registers.items at before.2 (omega (arith, c.content_size-size.ensures, w.if-stores.false)))),
      )
    ] in
    (omega (arith, before.0, c.content_size-size.ensures, base_more c.args.cells.now c.loop-cell.cell-index c.cell-item.result at), rest.0, rest.1)
