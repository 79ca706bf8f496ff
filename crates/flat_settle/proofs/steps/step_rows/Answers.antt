use Rattle.std.proofs.Common.{◌≡◌, ◌+◌, ℕ, List, [], Option, length, refl, ap, sym, subst, arith}
use Rattle.std.proofs.lemmas.Option.{slice_get_read}
use Rattle.std.proofs.lemmas.List.{get_or_read}
use Rattle.net_core.specs.declared.parts.NetId.{NetId}
use Rattle.net_core.specs.Tables.{IsOn}
use Rattle.flat_settle.specs.Tables.{AreSteps, Appends, row_of}
use Rattle.flat_settle.proofs.StepLemmas.{steps_none, steps_skip, steps_more}
use Rattle.flat_settle.proofs.steps.step_rows.Goals as goal
use Rattle.flat_settle.proofs.steps.step_rows.Goals.{in-Some+in_ok-push_outs-in-Some, in-None}

pub loop-cell-init : goal.loop-cell-init
loop-cell-init c = steps_none c.args.clock c.args.cells.now c.args.count c.in_ok-rows.rows.items c.in_ok-rows.ensures.size c.in_ok-rows.ensures.none

pub index_mut-requires : goal.index_mut-requires
index_mut-requires c =
    let at = slice_get_read c.args.cells.now _ c.loop-cell.cell-index c.cell-item.result refl c.loop-cell-test.true c.cell-item.is in
    omega (arith, c.requires c.loop-cell.cell-index c.in-Some.net.0 c.cell-item.result at c.in-Some.ensures.found, c.loop-cell.invariant.size, c.loop-cell.rows.ok.0)

pub loop-cell-preserved : goal.loop-cell-preserved
loop-cell-preserved c =
    let at = slice_get_read c.args.cells.now _ c.loop-cell.cell-index c.cell-item.result refl c.loop-cell-test.true c.cell-item.is in
    elim c.match-leads_from.branch [
      | in-Some+in_ok-push_outs-in-Some w ↦ (
          let low = c.requires c.loop-cell.cell-index w.in-Some.net.0 c.cell-item.result at w.in-Some.ensures.found in
          let row : w.index_mut.result.now ≡ row_of c.loop-cell.rows.items w.in-Some.net.0 =
          get_or_read c.loop-cell.rows.items w.in-Some.net.0 w.index_mut.result.now (omega (arith, low, c.loop-cell.invariant.size)) w.index_mut.ensures.value [] in
          let adds : Appends (row_of c.loop-cell.rows.items w.in-Some.net.0) w.push_outs.new.list (IsOn c.cell-item.result.outs) =
          subst (λ (xs : List ℕ). Appends xs w.push_outs.new.list (IsOn c.cell-item.result.outs)) row
          (subst (λ (outs : List (Option NetId)). Appends w.index_mut.result.now w.push_outs.new.list (IsOn outs)) w.as_slice.ensures w.in_ok-push_outs-in-Some.ensures) in
          subst (λ (rows : List (List ℕ)). AreSteps c.args.clock c.args.cells.now (c.loop-cell.cell-index + 1) c.args.count rows) (sym (ap (λ v. v.items) w.rows-is))
          (steps_more c.args.clock c.args.cells.now c.loop-cell.cell-index c.args.count c.cell-item.result w.in-Some.net.0 c.loop-cell.rows.items w.push_outs.new.list at w.in-Some.ensures.found low adds c.loop-cell.invariant))
      | in-None w ↦ subst (λ (rows : List (List ℕ)). AreSteps c.args.clock c.args.cells.now (c.loop-cell.cell-index + 1) c.args.count rows) (sym (ap (λ v. v.items) w.rows-is))
          (steps_skip c.args.clock c.args.cells.now c.loop-cell.cell-index c.args.count c.cell-item.result c.loop-cell.rows.items at w.in-None.ensures.missing c.loop-cell.invariant)
    ]

pub returns : goal.returns
returns c =
    let e : c.loop-cell.cell-index ≡ length c.args.cells.now = omega (arith, c.loop-cell-test.false, c.loop-cell.auto.cell-index-end) in
    subst (λ (i : ℕ). AreSteps c.args.clock c.args.cells.now i c.args.count c.loop-cell.rows.items) e c.loop-cell.invariant
