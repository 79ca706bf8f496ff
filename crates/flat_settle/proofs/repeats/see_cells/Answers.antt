use Rattle.std.proofs.Common.{◌≡◌, ◌++◌, ◌∷◌, [], suc, List, take, drop, Some, append_assoc, refl, ap, sym, ◌∙◌, subst, arith}
use Rattle.std.proofs.lemmas.Option.{slice_get_read}
use Rattle.flat_settle.specs.Refusals.{Named, Identifier, cell_names}
use Rattle.flat_settle.specs.Naming.{AreSeen, RepeatsAfter}
use Rattle.net_graph.specs.Lists.{IsIn}
use Rattle.flat_settle.proofs.RepeatLemmas.{cell_names_more, cell_names_split, repeats_first, repeats_shift, at_some, at_none}
use Rattle.flat_settle.proofs.repeats.see_cells.Goals as goal

pub returns-in-Some : goal.returns-in-Some
returns-in-Some c = λ names seen. (
    let at = slice_get_read c.args.cells.now _ c.loop-cell.cell-index c.cell-item.result refl c.loop-cell-test.true c.cell-item.is in
    let before = cell_names (take c.loop-cell.cell-index c.args.cells.now) in
    let rest = cell_names (drop (suc c.loop-cell.cell-index) c.args.cells.now) in
    let met = c.loop-cell.invariant.1 names seen in
    let own = at_some c.in_ok-name.field-0 c.in-Some.name _ (λ name. (c.cell-item.result.name ≡ Some name) × IsIn (names ++ before) (Identifier name)) c.in-Some.is (c.in_ok-name.ensures.sees (names ++ before) met) in
    subst (λ (zs : List Named). RepeatsAfter names zs c.in-Some.name) (sym (cell_names_split c.args.cells.now c.loop-cell.cell-index c.cell-item.result c.in-Some.name at own.0))
    (repeats_shift names before (Identifier c.in-Some.name ∷ rest) c.in-Some.name
    (repeats_first (names ++ before) (Identifier c.in-Some.name ∷ rest) (Identifier c.in-Some.name) c.in-Some.name rest refl refl own.1 met.differ)))

pub loop-cell-preserved : goal.loop-cell-preserved
loop-cell-preserved c =
    let at = slice_get_read c.args.cells.now _ c.loop-cell.cell-index c.cell-item.result refl c.loop-cell-test.true c.cell-item.is in (
      omega (arith, c.in_ok-name.ensures.few, c.loop-cell.invariant.0),
      λ names seen. (
          let before = cell_names (take c.loop-cell.cell-index c.args.cells.now) in
          let met = c.loop-cell.invariant.1 names seen in
          let own = at_none c.in_ok-name.field-0 (AreSeen c.see_cell.new.seen ((names ++ before) ++ cell_names (c.cell-item.result ∷ []))) _ c.in-None.is (c.in_ok-name.ensures.sees (names ++ before) met) in
          subst (λ (zs : List Named). AreSeen c.see_cell.new.seen zs)
          (append_assoc names before (cell_names (c.cell-item.result ∷ [])) ∙ ap (λ zs. names ++ zs) (sym (cell_names_more c.args.cells.now c.loop-cell.cell-index c.cell-item.result at))) own),
    )
