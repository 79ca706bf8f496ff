use Rattle.std.proofs.Common.{refl, ap, sym, ◌∙◌, List, ℕ, ◌++◌, ◌∷◌, []}
use Rattle.std.proofs.lemmas.Option.{slice_get_read}
use Rattle.std.specs.Map.{lookup}
use Rattle.std.specs.Str.{bytes_eq}
use Rattle.net_core.proofs.NumberLemmas.{cells_named_more, cells_unnamed_more, cell_absent}
use Rattle.net_core.proofs.numbers.number_cells.Goals as goal
use Rattle.net_core.proofs.numbers.number_cells.Goals.{in-Some+in_ok-add-in-Some, in-None}

pub add-requires : goal.add-requires
add-requires c =
    let at = slice_get_read c.args.cells.now _ c.loop-number.number c.index-cells-number.result refl c.loop-number-test.true c.index-cells-number.is in
    ap (λ (name : List ℕ). lookup (bytes_eq name) c.loop-number.table) c.bytes.ensures ∙ ap (lookup (bytes_eq c.in-Some.name)) c.loop-number.invariant
    ∙ cell_absent c.args.cells.now c.loop-number.number c.index-cells-number.result c.in-Some.name c.requires.differ at c.in-Some.is

pub loop-number-preserved : goal.loop-number-preserved
loop-number-preserved c =
    let at = slice_get_read c.args.cells.now _ c.loop-number.number c.index-cells-number.result refl c.loop-number-test.true c.index-cells-number.is in
    elim c.match-cell.branch [
      | in-Some+in_ok-add-in-Some w ↦ (
          w.table-is ∙ w.in_ok-add-in-Some.ensures.ok ∙ ap (λ (name : List ℕ). c.loop-number.table ++ (name, c.loop-number.number) ∷ []) w.bytes.ensures
          ∙ ap (λ table. table ++ (w.in-Some.name, c.loop-number.number) ∷ []) c.loop-number.invariant
          ∙ sym (cells_named_more c.args.cells.now c.loop-number.number c.index-cells-number.result w.in-Some.name at w.in-Some.is))
      | in-None w ↦ (w.table-is ∙ c.loop-number.invariant ∙ sym (cells_unnamed_more c.args.cells.now c.loop-number.number c.index-cells-number.result at w.in-None.is))
    ]
