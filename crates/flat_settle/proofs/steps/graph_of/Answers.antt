use Rattle.std.proofs.Common.{◌≡◌, ◌+◌, ◌++◌, ◌∷◌, [], ℕ, List, length, subst, arith, ap, ◌∙◌}
use Rattle.std.proofs.lemmas.List.{get_or_read}
use Rattle.flat_settle.specs.Tables.{row_of}
use Rattle.flat_settle.proofs.RowLemmas.{AreRowsBelow, rows_more, rows_all, edges_all}
use Rattle.flat_settle.proofs.steps.graph_of.Goals as goal

pub loop-row-preserved : goal.loop-row-preserved
loop-row-preserved c =
    let row : c.row-item.result ≡ row_of c.args.rows.now c.loop-row.row-index = get_or_read c.args.rows.now c.loop-row.row-index c.row-item.result c.loop-row-test.true c.row-item.is [] in
    let grows : c.extend_from_slice.new.self.items ≡ c.loop-row.sources.items ++ row_of c.args.rows.now c.loop-row.row-index =
    c.in_ok-extend_from_slice.ensures.items ∙ ap (λ (xs : List ℕ). c.loop-row.sources.items ++ xs) (c.as_slice.ensures ∙ row) in
    let size : length c.extend_from_slice.new.self.items ≡ c.len.result = omega (arith, c.len.ensures, c.extend_from_slice.new.self.ok.0) in
    rw c.in_ok-push.ensures.items
    (subst (λ (k : ℕ). AreRowsBelow c.args.rows.now (c.loop-row.row-index + 1) (c.loop-row.starts.items ++ k ∷ []) c.extend_from_slice.new.self.items) size
    (rows_more c.args.rows.now c.loop-row.row-index c.loop-row.starts.items c.loop-row.sources.items c.extend_from_slice.new.self.items c.loop-row.invariant grows))

whole : (c : goal.After-loop-row) → AreRowsBelow c.args.rows.now (length c.args.rows.now) c.loop-row.starts.items c.loop-row.sources.items
whole c =
    let e : c.loop-row.row-index ≡ length c.args.rows.now = omega (arith, c.loop-row-test.false, c.loop-row.auto.row-index-end) in
    subst (λ (k : ℕ). AreRowsBelow c.args.rows.now k c.loop-row.starts.items c.loop-row.sources.items) e c.loop-row.invariant

pub invariant_of-result : goal.invariant_of-result
invariant_of-result c = record { rows = rows_all c.args.rows.now c.loop-row.starts.items c.loop-row.sources.items c.requires.few c.requires.nodes (whole c) }

pub returns-clause-edges : goal.returns-clause-edges
returns-clause-edges c = edges_all c.args.rows.now c.loop-row.starts.items c.loop-row.sources.items
    (let e : c.loop-row.row-index ≡ length c.args.rows.now = omega (arith, c.loop-row-test.false, c.loop-row.auto.row-index-end) in
    subst (λ (k : ℕ). AreRowsBelow c.args.rows.now k c.loop-row.starts.items c.loop-row.sources.items) e c.loop-row.invariant)
