use Rattle.std.proofs.Common.{◌∙◌, ap, ◌^◌, ◌==◌, nat_lt, if◌then◌else◌, codes}
use Rattle.vlog_check.specs.CellRows.{kind_with}
use Rattle.elab_design.specs.DesignCells.{parameter}
use Rattle.elab_unfold.proofs.LeafLaws.{kind_small}
use Rattle.elab_unfold.proofs.leaves.cell_kind.Goals as goal

pub returns : goal.returns
returns c =
    let init = c.parameter-init.ensures ∙ ap (parameter c.args.params.now (codes "INIT")) c.own_init.ensures in
    c.kind_of.ensures ∙ ap (λ n. kind_with c.args.cell c.small_64.result (n == 1) c.small_8-aw.result c.small_16-dw.result) init
    ∙ kind_small c.args.cell c.args.params.now c.small_64.result c.small_8-aw.result c.small_16-dw.result c.requires
    (c.small_64.ensures ∙ ap (λ n. if nat_lt n (2 ^ 64) then n else 0) init)
    (c.small_8-aw.ensures ∙ ap (λ n. if nat_lt n (2 ^ 8) then n else 0) c.parameter.ensures)
    (c.small_16-dw.ensures ∙ ap (λ n. if nat_lt n (2 ^ 16) then n else 0) c.parameter-2.ensures)
