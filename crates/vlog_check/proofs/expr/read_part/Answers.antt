use Rattle.std.proofs.Common.{◌+◌, sym, ap, ◌∙◌, arith, Some}
use Rattle.ila_base.specs.declared.refusal.NetRefusal.TheVariants as refusals
use Rattle.vlog_parse.specs.Leaves.{Part}
use Rattle.vlog_check.specs.FindingWidths.{finding}
use Rattle.vlog_check.specs.declared.expr.Reading.{Reading}
use Rattle.vlog_check.specs.declared.found.Detail.TheVariants.{Alone}
use Rattle.vlog_check.proofs.ReadingLaws.{reading_undeclared}
use Rattle.vlog_check.proofs.expr.read_part.Goals as goal

pub returns : goal.returns
returns c =
    let m = c.args.names.now.module.now in
    let is = c.undeclared.ensures in
    reading_undeclared m (Part c.args.name.now c.args.left c.args.right c.args.place) c.undeclared.result
    (sym c.knows_part.ensures ∙ c.if-knows_part.false) (ap (λ (r : Reading). r.place) is) (ap (λ (r : Reading). r.width) is ∙ ap (λ n. n + 1) c.distance-width.ensures.value) (omega (arith, ap (λ (r : Reading). r.width) is, c.distance-width.ensures.small))
    (ap (λ (r : Reading). r.sound) is) (ap (λ (r : Reading). r.fixed) is)
    (ap (λ (r : Reading). r.found) is ∙ ap (λ text. Some (finding c.args.place Alone (refusals.Undeclared text))) c.in_ok-text.ensures)
