use Rattle.std.proofs.Common.{◌≡◌, is_some, sym, ap, ◌∙◌, arith, rules, Some, None}
use Rattle.std.specs.Option.{option_map_or}
use Rattle.ila_base.specs.declared.refusal.NetRefusal.TheVariants as refusals
use Rattle.vlog_parse.specs.Leaves.{Net}
use Rattle.vlog_check.specs.Scope.{range_of, range_width}
use Rattle.vlog_check.specs.FindingWidths.{finding}
use Rattle.vlog_check.specs.declared.expr.Reading.{Reading}
use Rattle.vlog_check.specs.declared.found.Detail.TheVariants.{Alone}
use Rattle.vlog_check.proofs.ReadingLaws.{reading_undeclared}
use Rattle.vlog_check.proofs.expr.read_whole.Goals as goal

pub returns-in_ok-text-in-None : goal.returns-in_ok-text-in-None
returns-in_ok-text-in-None c =
    let m = c.args.names.now.module.now in
    let none : range_of m c.args.name.now ≡ None = search (rules, c.requires.ranges c.args.name.now) in
    let is = c.undeclared.ensures in
    reading_undeclared m (Net c.args.name.now c.args.place) c.undeclared.result
    (ap is_some none) (ap (λ (r : Reading). r.place) is) (ap (λ (r : Reading). r.width) is ∙ sym (ap (λ o. option_map_or range_width o 0) none)) (omega (arith, ap (λ (r : Reading). r.width) is))
    (ap (λ (r : Reading). r.sound) is) (ap (λ (r : Reading). r.fixed) is)
    (ap (λ (r : Reading). r.found) is ∙ ap (λ text. Some (finding c.args.place Alone (refusals.Undeclared text))) c.in_ok-text-in-None.ensures)
