use Rattle.std.proofs.Common.{sym, ap, ◌∙◌, take}
use Rattle.vlog_check.specs.FindingNames.{is_taken, at_place}
use Rattle.vlog_check.proofs.LeastLaws.{least_found, least_unless}
use Rattle.vlog_check.proofs.modules.find_module.Goals as goal

pub returns-then-is_taken : goal.returns-then-is_taken
returns-then-is_taken c all k numbers =
    let m = c.args.m.now in
    least_found (is_taken (take k all) m.name) (at_place m.place m.name) c.in_ok-found.found (ap (is_taken (take k all)) (sym c.bytes.ensures) ∙ sym (c.is_taken.ensures (take k all) numbers) ∙ c.if-is_taken.true) c.in_ok-found.ensures

pub returns : goal.returns
returns c all k numbers =
    let m = c.args.m.now in
    least_unless (is_taken (take k all) m.name) (at_place m.place m.name) (ap (is_taken (take k all)) (sym c.bytes.ensures) ∙ sym (c.is_taken.ensures (take k all) numbers) ∙ c.if-is_taken.false)
