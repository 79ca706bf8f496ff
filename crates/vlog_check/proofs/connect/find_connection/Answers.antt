use Rattle.std.proofs.Common.{◌&&◌, is_none, subst, ap, ◌∙◌}
use Rattle.std.specs.Option.{option_copied}
use Rattle.ila_base.specs.declared.refusal.NetRefusal.TheVariants as refusals
use Rattle.vlog_check.specs.declared.found.Detail.TheVariants.{Connection}
use Rattle.vlog_check.specs.Found.{IsLeastFinding, FindsIf}
use Rattle.vlog_check.specs.FindingPins.{FindsConnected, is_bad_connection, is_bad_pin, goes_in}
use Rattle.vlog_check.specs.FindingWidths.{finding}
use Rattle.vlog_check.proofs.LeastLaws.{least_in_turn}
use Rattle.vlog_check.proofs.connect.find_connection.Goals as goal

pub returns : goal.returns
returns c =
    let m = c.args.names.now.module.now in
    let l = c.args.link in
    let e = option_copied c.args.e in
    let bad = finding l.place (Connection l.number) (refusals.Pin l.name.now) in
    let open_pin = finding l.place (Connection l.number) (refusals.OpenInput l.name.now) in
    least_in_turn (FindsIf (is_bad_connection c.args.pin l.twice e) bad) (FindsIf (goes_in c.args.pin && is_none e) open_pin) (FindsConnected m c.args.pin e)
    c.in_ok-best.best c.in_ok-open.open c.in_ok-fixed.connected c.keep_earlier.new.best c.keep_earlier-2.new.best
    (subst (λ b. IsLeastFinding (FindsIf b bad) c.in_ok-best.best) (c.is_bad_pin-bad.ensures ∙ ap (is_bad_pin c.args.pin l.twice) c.in_ok-fixed.ensures.fixed)
    (subst (λ n. IsLeastFinding (FindsIf c.is_bad_pin-bad.result (finding l.place (Connection l.number) (refusals.Pin n))) c.in_ok-best.best) c.bytes.ensures c.in_ok-best.ensures))
    (subst (λ b. IsLeastFinding (FindsIf b open_pin) c.in_ok-open.open) c.is_open-open.ensures c.in_ok-open.ensures)
    c.in_ok-fixed.ensures.least c.keep_earlier.ensures c.keep_earlier-2.ensures
