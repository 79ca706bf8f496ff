use Rattle.std.proofs.Common.{ap}
use Rattle.ila_base.specs.declared.refusal.NetRefusal.TheVariants as refusals
use Rattle.vlog_check.specs.FindingWidths.{finding}
use Rattle.vlog_check.specs.declared.found.Detail.TheVariants.{Alone}
use Rattle.vlog_check.proofs.WidthLaws.{least_width}
use Rattle.vlog_check.proofs.width.find_width.Goals as goal

pub returns-then-reading-want : goal.returns-then-reading-want
returns-then-reading-want c m e is =
    let r = c.args.reading.now in
    least_width m e r is c.args.want c.in_ok-want.want (finding c.place_of.result Alone (refusals.Width c.in_ok-want.want r.width))
    c.in_ok-want.was c.if-reading.true c.if-reading-want.true (ap (λ p. finding p Alone (refusals.Width c.in_ok-want.want r.width)) (c.place_of.ensures m e is))
