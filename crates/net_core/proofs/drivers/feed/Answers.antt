use Rattle.std.proofs.Common.{◌≡◌, slice_get, Some, None, arith, ap, sym, ◌∙◌, List, Option, subst, ◌+◌}
use Rattle.std.proofs.lemmas.Option.{slice_get-get_or}
use Rattle.net_core.specs.declared.drivers.Output.{Output}
use Rattle.net_core.specs.Drivers.{NamesOutputs}
use Rattle.net_core.proofs.DriverLemmas.{feed_some, feed_skip}
use Rattle.net_core.proofs.drivers.feed.Goals as goal
use Rattle.net_core.proofs.drivers.feed.Goals.{in-Some, in-None}

pub loop-pin-preserved : goal.loop-pin-preserved
loop-pin-preserved c = elim c.match-out.branch [
  | in-Some w ↦ (
      let at : slice_get c.args.outs.now c.loop-pin.pin ≡ Some (Some w.in-Some.net) =
      slice_get-get_or c.args.outs.now c.loop-pin.pin None c.loop-pin-test.true ∙ ap (λ o. Some o) w.in-Some.is in
      subst (λ (table : List (Option Output)). NamesOutputs c.args.outs.now c.args.cell (c.loop-pin.pin + 1) c.args.table.now.items table) (sym (ap (λ v. v.items) w.table-is))
      (feed_some c.args.outs.now c.args.cell c.loop-pin.pin w.in-Some.net c.args.table.now.items c.loop-pin.table.items at
      (omega (arith, c.requires c.loop-pin.pin w.in-Some.net.0 at, c.loop-pin.invariant.size)) c.loop-pin.invariant))
  | in-None w ↦ (
      let at : slice_get c.args.outs.now c.loop-pin.pin ≡ Some None =
      slice_get-get_or c.args.outs.now c.loop-pin.pin None c.loop-pin-test.true ∙ ap (λ o. Some o) w.in-None.is in
      subst (λ (table : List (Option Output)). NamesOutputs c.args.outs.now c.args.cell (c.loop-pin.pin + 1) c.args.table.now.items table) (sym (ap (λ v. v.items) w.table-is))
      (feed_skip c.args.outs.now c.args.cell c.loop-pin.pin c.args.table.now.items c.loop-pin.table.items at c.loop-pin.invariant))
]
