use Rattle.std.proofs.Common.{sym, refl, map}
use Rattle.std.specs.List.{range_with_len}
use Rattle.std.proofs.lemmas.List.FromFn.{map-range_with_len_more}
use Rattle.elab_unfold.specs.Places.{net_pin}
use Rattle.elab_unfold.proofs.PinLaws.{pushed_more}
use Rattle.elab_unfold.proofs.exprs.push_nets.Goals as goal

pub loop-k-preserved : goal.loop-k-preserved
loop-k-preserved c = pushed_more c.args.out.now c.loop-k.out c.push.new.self (map net_pin (range_with_len c.args.first c.loop-k.k)) _ _ c.loop-k.invariant c.in_ok-push.ensures.ok (sym (map-range_with_len_more net_pin c.args.first c.loop-k.k _ refl))
