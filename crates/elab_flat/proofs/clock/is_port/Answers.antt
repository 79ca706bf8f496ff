use Rattle.std.proofs.Common.{refl, sym, ◌∙◌, ap, arith, length, Some, true≢false}
use Rattle.std.proofs.lemmas.Option.{slice_get_within}
use Rattle.elab_flat.proofs.PortLaws.{item_at, not_next}
use Rattle.elab_flat.proofs.clock.is_port.Goals as goal

pub returns-then-is_named : goal.returns-then-is_named
returns-then-is_named c =
    let at = item_at c.args.m.now.ports c.as_slice-port-items.result.now c.loop-port.port-index c.port-item.result c.as_slice-port-items.ensures c.loop-port-test.true c.port-item.is in
    (λ _. (c.loop-port.port-index, at ∙ ap Some (c.is_named.ensures.0 c.if-is_named.true)), λ _. refl)

pub loop-port-preserved : goal.loop-port-preserved
loop-port-preserved c =
    let at = item_at c.args.m.now.ports c.as_slice-port-items.result.now c.loop-port.port-index c.port-item.result c.as_slice-port-items.ensures c.loop-port-test.true c.port-item.is in
    not_next c.args.m.now.ports c.args.name.now c.port-item.result c.loop-port.port-index at (λ same. true≢false (sym (c.is_named.ensures.1 same) ∙ c.if-is_named.false)) c.loop-port.invariant

pub returns : goal.returns
returns c = (
  λ t. absurd (true≢false (sym t)),
  λ (k, at). absurd (c.loop-port.invariant k (omega (arith, slice_get_within c.args.m.now.ports k c.args.name.now at, c.loop-port-test.false, ap length c.as_slice-port-items.ensures)) at),
)
