use Rattle.std.proofs.Common.{◌≡◌, ◌+◌, length, sym, ap, ◌∙◌, subst, arith}
use Rattle.vlog_check.specs.Names.{is_input_at}
use Rattle.vlog_check.proofs.InputLaws.{AreInputsBelow, inputs_start, inputs_more, inputs_skip, inputs_end}
use Rattle.vlog_check.proofs.LeastLaws.{at_index}
use Rattle.vlog_check.proofs.names.read_inputs.Goals as goal
use Rattle.vlog_check.proofs.names.read_inputs.Goals.{then-is_input_at+in_ok-push, else-is_input_at}

pub loop-k-init : goal.loop-k-init
loop-k-init c = subst (AreInputsBelow c.args.m.now 0) (sym c.new-places.ensures.items) (inputs_start c.args.m.now)

pub loop-k-preserved : goal.loop-k-preserved
loop-k-preserved c =
    let m = c.args.m.now in
    let k = c.loop-k.k in
    let name = c.name-item.result in
    let at = at_index c.as_slice-name-items.result.now m.ports k name c.as_slice-name-items.ensures c.loop-k-test.true c.name-item.is in
    let is : c.is_input_at.result ≡ is_input_at m k name = c.is_input_at.ensures m c.requires.ports c.requires.directed ∙ ap (is_input_at m k) c.bytes.ensures in
    elim c.if-is_input_at.branch [
      | then-is_input_at+in_ok-push w ↦ subst (AreInputsBelow m (k + 1)) (sym (ap (λ v. v.items) w.places-is ∙ w.in_ok-push.ensures.items)) (inputs_more m k name at c.loop-k.places.items c.loop-k.invariant (sym is ∙ w.if-is_input_at.true))
      | else-is_input_at w ↦ subst (λ v. AreInputsBelow m (k + 1) v.items) (sym w.places-is) (inputs_skip m k name at c.loop-k.places.items c.loop-k.invariant (sym is ∙ w.if-is_input_at.false))
    ]

pub returns : goal.returns
returns c = inputs_end c.args.m.now c.loop-k.k c.loop-k.places.items (omega (arith, ap length c.as_slice-name-items.ensures)) c.loop-k.invariant
