use Rattle.std.proofs.Common.{◌≡◌, get_or, slice_get, Some, false, length, sym, ap, ◌∙◌, arith}
use Rattle.std.proofs.lemmas.Option.{slice_get-get_or, same_Some, none-some}
use Rattle.std.specs.Option.{option_copied}
use Rattle.vlog_check.specs.Scope.{is_given}
use Rattle.vlog_check.proofs.MissingLaws.{given_step, none_missing, first_missing_found}
use Rattle.vlog_check.proofs.missing.find_missing_of_module.Goals as goal
use Rattle.vlog_check.proofs.missing.find_missing_of_module.Goals.{in-Some+else-not-is_given, in-None}

pub loop-k-preserved : goal.loop-k-preserved
loop-k-preserved c =
    let n = c.args.names.now in
    let conns = c.args.i.now.conns in
    let ys = c.as_slice-k-items.result.now in
    let at = ap (λ zs. slice_get zs c.loop-k.k-index) (sym c.as_slice-k-items.ensures.value) ∙ slice_get-get_or ys c.loop-k.k-index 0 c.loop-k-test.true in
    given_step conns n.module.now.ports n.inputs.items c.loop-k.k-index (get_or ys c.loop-k.k-index 0) at c.loop-k.invariant
    (λ name named. elim c.match-get.branch [
      | in-None w ↦ absurd (none-some name (sym (ap option_copied w.in-None.is) ∙ c.get.ensures.value ∙ named))
      | in-Some+else-not-is_given w ↦
          let own : name ≡ w.in-Some.name.now = same_Some name w.in-Some.name.now (sym named ∙ sym c.get.ensures.value ∙ ap option_copied w.in-Some.is) in
          ap (is_given conns (get_or ys c.loop-k.k-index 0)) (own ∙ sym w.bytes.ensures) ∙ sym (w.is_given.ensures conns c.requires.given) ∙ w.if-not-is_given.false
    ])

pub returns-then-not-is_given : goal.returns-then-not-is_given
returns-then-not-is_given c =
    let n = c.args.names.now in
    let i = c.args.i.now in
    let ys = c.as_slice-k-items.result.now in
    let k = get_or ys c.loop-k.k-index 0 in
    let at = ap (λ zs. slice_get zs c.loop-k.k-index) (sym c.as_slice-k-items.ensures.value) ∙ slice_get-get_or ys c.loop-k.k-index 0 c.loop-k-test.true in
    let named : slice_get n.module.now.ports k ≡ Some c.in-Some.name.now = sym c.get.ensures.value ∙ ap option_copied c.in-Some.is in
    let unset : is_given i.conns k c.bytes-then-not-is_given.result.now ≡ false =
    ap (is_given i.conns k) (c.bytes-then-not-is_given.ensures ∙ sym c.bytes.ensures) ∙ sym (c.is_given.ensures i.conns c.requires.given) ∙ c.if-not-is_given.true in
    first_missing_found i n.module.now n.inputs.items c.requires.names.input_places c.loop-k.k-index k c.in-Some.name.now c.bytes-then-not-is_given.result.now c.in_ok-found-in-Some.found
    at named c.bytes-then-not-is_given.ensures unset c.loop-k.invariant c.in_ok-found-in-Some.ensures

pub returns : goal.returns
returns c = none_missing c.args.i.now c.args.names.now.module.now c.args.names.now.inputs.items c.requires.names.input_places c.loop-k.k-index (omega (arith, ap length c.as_slice-k-items.ensures.value)) c.loop-k.invariant
