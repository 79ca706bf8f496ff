use Rattle.std.proofs.Common.{◌≡◌, ◌++◌, ◌∷◌, [], ◌⊎◌, ℕ, List, true, Some, ap, sym, ◌∙◌, subst}
use Rattle.std.proofs.lemmas.Option.{same_Some}
use Rattle.net_core.specs.declared.parts.NetId.{NetId}
use Rattle.flat_settle.specs.Tables.{Appends, SharedPinHas}
use Rattle.net_core.specs.Drivers.{HasOutput}
use Rattle.net_graph.specs.Lists.{is_marked}
use Rattle.flat_settle.proofs.AppendLemmas.{on_ok_as, appends_as, appends_one}
use Rattle.flat_settle.proofs.owners.push_shared_pin.Goals as goal

pub returns-in-Some : goal.returns-in-Some
returns-in-Some c = on_ok_as c.push.result _ _ (λ is.
    subst (λ (list : List ℕ). Appends c.args.list.now list (SharedPinHas c.args.table.now c.args.inputs.now c.args.cell c.args.pin c.args.out)) (sym is)
    (appends_as c.args.list.now (c.args.list.now ++ c.in-Some.net.0 ∷ []) (λ n. n ≡ c.in-Some.net.0) (SharedPinHas c.args.table.now c.args.inputs.now c.args.cell c.args.pin c.args.out)
    (λ n same. (
      c.in-Some.is ∙ ap (λ (m : ℕ). Some (record { 0 = m })) (sym same),
      subst (λ (m : ℕ). (is_marked c.args.inputs.now m ≡ true) ⊎ (¬ HasOutput c.args.table.now m (record { cell = c.args.cell; pin = c.args.pin }))) (sym same) (c.is_shared.ensures.0 c.if-is_shared.true),
    ))
    (λ n own. ap (λ (m : NetId). m.0) (same_Some _ _ (sym own.0 ∙ c.in-Some.is)))
    (appends_one c.args.list.now c.in-Some.net.0))) c.push.ensures.ok
