use Rattle.std.proofs.Common.{◌≡◌, ap, sym, subst, ◌∙◌, ℕ}
use Rattle.std.proofs.lemmas.Option.{none-some, same_Some}
use Rattle.net_core.specs.declared.parts.Group.{Group}
use Rattle.net_core.specs.Netlist.{IsIn}
use Rattle.net_core.specs.WellFormed.{range_indices}
use Rattle.net_core.proofs.NetNameLemmas.{vector_found, vector_there, same_group}
use Rattle.net_core.proofs.flat.Flat.vector_bit.Goals as goal

pub returns-in_err-group-clause-missing : goal.returns-in_err-group-clause-missing
returns-in_err-group-clause-missing c = rw c.from_residual.ensures (λ group range named. absurd (c.in_err-group.ensures.missing group named))

pub returns-in_err-left-clause-missing : goal.returns-in_err-left-clause-missing
returns-in_err-left-clause-missing c = rw c.from_residual-in_err-left.ensures (λ group range named is within.
    let same = same_group c.args.self.now c.group_named.ensures.kept c.args.front.now c.in_ok-group.group.now group c.in_ok-group.ensures.found named in
    none-some range (sym c.in_err-left.was ∙ ap (λ (g : Group). g.range) same ∙ is))

pub returns-in_err-place-clause-missing : goal.returns-in_err-place-clause-missing
returns-in_err-place-clause-missing c = rw c.from_residual-in_err-place.ensures (λ group range named is within.
    let same = same_group c.args.self.now c.group_named.ensures.kept c.args.front.now c.in_ok-group.group.now group c.in_ok-group.ensures.found named in
    let ends : (c.in_ok-left.left, c.in_ok-left.right) ≡ range = same_Some _ _ (sym c.in_ok-left.was ∙ ap (λ (g : Group). g.range) same ∙ is) in
    c.in_err-place.ensures.missing (subst (λ (r : ℕ × ℕ). IsIn (range_indices r.0 r.1) c.args.index) (sym ends) within))

pub returns-clause-found : goal.returns-clause-found
returns-clause-found c =
    vector_found c.args.self.now c.group_named.ensures.kept c.args.front.now c.in_ok-group.group.now c.in_ok-left.left c.in_ok-left.right c.in_ok-place.place c.args.index c.copied.result
    c.in_ok-group.ensures.found c.in_ok-left.was c.in_ok-place.ensures.found (c.copied.ensures ∙ c.get.ensures.value)

pub returns-clause-missing : goal.returns-clause-missing
returns-clause-missing c =
    vector_there c.args.self.now c.group_named.ensures.kept c.args.front.now c.in_ok-group.group.now c.in_ok-left.left c.in_ok-left.right c.in_ok-place.place c.args.index c.copied.result _
    c.in_ok-group.ensures.found c.in_ok-left.was c.in_ok-place.ensures.found (c.copied.ensures ∙ c.get.ensures.value)
