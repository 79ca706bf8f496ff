use Rattle.std.proofs.Common.{ap, subst, ◌∙◌, IsSome, is_some}
use Rattle.net_core.specs.declared.parts.Group.{Group}
use Rattle.net_core.proofs.NetNameLemmas.{scalar_found, scalar_there, same_group}
use Rattle.net_core.proofs.flat.Flat.scalar_named.Goals as goal

pub returns-in_err-group-clause-missing : goal.returns-in_err-group-clause-missing
returns-in_err-group-clause-missing c = rw c.from_residual.ensures (λ group named. absurd (c.in_err-group.ensures.missing group named))

pub returns-in-None-clause-found : goal.returns-in-None-clause-found
returns-in-None-clause-found c =
    scalar_found c.args.self.now c.group_named.ensures.kept c.args.name.now c.in_ok-group.group.now c.copied.result c.in_ok-group.ensures.found c.in-None.is (c.copied.ensures ∙ c.get.ensures.value)

pub returns-in-None-clause-missing : goal.returns-in-None-clause-missing
returns-in-None-clause-missing c =
    scalar_there c.args.self.now c.group_named.ensures.kept c.args.name.now c.in_ok-group.group.now c.copied.result _ c.in_ok-group.ensures.found c.in-None.is (c.copied.ensures ∙ c.get.ensures.value)

pub returns-in-Some-clause-missing : goal.returns-in-Some-clause-missing
returns-in-Some-clause-missing c = λ group named.
    let same = same_group c.args.self.now c.group_named.ensures.kept c.args.name.now c.in_ok-group.group.now group c.in_ok-group.ensures.found named in
    subst (λ (g : Group). IsSome g.range) same (ap is_some c.in-Some.is)
