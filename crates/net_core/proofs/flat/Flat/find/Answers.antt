use Rattle.std.proofs.Common.{sym, ◌∙◌, IsSome}
use Rattle.net_core.specs.declared.parts.Group.{Group}
use Rattle.net_core.specs.Lookup.{IsGroupNamed}
use Rattle.net_core.proofs.NetNameLemmas.{no_net_whole, no_net_bit, at_none, none_then}
use Rattle.net_core.proofs.flat.Flat.find.Goals as goal
use Rattle.net_core.proofs.flat.Flat.find.Goals.{Else-is_some}

vectors : (c : Else-is_some) → (group : Group) → IsGroupNamed c.args.self.now c.args.name.now group → IsSome group.range
vectors c =
    at_none c.scalar_named-scalar.result ((group : Group) → IsGroupNamed c.args.self.now c.args.name.now group → IsSome group.range)
    (sym c.is_some.ensures ∙ c.if-is_some.false) (rw c.as_bytes.ensures.value at c.scalar_named-scalar.ensures.missing)

pub returns-in_err-front-clause-missing : goal.returns-in_err-front-clause-missing
returns-in_err-front-clause-missing c =
    rw c.from_residual.ensures (λ number. no_net_whole c.args.self.now c.scalar_named-scalar.ensures.kept c.args.name.now number
    (vectors (goal.at.returns-in_err-front-clause-missing c).Else-is_some) c.in_err-front.ensures.whole)

pub returns-clause-missing : goal.returns-clause-missing
returns-clause-missing c =
    none_then c.vector_bit.result _ _
    (λ missing number. no_net_bit c.args.self.now c.scalar_named-scalar.ensures.kept c.args.name.now c.in_ok-front.front.now c.in_ok-front.index number c.in_ok-front.ensures.small
    (vectors (goal.at.returns-clause-missing c).Else-is_some) c.in_ok-front.ensures.split missing)
    (rw c.as_bytes-2.ensures.value at c.vector_bit.ensures.missing)
