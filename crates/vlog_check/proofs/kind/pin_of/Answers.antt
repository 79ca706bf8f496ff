use Rattle.std.proofs.Common.{subst, ap, sym, ◌∙◌}
use Rattle.vlog_check.specs.Kinds.{IsKind, kind_seen}
use Rattle.vlog_check.specs.Scope.{pin_of}
use Rattle.vlog_check.proofs.kind.pin_of.Goals as goal

pub returns-in-Module : goal.returns-in-Module
returns-in-Module c i is =
    c.pin_of_module.ensures i (subst (IsKind i) c.in-Module.is is) ∙ ap (λ k. pin_of i (kind_seen k) c.args.name.now) (sym c.in-Module.is)
