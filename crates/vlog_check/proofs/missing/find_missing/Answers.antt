use Rattle.std.proofs.Common.{subst, sym}
use Rattle.vlog_check.specs.Found.{IsLeastFinding, FindsAmong}
use Rattle.vlog_check.specs.FindingPins.{FindsMissing}
use Rattle.vlog_check.specs.Kinds.{kind_seen}
use Rattle.vlog_check.specs.Scope.{pin_names}
use Rattle.vlog_check.proofs.missing.find_missing.Goals as goal

pub returns-in_ok-found-in-Cell : goal.returns-in_ok-found-in-Cell
returns-in_ok-found-in-Cell c = subst (λ k. IsLeastFinding (FindsAmong (FindsMissing c.args.i.now (kind_seen k)) (pin_names (kind_seen k))) c.in_ok-found-in-Cell.found) (sym c.in-Cell.is) c.in_ok-found-in-Cell.ensures

pub returns-in_ok-found-in-Module : goal.returns-in_ok-found-in-Module
returns-in_ok-found-in-Module c = subst (λ k. IsLeastFinding (FindsAmong (FindsMissing c.args.i.now (kind_seen k)) (pin_names (kind_seen k))) c.in_ok-found-in-Module.found) (sym c.in-Module.is) c.in_ok-found-in-Module.ensures
