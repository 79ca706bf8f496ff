use Rattle.std.proofs.Common.{◌⊎◌, subst, sym}
use Rattle.vlog_parse.specs.ReadTree.{IsReadTree}
use Rattle.vlog_check.specs.Checked.{Finds}
use Rattle.vlog_check.specs.Design.{FindsEarly, FindsLate}
use Rattle.vlog_check.specs.Found.{IsLeastFinding, FindsAmong}
use Rattle.vlog_check.proofs.DesignLaws.{to_finds, from_finds}
use Rattle.vlog_check.proofs.LeastLaws.{least_as, least_joined}
use Rattle.vlog_check.proofs.design.find_all.Goals as goal

pub find_in_modules-requires : goal.find_in_modules-requires
find_in_modules-requires c = record { scope = c.in_ok-scope.ensures.scope; tree = subst IsReadTree (sym c.in_ok-scope.ensures.own) c.requires }

pub returns-clause-least : goal.returns-clause-least
returns-clause-least c =
    let tree = c.args.tree.now in
    least_as (λ f. FindsAmong (FindsEarly tree.modules) tree.modules f ⊎ FindsAmong (FindsLate tree) tree.modules f) (Finds tree) c.earlier.result (to_finds tree) (from_finds tree)
    (least_joined (FindsAmong (FindsEarly tree.modules) tree.modules) (FindsAmong (FindsLate tree) tree.modules) c.in_ok-scope.first c.in_ok-second.second c.earlier.result c.in_ok-scope.ensures.least
    (subst (λ t. IsLeastFinding (FindsAmong (FindsLate t) t.modules) c.in_ok-second.second) c.in_ok-scope.ensures.own c.in_ok-second.ensures) c.earlier.ensures)
