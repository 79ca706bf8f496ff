use Rattle.std.proofs.Common.{◌≡◌, ◌↔◌, IsTrue, subst, sym, rules}
use Rattle.net_core.specs.Netlist.{parts_of, IsDriven, is_driven}
use Rattle.net_core.specs.WellFormed.{IsFlat}
use Rattle.net_core.proofs.flat.Flat.is_driven.Goals as goal

pub returns-clause-means : goal.returns-clause-means
returns-clause-means c =
    let value : c.unwrap_or.result ≡ is_driven c.args.self.now c.args.net.0 = search rules in
    let flat : IsFlat c.args.self.now = subst IsFlat c.self.view_is c.self.invariant.flat in
    subst (λ b. IsTrue b ↔ IsDriven (parts_of c.args.self.now) c.args.net.0) (sym value) (flat.tables.driven c.args.net.0)
