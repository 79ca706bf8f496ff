use Rattle.std.proofs.Common.{◌≡◌, ◌↔◌, IsTrue, subst, sym, rules}
use Rattle.net_core.specs.Netlist.{parts_of, IsClock, is_clock}
use Rattle.net_core.specs.WellFormed.{IsFlat}
use Rattle.net_core.proofs.flat.Flat.is_clock.Goals as goal

pub returns-clause-means : goal.returns-clause-means
returns-clause-means c =
    let value : c.unwrap_or.result ≡ is_clock c.args.self.now c.args.net.0 = search rules in
    let flat : IsFlat c.args.self.now = subst IsFlat c.self.view_is c.self.invariant.flat in
    subst (λ b. IsTrue b ↔ IsClock (parts_of c.args.self.now) c.args.net.0) (sym value) (flat.tables.clocked c.args.net.0)
