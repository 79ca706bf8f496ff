use Rattle.std.proofs.Common.{◌≡◌, map, get_or, ◌==◌, ◌^◌, List, ℕ, subst}
use Rattle.net_core.proofs.ClockLemmas.{clock_marked, ok_then}
use Rattle.net_core.proofs.tables.clock_table.Goals as goal

pub returns : goal.returns
returns c =
    ok_then c.same_as.result _ _
    (λ table is. clock_marked c.args.cells.now c.args.count c.in_ok-sources.sources.items c.in_ok-sources.ensures c.requires.driven c.requires.one_driver c.requires.read
    c.in_ok-back.back.items table.items c.args.clock.0 (2 ^ 20) c.requires.few c.requires.clock c.in_ok-back.ensures
    (subst (λ (xs : List ℕ). table.items ≡ map (λ other. other == get_or xs c.args.clock.0 0) xs) c.as_slice.ensures.value is))
    c.same_as.ensures
