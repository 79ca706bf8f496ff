use Rattle.std.proofs.Common.{ℕ, List, slice_get, refl, ap, ◌∙◌}
use Rattle.flat_settle.proofs.NumberLemmas.{number_at, numbers_grow, numbers_differ}
use Rattle.flat_settle.proofs.numbers.Numbers.number.Goals as goal

pub returns-clause-at : goal.returns-clause-at
returns-clause-at c =
    let stored = c.in_ok-number.ensures.stored in
    number_at (λ key. key.now) c.insert_full.new.self.keys c.in_ok-number.number c.args.name stored.0 c.args.name.now refl stored.1 stored.2

pub returns-clause-grows : goal.returns-clause-grows
returns-clause-grows c = λ n x at.
    numbers_grow (λ key. key.now) c.self.inside.names.keys c.insert_full.new.self.keys c.args.name c.in_ok-number.ensures.keys n x (ap (λ (names : List (List ℕ)). slice_get names n) c.self.view_is ∙ at)

pub returns-clause-differ : goal.returns-clause-differ
returns-clause-differ c = numbers_differ (λ key. key.now) c.insert_full.new.self.keys c.insert_full.ensures.unique
