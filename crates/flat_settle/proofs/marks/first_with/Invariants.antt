use Rattle.std.proofs.Common.{◌≡◌, ℕ, ◌<◌, true}
use Rattle.net_graph.specs.Lists.{is_marked}
use Rattle.flat_settle.proofs.marks.first_with.Given as goal

abbrev pub invariant-loop-number : goal.invariant-loop-number
invariant-loop-number l = (m : ℕ) → m < l.number → is_marked l.marks m ≡ true → is_marked l.others m ≡ l.want → ⊥
