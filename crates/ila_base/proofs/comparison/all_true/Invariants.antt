use Rattle.std.proofs.Common.{◌≡◌, drop}
use Rattle.std.specs.List.{list_all}
use Rattle.ila_base.specs.Comparison.{is_true}
use Rattle.ila_base.proofs.comparison.all_true.Given as goal

abbrev pub invariant-loop-compare : goal.invariant-loop-compare
invariant-loop-compare l = list_all (is_true l.before l.now) (drop l.compare-index l.compares) ≡ list_all (is_true l.before l.now) l.compares
