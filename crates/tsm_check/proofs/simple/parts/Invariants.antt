use Rattle.std.proofs.Common.{◌≡◌, map, take}
use Rattle.tsm_check.specs.declared.types.Formula.TheVariants.{Probe}
use Rattle.tsm_check.proofs.simple.parts.Given as goal

abbrev pub invariant-loop-compare : goal.invariant-loop-compare
invariant-loop-compare l = l.list ≡ map Probe (take l.compare-index l.compares)
