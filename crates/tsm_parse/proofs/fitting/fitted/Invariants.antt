use Rattle.std.proofs.Common.{◌≡◌, ◌++◌, take}
use Rattle.std.specs.Prelude.{replicate}
use Rattle.ila_base.specs.declared.compare.Digit.TheVariants.{Zero}
use Rattle.tsm_parse.proofs.fitting.fitted.Given as goal

abbrev pub invariant-loop-place : goal.invariant-loop-place
invariant-loop-place l = l.list.items ≡ take l.place (l.digits ++ replicate l.width Zero)
