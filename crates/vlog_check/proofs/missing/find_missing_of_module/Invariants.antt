use Rattle.std.proofs.Common.{◌≡◌, ℕ, ◌<◌, List, slice_get, Some, true}
use Rattle.vlog_check.specs.Scope.{is_given}
use Rattle.vlog_check.proofs.missing.find_missing_of_module.Given as goal

abbrev pub invariant-loop-k : goal.invariant-loop-k
invariant-loop-k l = (j k : ℕ) (name : List ℕ) → j < l.k-index → slice_get l.names.inputs.items j ≡ Some k → slice_get l.names.module.now.ports k ≡ Some name → is_given l.i.conns k name ≡ true
