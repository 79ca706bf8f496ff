use Rattle.std.proofs.Common.{take}
use Rattle.vlog_check.specs.Names.{IsNumbering}
use Rattle.vlog_check.specs.Scope.{module_names}
use Rattle.elab_scope.proofs.numbers.read_modules.Given as goal

abbrev pub invariant-loop-k : goal.invariant-loop-k
invariant-loop-k l = IsNumbering l.numbers (module_names (take l.k l.tree.modules))
