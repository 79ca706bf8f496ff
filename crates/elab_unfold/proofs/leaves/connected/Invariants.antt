use Rattle.std.proofs.Common.{◌≡◌, drop}
use Rattle.vlog_check.specs.Scope.{value_of}
use Rattle.elab_unfold.proofs.leaves.connected.Given as goal

abbrev pub invariant-loop-conn : goal.invariant-loop-conn
invariant-loop-conn l = value_of (drop l.conn-index l.conn-items) l.name ≡ value_of l.conn-items l.name
