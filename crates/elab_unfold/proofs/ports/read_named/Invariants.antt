use Rattle.std.proofs.Common.{◌≡◌, ℕ, List, take}
use Rattle.std.specs.Option.{option_map, option_copied}
use Rattle.vlog_check.specs.Scope.{value_of}
use Rattle.elab_unfold.proofs.ports.read_named.Given as goal

abbrev pub invariant-loop-conn : goal.invariant-loop-conn
invariant-loop-conn l = (name : List ℕ) → option_map option_copied (value_of l.given name) ≡ value_of (take l.conn-index l.conns) name
