use Rattle.std.proofs.Common.{◌≡◌, ◌++◌}
use Rattle.vlog_parse.proofs.modules.append.Given as goal

abbrev pub invariant-items : goal.invariant-items
invariant-items l = l.items ≡ l.fn.items ++ l.yielded
