use Rattle.std.proofs.Common.{◌≡◌, map}
use Rattle.vlog_parse.specs.Items.{gate_item}
use Rattle.vlog_parse.proofs.gates.gates.Given as goal

abbrev pub invariant-gates : goal.invariant-gates
invariant-gates l = l.items ≡ map (gate_item l.kind) l.yielded
