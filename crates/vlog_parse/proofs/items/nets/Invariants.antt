use Rattle.std.proofs.Common.{◌≡◌, map}
use Rattle.vlog_parse.specs.Items.{net_of}
use Rattle.vlog_parse.proofs.items.nets.Given as goal

abbrev pub invariant-names : goal.invariant-names
invariant-names l = l.items ≡ map (net_of l.dir l.range) l.yielded
