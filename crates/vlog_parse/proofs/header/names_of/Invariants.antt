use Rattle.std.proofs.Common.{◌≡◌, map}
use Rattle.vlog_parse.specs.Design.{named_name}
use Rattle.vlog_parse.proofs.header.names_of.Given as goal

abbrev pub invariant-names : goal.invariant-names
invariant-names l = l.names ≡ map named_name l.yielded
