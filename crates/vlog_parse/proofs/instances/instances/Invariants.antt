use Rattle.std.proofs.Common.{◌≡◌, map}
use Rattle.vlog_parse.specs.Items.{inst_item}
use Rattle.vlog_parse.proofs.instances.instances.Given as goal

abbrev pub invariant-insts : goal.invariant-insts
invariant-insts l = l.items ≡ map (inst_item l.cell l.found) l.yielded
