use Rattle.std.proofs.Common.{◌≡◌, take}
use Rattle.std.specs.Option.{option_to_list}
use Rattle.vlog_check.specs.Cells.{values_of}
use Rattle.vlog_check.proofs.params.only_amount.Given as goal

abbrev pub invariant-loop-param : goal.invariant-loop-param
invariant-loop-param l = values_of l.own (take l.param-index l.params) ≡ option_to_list l.seen
