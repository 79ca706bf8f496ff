use Rattle.net_core.specs.Drivers.{NamesOutputs}
use Rattle.net_core.proofs.drivers.feed.Given as goal

abbrev pub invariant-loop-pin : goal.invariant-loop-pin
invariant-loop-pin l = NamesOutputs l.outs l.cell l.pin l.initial.table.items l.table.items
