use Rattle.std.proofs.Common.{◌≡◌, length}
use Rattle.net_core.specs.Drivers.{AreDrivers}
use Rattle.net_core.proofs.drivers.driver_table.Given as goal

abbrev pub invariant-loop-number : goal.invariant-loop-number
invariant-loop-number l = record { size : length l.table.items ≡ l.fn.count; named : AreDrivers l.cells l.number l.table.items }
