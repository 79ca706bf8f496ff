-- Why a call on a netlist stopped.
use Rattle.ila_base.specs.declared.fault.NetFault.{NetFault}
use Rattle.ila_base.specs.declared.fault.NetStop.{NetStop}
use Rattle.ila_base.specs.declared.fault.NetStop.TheVariants.{Refused, NoMemory}

-- the call stopped for a fault of which P holds, or since memory was not found
abbrev pub StopsFor : (NetFault → Type 0) → NetStop → Type 0
StopsFor P (Refused fault) = P fault
StopsFor P NoMemory = Unit {0}
