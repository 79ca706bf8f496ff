-- When two answers are one, and which answers speak of what the call met and not of what it was given.
use Rattle.std.specs.Prelude.{List, ℕ, ⊤}
use Rattle.ila_base.specs.declared.place.Place.{Place}
use Rattle.ila_base.specs.declared.refusal.NetRefusal.TheVariants.{Loop}
use Rattle.ila_top.specs.declared.status.Status.{Status}
use Rattle.ila_top.specs.declared.status.Status.TheVariants.{Done, Netlist, ShelfFault, ReadFault, WriteFault, NoMemory}

-- one answer; of several cycles any may be named
pub data AreSame : Status → Status → Type 0 where
  same : (status : Status) → AreSame status status
  cycles : (names others : List (List ℕ)) (place : Place) → AreSame (Netlist (Loop names) place) (Netlist (Loop others) place)

-- a fault, or want of memory
abbrev pub IsHindrance : Status → Type 0
IsHindrance ShelfFault = ⊤
IsHindrance ReadFault = ⊤
IsHindrance WriteFault = ⊤
IsHindrance NoMemory = ⊤
IsHindrance _ = ⊥

-- done, or memory wasn't found
abbrev pub IsDone : Status → Type 0
IsDone Done = ⊤
IsDone NoMemory = ⊤
IsDone _ = ⊥
