-- The nets on which an output pin depends, as the lists that the code makes.
use Rattle.std.specs.Prelude.{◌≡◌, ℕ, ◌<◌, true, List, ◌++◌, slice_get, Some, ◌↔◌}
use Rattle.net_core.specs.declared.parts.Pin.TheVariants as pins
use Rattle.net_core.specs.declared.parts.Cell.{Cell}
use Rattle.net_core.specs.CellTable.{depends}
use Rattle.net_core.specs.Netlist.{IsIn}

-- an input pin below the bound is on net m, and output pin k depends on it
pub record IsNeeded (cell : Cell) (k bound m : ℕ) : Type 0 where
  pub i : ℕ
  pub low : i < bound
  pub from : slice_get cell.ins i ≡ Some (pins.Net (record { 0 = m }))
  pub depends_on : depends cell.kind k i ≡ true

-- the list has these numbers behind it, and no others
pub record Adds (old new : List ℕ) (P : ℕ → Type 0) : Type 0 where
  pub added : List ℕ
  pub is : new ≡ old ++ added
  pub each : (m : ℕ) → IsIn added m ↔ P m
